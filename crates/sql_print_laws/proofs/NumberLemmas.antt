-- How great the numbers of signed 64 bits are.
use Rattle.std.proofs.Common.{◌≡◌, ℕ, ◌<◌, ◌^◌, Bool, true, false, not, IsTrue, ℤ, pos, negsuc, refl, arith}
use Rattle.std.proofs.lemmas.Bool.Decides.{nat_tests}
use Rattle.cell_core.specs.Calc.{fits_int}
use Rattle.sql_grammar.specs.Refused.{is_out_of_range}

pub below_limit : (n : ℕ) → IsTrue (fits_int (pos n)) → n < 2 ^ 63
below_limit n fits = grind (arith, nat_tests)

pub negative_below_limit : (n : ℕ) → IsTrue (fits_int (negsuc n)) → n < 2 ^ 63
negative_below_limit n fits = grind (arith, nat_tests)

pub in_range : (z : ℤ) → is_out_of_range z ≡ false → IsTrue (fits_int z)
in_range z within = go (fits_int z) within
  where
    go : (b : Bool) → not b ≡ false → b ≡ true
    go true e = refl
    go false e = cc
