-- Numbers outside a range, the cells that they become, and lengths that fit 32 bits or not.
use Rattle.std.proofs.Common.{◌≡◌, ℕ, arith, nat_lt, zero, suc, ◌^◌, ◌≤◌, true, false, pos, neg_ℤ, refl, ◌≢◌, ◌-◌}
use Rattle.std.proofs.lemmas.Bool.Decides.{nat_tests}
use Rattle.read_laws.specs.Bounded.{number_cell}
use Rattle.read_laws.specs.DerivedStmts.{length_32}
use Rattle.read_laws.specs.ExprReader.{signed_cell}
use Rattle.read_laws.specs.Unread.{unread_cell}
use Rattle.sql_grammar.specs.Refused.{is_out_of_range}
use Rattle.sql_grammar.specs.Statements.{length_of}

-- ## The signed 64-bit range

pub past_range : (n : ℕ) → is_out_of_range (pos n) ≡ nat_lt 9223372036854775807 n
past_range n = grind (arith, nat_tests)

-- ## Cells

pub signed_plain : (n : ℕ) → signed_cell false n ≡ number_cell (pos n)
signed_plain n = grind (arith, nat_tests)

pub signed_negative : (n : ℕ) → signed_cell true n ≡ number_cell (neg_ℤ (pos n))
signed_negative zero = refl
signed_negative (suc n) = grind (arith, nat_tests)

pub great_plain : (n : ℕ) → 2 ^ 64 ≤ n → unread_cell ≡ number_cell (pos n)
great_plain n h = grind (arith, nat_tests)

pub great_negative : (n : ℕ) → 2 ^ 64 ≤ n → unread_cell ≡ number_cell (neg_ℤ (pos n))
great_negative zero h = absurd (omega arith)
great_negative (suc n) h = grind (arith, nat_tests)

-- ## Lengths

pub great_length : (n : ℕ) → 2 ^ 64 ≤ n → length_32 (length_of n) ≡ 2 ^ 32 - 1
great_length n h = grind (arith, nat_tests)

pub small_length : (n : ℕ) → n ≢ 0 → length_32 (length_of n) ≡ length_32 n
small_length n h = grind (arith, nat_tests)
