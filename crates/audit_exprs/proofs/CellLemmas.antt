-- The cells, counts and widths of numbers that are cut off at the first past 64 bits.
use Rattle.std.proofs.Common.{◌≡◌, ◌≢◌, ℕ, ◌+◌, ◌*◌, ◌<◌, ◌≤◌, ◌^◌, ◌-◌, min, List, [], ◌∷◌, true, false, pos, neg_ℤ, ap, ◌∙◌, arith}
use Rattle.std.proofs.lemmas.Bool.Decides.{nat_tests}
use Rattle.std.specs.Char.{digit_value}
use Rattle.std.specs.Str.Parse.{digits_value_after}
use Rattle.cell_core.specs.declared.cell.Cell.TheVariants as cell
use Rattle.read_laws.proofs.NumberLemmas.{signed_plain, signed_negative}
use Rattle.read_laws.specs.Bounded.{number_cell}
use Rattle.read_laws.specs.DerivedStmts.{length_32}
use Rattle.read_laws.specs.ExprReader.{signed_cell}
use Rattle.read_laws.specs.Unread.{unread_cell}
use Rattle.sql_grammar.specs.Statements.{length_of}

-- digits after a number make it no smaller
pub value_grows : (n : ℕ) (ds : List ℕ) → n ≤ digits_value_after 10 n ds
value_grows n [] = omega arith
value_grows n (d ∷ ds) = let more = value_grows (n * 10 + digit_value d) ds in omega (arith, more)

-- ## Cells

plain : (n : ℕ) → n < 2 ^ 63 → cell.Int (pos n) ≡ number_cell (pos n)
plain n h = let small : cell.Int (pos n) ≡ signed_cell false n = grind (arith, nat_tests) in small ∙ signed_plain n

pub plain_small : (m n : ℕ) → m ≡ min (2 ^ 64) n → m < 2 ^ 63 → cell.Int (pos m) ≡ number_cell (pos n)
plain_small m n h k = let same : m ≡ n = omega arith in ap (λ m. cell.Int (pos m)) same ∙ plain n (omega arith)

pub plain_great : (m n : ℕ) → m ≡ min (2 ^ 64) n → 2 ^ 63 ≤ m → unread_cell ≡ number_cell (pos n)
plain_great m n h k = let great : unread_cell ≡ signed_cell false n = grind (arith, nat_tests) in great ∙ signed_plain n

negative : (n : ℕ) → n ≤ 2 ^ 63 → cell.Int (neg_ℤ (pos n)) ≡ number_cell (neg_ℤ (pos n))
negative n h = let small : cell.Int (neg_ℤ (pos n)) ≡ signed_cell true n = grind (arith, nat_tests) in small ∙ signed_negative n

pub negative_small : (m n : ℕ) → m ≡ min (2 ^ 64) n → m ≤ 2 ^ 63 → cell.Int (neg_ℤ (pos m)) ≡ number_cell (neg_ℤ (pos n))
negative_small m n h k = let same : m ≡ n = omega arith in ap (λ m. cell.Int (neg_ℤ (pos m))) same ∙ negative n (omega arith)

pub negative_great : (m n : ℕ) → m ≡ min (2 ^ 64) n → 2 ^ 63 < m → unread_cell ≡ number_cell (neg_ℤ (pos n))
negative_great m n h k = let great : unread_cell ≡ signed_cell true n = grind (arith, nat_tests) in great ∙ signed_negative n

-- ## Widths

pub no_width : (m n : ℕ) → m ≡ min (2 ^ 64) n → m ≡ 0 → 65536 ≡ length_32 (length_of n)
no_width m n h k = grind (arith, nat_tests)

pub some_width : (m n : ℕ) → m ≡ min (2 ^ 64) n → m ≢ 0 → m < 2 ^ 32 → m ≡ length_32 (length_of n)
some_width m n h k small = grind (arith, nat_tests)

pub great_width : (m n : ℕ) → m ≡ min (2 ^ 64) n → 2 ^ 32 ≤ m → 2 ^ 32 - 1 ≡ length_32 (length_of n)
great_width m n h k = grind (arith, nat_tests)
