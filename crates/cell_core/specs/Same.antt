-- When two cells are the same, and that this decides equality.
use Rattle.std.specs.Prelude.{◌≡◌, ◌==◌, Bool, true, false, refl}
use Rattle.std.specs.Bool.{Decides}
use Rattle.std.specs.Str.{bytes_eq}
use Rattle.std.specs.Ordering.{int_eq}
use Rattle.std.specs.Cmp.{IsEquivalence, booleans_Decides}
use Rattle.std.proofs.Math.Bool.{beq}
use Rattle.std.proofs.Common.{ap, sym}
use Rattle.std.proofs.lemmas.Bool.Decides.{Decides-eqb, Decides-int_eq, Decides-like, same_from_decides}
use Rattle.std.proofs.lemmas.Slice.Eq.{bytes_eq-Decides}
use Rattle.cell_core.specs.declared.cell.Cell.{Cell}
use Rattle.cell_core.specs.declared.cell.Cell.TheVariants.{Nil, Int, Huge, Text, Day, Bit, Oid}

-- the same kind and the same value: a number as Int and the same as Huge are two cells
abbrev pub same_cell : Cell → Cell → Bool
same_cell Nil Nil = true
same_cell (Int a) (Int b) = int_eq a b
same_cell (Huge a) (Huge b) = int_eq a b
same_cell (Text a) (Text b) = bytes_eq a b
same_cell (Day a) (Day b) = int_eq a b
same_cell (Bit a) (Bit b) = beq a b
same_cell (Oid a) (Oid b) = a == b
same_cell _ _ = false

-- the test is true exactly of equal cells
pub same_decides : (a b : Cell) → Decides (same_cell a b) (a ≡ b)
same_decides Nil Nil = (λ _. refl, λ _. refl)
same_decides (Int a) (Int b) = Decides-like _ (λ e. ap Int e) (λ e. cc) (Decides-int_eq a b)
same_decides (Huge a) (Huge b) = Decides-like _ (λ e. ap Huge e) (λ e. cc) (Decides-int_eq a b)
same_decides (Text a) (Text b) = Decides-like _ (λ e. ap Text e) (λ e. cc) (bytes_eq-Decides a b)
same_decides (Day a) (Day b) = Decides-like _ (λ e. ap Day e) (λ e. cc) (Decides-int_eq a b)
same_decides (Bit a) (Bit b) = Decides-like _ (λ e. ap Bit e) (λ e. cc) (booleans_Decides a b)
same_decides (Oid a) (Oid b) = Decides-like _ (λ e. ap Oid e) (λ e. cc) (Decides-eqb a b)
same_decides _ _ = (λ e. cc, λ e. cc)

same_swaps : (a b : Cell) → same_cell a b ≡ same_cell b a
same_swaps a b = same_from_decides _ _ (same_decides a b) (Decides-like _ (λ e. sym e) (λ e. sym e) (same_decides b a))

same_along : (a b c : Cell) → same_cell a b ≡ true → same_cell a c ≡ same_cell b c
same_along a b c e = ap (λ x. same_cell x c) ((same_decides a b).0 e)

pub same_equivalence : IsEquivalence same_cell
same_equivalence = record {
  refl = λ a. (same_decides a a).1 refl;
  symm = same_swaps;
  congr = same_along;
}
