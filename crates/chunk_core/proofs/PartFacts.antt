-- The facts of the cells of numbers.
use Rattle.std.proofs.Common.{◌≡◌, ℕ, suc, zero, ◌+◌, ◌*◌, ◌<◌, Bool, true, List, [], ◌∷◌, length, map, refl, sym, ap, ◌∙◌, arith}
use Rattle.std.specs.Prelude.{◌&&◌, ℤ}
use Rattle.std.proofs.lemmas.List.Sums.{sum_by-cons}
use Rattle.std.proofs.Math.Bool.{and-true}
use Rattle.cell_core.specs.declared.cell.Cell.{Cell}
use Rattle.cell_core.specs.declared.cell.Cell.TheVariants.{Int, Day, Bit, Oid}
use Rattle.cell_core.specs.Order.{cell_bytes}
use Rattle.chunk_core.specs.Facts.{neighbours_from, is_next_oid, cells_bytes}
use Rattle.chunk_core.specs.Filled.{oids_from}
use Rattle.chunk_core.proofs.FilledLemmas.{oids_neighbours}
use Rattle.std.proofs.lemmas.Bool.{eq-eqb}

pub ints_bytes : (ns : List ℤ) → cells_bytes (map Int ns) ≡ 8 * length ns
ints_bytes [] = refl
ints_bytes (n ∷ ns) = omega (arith, sum_by-cons cell_bytes (Int n) (map Int ns), ints_bytes ns)

pub day_bytes : (ns : List ℤ) → cells_bytes (map Day ns) ≡ 8 * length ns
day_bytes [] = refl
day_bytes (n ∷ ns) = omega (arith, sum_by-cons cell_bytes (Day n) (map Day ns), day_bytes ns)

pub oid_bytes : (ns : List ℕ) → cells_bytes (map Oid ns) ≡ 8 * length ns
oid_bytes [] = refl
oid_bytes (n ∷ ns) = omega (arith, sum_by-cons cell_bytes (Oid n) (map Oid ns), oid_bytes ns)

pub next_is_next : (m : ℕ) → is_next_oid (Oid m) (Oid (m + 1)) ≡ true
next_is_next m = eq-eqb (m + 1) (m + 1) refl

pub count_below : (p : Cell → Cell → Bool) → ((m : ℕ) → p (Oid m) (Oid (m + 1)) ≡ true) → (c : Cell) (from n : ℕ) → 0 < n → p c (Oid from) ≡ neighbours_from p c (oids_from from n)
count_below p next c from zero some = absurd (omega arith)
count_below p next c from (suc n) some =
    sym (and-true (p c (Oid from))) ∙ ap (λ b. p c (Oid from) && b) (sym (oids_neighbours p next from n))

pub bit_bytes : (bits : List Bool) → cells_bytes (map Bit bits) ≡ length bits
bit_bytes [] = refl
bit_bytes (b ∷ bs) = omega (arith, sum_by-cons cell_bytes (Bit b) (map Bit bs), bit_bytes bs)
