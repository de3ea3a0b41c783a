-- Heads beside counts and beside one cell.
use Rattle.std.proofs.Common.{◌≡◌, ℕ, inl, inr, cond, suc, zero, ◌+◌, ◌%◌, ◌^◌, ◌<◌, ◌≤◌, [], ◌∷◌, length, map, refl, sym, ap, ◌∙◌, arith}
use Rattle.std.specs.Prelude.{replicate}
use Rattle.std.specs.List.{zip, range_with_len, enumerate_from}
use Rattle.std.proofs.Math.Nat.{mod-eq_of_lt}
use Rattle.std.proofs.lemmas.Bool.{ne_eqb}
use Rattle.std.proofs.lemmas.Bool.Decides.{eqb_tells}
use Rattle.cell_core.specs.declared.cell.Cell.{Cell}
use Rattle.cell_core.specs.declared.cell.Cell.TheVariants.{Nil, Int, Huge, Text, Day, Bit, Oid}
use Rattle.cell_core.specs.Pairs.{Pairs, heads_of}
use Rattle.cell_core.specs.Relations.{marked, counted_from, projected}
use Rattle.chunk_core.specs.Filled.{oids_from}

-- the heads beside the counts from a place on
marks_from : (base : Cell) (k : ℕ) (b : Pairs) → zip (heads_of b) (map (counted_from base) (range_with_len k (length b))) ≡ map (λ (n : ℕ × (Cell × Cell)). (n.1.0, counted_from base n.0)) (enumerate_from k b)
marks_from base k [] = refl
marks_from base k (p ∷ ps) = ap (λ l. (p.0, counted_from base k) ∷ l) (marks_from base (k + 1) ps)

pub marks : (base : Cell) (b : Pairs) → zip (heads_of b) (map (counted_from base) (range_with_len 0 (length b))) ≡ marked base b
marks base b = marks_from base 0 b

-- oids that don't wrap are the counts from the first
count_is : (from k : ℕ) → from + k < 2 ^ 64 → Oid (from + k) ≡ counted_from (Oid from) k
count_is from k small =
    elim (eqb_tells from 0) [
      | inl none ↦ let same : from + k ≡ k = omega (arith, none.1) in ap Oid (same ∙ ap (λ b. cond b k ((from + k) % 2 ^ 64)) (sym none.0))
      | inr some ↦ ap Oid (sym (mod-eq_of_lt small) ∙ ap (λ b. cond b k ((from + k) % 2 ^ 64)) (sym some.0))
    ]

-- from a number other than 0 on the counts wrap
pub wrapped_is : (from k : ℕ) → 0 < from → Oid ((from + k) % 2 ^ 64) ≡ counted_from (Oid from) k
wrapped_is from k some = ap (λ b. Oid (cond b k ((from + k) % 2 ^ 64))) (sym (ne_eqb from 0 (λ e. omega (arith, e))))

oids_counted : (from k n : ℕ) → from + k + n ≤ 2 ^ 64 → oids_from (from + k) n ≡ map (counted_from (Oid from)) (range_with_len k n)
oids_counted from k zero small = refl
oids_counted from k (suc n) small =
    let there : from + k + 1 ≡ from + (k + 1) = omega arith in
    ap (λ c. c ∷ oids_from (from + k + 1) n) (count_is from k (omega arith))
    ∙ ap (λ cells. counted_from (Oid from) k ∷ cells) (ap (λ m. oids_from m n) there ∙ oids_counted from (k + 1) n (omega arith))

pub oids_count : (from n : ℕ) → from + n < 2 ^ 64 → oids_from from n ≡ map (counted_from (Oid from)) (range_with_len 0 n)
oids_count from n small =
    let here : from ≡ from + 0 = omega arith in
    ap (λ k. oids_from k n) here ∙ oids_counted from 0 n (omega arith)

-- a base that is no oid yields Nil at each place
nils_from : (k n : ℕ) → replicate n Nil ≡ map (counted_from Nil) (range_with_len k n)
nils_from k zero = refl
nils_from k (suc n) = ap (λ l. Nil ∷ l) (nils_from (k + 1) n)

pub nils : (base : Cell) (n : ℕ) → ((from : ℕ) → base ≡ Oid from → ⊥) → replicate n Nil ≡ map (counted_from base) (range_with_len 0 n)
nils Nil n other = nils_from 0 n
nils (Int m) n other = nils_from 0 n
nils (Huge m) n other = nils_from 0 n
nils (Text bs) n other = nils_from 0 n
nils (Day m) n other = nils_from 0 n
nils (Bit b) n other = nils_from 0 n
nils (Oid m) n other = absurd (other m refl)

-- the heads beside one cell
pub projects : (cell : Cell) (b : Pairs) → zip (heads_of b) (replicate (length b) cell) ≡ projected cell b
projects cell [] = refl
projects cell (p ∷ ps) = ap (λ l. (p.0, cell) ∷ l) (projects cell ps)
