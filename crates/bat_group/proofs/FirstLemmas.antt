-- Oids from 0 on, of which each is its own number.
use Rattle.std.proofs.Common.{◌≡◌, ℕ, suc, zero, ◌+◌, ◌<◌, ◌≤◌, ◌==◌, Bool, true, false, not, cond, List, [], ◌∷◌, ◌++◌, length, refl, sym, ap, ◌∙◌, arith}
use Rattle.std.specs.List.{position_or_len}
use Rattle.std.proofs.lemmas.Bool.{eqb-true, eqb-false}
use Rattle.cell_core.specs.declared.cell.Cell.{Cell}
use Rattle.cell_core.specs.declared.cell.Cell.TheVariants.{Oid}
use Rattle.cell_core.specs.Same.{same_cell}
use Rattle.chunk_core.specs.Filled.{oids_from}
use Rattle.chunk_core.proofs.FilledLemmas.{oids_append}
use Rattle.chunk_core.proofs.PartLemmas.{length_oids}
use Rattle.bat_group.specs.Numbers.{with_first, AreFirsts}
use Rattle.bat_group.specs.declared.firsts.Firsts.{Firsts}
use Rattle.bat_group.specs.declared.firsts.Firsts.TheVariants as firsts
use Rattle.bat_group.proofs.NumberLemmas.{found_by_number, missed_by_number}

abbrev is_oid : ℕ → Cell → Bool
is_oid oid y = same_cell y (Oid oid)

place_from_low : (low n oid : ℕ) → low ≤ oid → oid ≤ low + n → position_or_len (is_oid oid) (oids_from low n) + low ≡ oid
place_from_low low zero oid a b = omega (arith, a, b)
place_from_low low (suc n) oid a b =
    elim (low == oid) as (λ x. (low == oid) ≡ x → cond (not x) (1 + position_or_len (is_oid oid) (oids_from (low + 1) n)) 0 + low ≡ oid) [
      | true ↦ λ e. let same : low ≡ oid = eqb-true low oid e in omega (arith, same)
      | false ↦ λ e. let other : low ≡ oid → ⊥ = eqb-false low oid e in omega (arith, a, b, other, place_from_low (low + 1) n oid (omega (arith, a, other)) (omega (arith, b)))
    ] refl

-- the number of an oid among the first, or right after them, is itself
pub oid_place : (count oid : ℕ) → oid ≤ count → position_or_len (is_oid oid) (oids_from 0 count) ≡ oid
oid_place count oid h = omega (arith, place_from_low 0 count oid (omega arith) (omega (arith, h)))

-- an oid that was met changes nothing
pub oid_met : (count oid : ℕ) → oid < count → with_first same_cell (oids_from 0 count) (Oid oid) ≡ oids_from 0 count
oid_met count oid h =
    ap (λ b. cond b (oids_from 0 count) (oids_from 0 count ++ Oid oid ∷ []))
    (found_by_number (is_oid oid) (oids_from 0 count) (omega (arith, h, oid_place count oid (omega (arith, h)), length_oids 0 count)))

-- and the next one is met with the next number
pub oid_next : (count : ℕ) → with_first same_cell (oids_from 0 count) (Oid count) ≡ oids_from 0 (count + 1)
oid_next count =
    ap (λ b. cond b (oids_from 0 count) (oids_from 0 count ++ Oid count ∷ []))
    (missed_by_number (is_oid count) (oids_from 0 count) (oid_place count count (omega arith) ∙ sym (length_oids 0 count)))
    ∙ ap (λ k. oids_from 0 count ++ oids_from k 1) (let same : count ≡ 0 + count = omega arith in same) ∙ sym (oids_append 0 count 1)

-- the next number is how many were met
pub firsts_counted : (met : Firsts) (count : ℕ) (cells : List Cell) → AreFirsts met count cells → count ≡ length cells
firsts_counted firsts.Oids count cells are = sym (length_oids 0 count) ∙ ap length (sym are)
firsts_counted (firsts.Cells numbers) count cells are = are.counted
