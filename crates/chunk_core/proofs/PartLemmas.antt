-- The cells of numbers.
use Rattle.std.proofs.Common.{◌≡◌, ℕ, suc, zero, ◌+◌, ◌-◌, ◌<◌, ◌≤◌, length, get_or, take, drop, refl, ap, ◌∙◌, arith}
use Rattle.std.proofs.lemmas.List.FromFn.{length-map-range_with_len, take-map-range_with_len, get_or-map-range_with_len}
use Rattle.cell_core.specs.declared.cell.Cell.{Cell}
use Rattle.cell_core.specs.declared.cell.Cell.TheVariants.{Oid}
use Rattle.chunk_core.specs.Filled.{oids_from}

pub length_oids : (from n : ℕ) → length (oids_from from n) ≡ n
length_oids from n = length-map-range_with_len Oid from n

pub take_oids : (from n k : ℕ) → k ≤ n → take k (oids_from from n) ≡ oids_from from k
take_oids from n k small = take-map-range_with_len Oid from n k small

pub get_oids : (from n i : ℕ) (d : Cell) → i < n → get_or (oids_from from n) i d ≡ Oid (from + i)
get_oids from n i d within = get_or-map-range_with_len Oid from n i (from + i) d within refl

pub drop_oids : (from n k : ℕ) → k ≤ n → drop k (oids_from from n) ≡ oids_from (from + k) (n - k)
drop_oids from n zero small =
    let same : n ≡ n - 0 = omega arith in
    let here : from ≡ from + 0 = omega arith in
    ap (λ m. oids_from from m) same ∙ ap (λ f. oids_from f (n - 0)) here
drop_oids from zero (suc k) small = absurd (omega arith)
drop_oids from (suc n) (suc k) small =
    let there : from + 1 + k ≡ from + suc k = omega arith in
    let left : n - k ≡ suc n - suc k = omega arith in
    drop_oids (from + 1) n k (omega arith) ∙ ap (λ f. oids_from f (n - k)) there ∙ ap (λ m. oids_from (from + suc k) m) left
