-- What a look finds, case by case.
use Rattle.std.proofs.Common.{◌≡◌, ℕ, ◌<◌, List, [], ◌∷◌, Bool, true, false, ◌||◌, None, refl, ap, sym, ◌∙◌, length, slice_index_or}
use Rattle.std.specs.Prelude.{if◌then◌else◌, ◌==◌}
use Rattle.std.specs.List.{list_any, slice_get}
use Rattle.std.proofs.lemmas.Bool.Decides.{Decides-eqb}
use Rattle.lineage_key.specs.declared.key.Key.{Key}
use Rattle.lineage_key.specs.Parents.{is_named, parents_of}
use Rattle.lineage_key.specs.Spans.{span_asked}
use Rattle.evict_admit.specs.Runs.{is_one_of}
use Rattle.pool_policy.specs.declared.entry.PoolEntry.{PoolEntry}
use Rattle.pool_policy.specs.Keyed.{entry_of_key, first_parent}
use Rattle.pool_policy.specs.Looks.{Finding, exact_found, found_of, target_found}
use Rattle.pool_policy.specs.Looks.Finding.{Exact, Miss}
use Rattle.std.proofs.lemmas.Option.{slice_get-get_or}

swapped : (m n : ℕ) → (m == n) ≡ (n == m)
swapped m n = elim (m == n) as (λ b. (m == n) ≡ b → b ≡ (n == m)) [
  | true ↦ λ e. sym ((Decides-eqb n m).1 (sym ((Decides-eqb m n).0 e)))
  | false ↦ λ e. elim (n == m) as (λ b. (n == m) ≡ b → false ≡ b) [ true ↦ λ f. sym e ∙ (Decides-eqb m n).1 (sym ((Decides-eqb n m).0 f)) | false ↦ λ _. refl ] refl
] refl

-- a number among numbers, whichever way they are compared
pub one_of_is : (ids : List ℕ) (n : ℕ) → list_any (λ i. i == n) ids ≡ is_one_of ids n
one_of_is [] n = refl
one_of_is (i ∷ ids) n = ap (λ b. b || list_any (λ i. i == n) ids) (swapped i n) ∙ ap (λ b. (n == i) || b) (one_of_is ids n)

-- the entry at a place has the key
pub exact_is : (es : List PoolEntry) (key : Key) (named : Bool) (k : ℕ) (d : PoolEntry) → named ≡ false → named ≡ is_named key 0 → slice_get es k ≡ entry_of_key key es → k < length es → Exact (slice_index_or es k d).id ≡ found_of es key
exact_is es key named k d none is found low =
    let other : Finding = target_found (first_parent key) es (span_asked key) in
    ap (λ o. exact_found o other) (sym (slice_get-get_or es k d low) ∙ found)
    ∙ ap (λ b. if b then Miss else exact_found (entry_of_key key es) other) (sym none ∙ is ∙ one_of_is (parents_of key) 0)

-- no entry has the key
pub none_is : (es all : List PoolEntry) (key : Key) (named : Bool) → named ≡ false → named ≡ is_named key 0 → es ≡ all → None ≡ entry_of_key key es → target_found (first_parent key) es (span_asked key) ≡ found_of all key
none_is es all key named none is same missing =
    let other : Finding = target_found (first_parent key) es (span_asked key) in
    ap (λ o. exact_found o other) missing
    ∙ ap (λ b. if b then Miss else exact_found (entry_of_key key es) other) (sym none ∙ is ∙ one_of_is (parents_of key) 0)
    ∙ ap (λ (xs : List PoolEntry). found_of xs key) same
