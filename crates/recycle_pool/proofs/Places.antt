-- The value that is read at a place.
use Rattle.std.proofs.Common.{◌≡◌, ℕ, ◌<◌, List, Some, ap, sym, ◌∙◌, length, slice_index_or}
use Rattle.std.specs.List.{slice_get}
use Rattle.std.specs.Option.{option_map}
use Rattle.std.proofs.lemmas.Option.{slice_get-get_or}
use Rattle.cell_core.specs.Pairs.{Pairs}
use Rattle.pool_policy.specs.declared.entry.PoolEntry.{PoolEntry}
use Rattle.pool_policy.specs.Keyed.{entry_of_id}
use Rattle.pool_policy.proofs.Faces.{value_by_id}
use Rattle.recycle_pool.specs.Answers.{IsPooledAs}

-- the value of the entry that is found by its id
pub pooled_at : (es : List PoolEntry) (id k : ℕ) (d : PoolEntry) (value : Pairs) → slice_get es k ≡ entry_of_id id es → k < length es → value ≡ (slice_index_or es k d).value → IsPooledAs es id value
pooled_at es id k d value found low same =
    value_by_id es id ∙ ap (option_map (λ (x : PoolEntry). x.value)) (sym found ∙ slice_get-get_or es k d low) ∙ ap Some (sym same)
