-- Rows that are filled one after the other.
use Rattle.std.proofs.Common.{◌≡◌, ℕ, ◌+◌, ◌<◌, List, [], ◌∷◌, ◌++◌, ap, sym, ◌∙◌, length, take}
use Rattle.std.specs.Prelude.{get_or}
use Rattle.std.proofs.lemmas.List.{map-append, take_more}
use Rattle.evict_admit.specs.declared.plan.Row.{Row}
use Rattle.pool_policy.specs.declared.entry.PoolEntry.{PoolEntry}
use Rattle.pool_policy.specs.Admits.{row_of, rows_of}

-- one row more
pub rows_more : (kept : List ℕ) (es : List PoolEntry) (i : ℕ) (e : PoolEntry) (rows new : List Row) (row : Row) → i < length es → e ≡ get_or es i e → rows ≡ rows_of kept (take i es) → row ≡ row_of kept e → new ≡ rows ++ row ∷ [] → new ≡ rows_of kept (take (i + 1) es)
rows_more kept es i e rows new row low e_is rows_is row_is new_is =
    new_is ∙ (λ j. rows_is j ++ row_is j ∷ []) ∙ sym (map-append (row_of kept) (take i es) (e ∷ []))
    ∙ ap (rows_of kept) (ap (λ x. take i es ++ x ∷ []) e_is ∙ sym (take_more es i e low))
