-- Entries that are found by their first parents, and the parents beside them.
use Rattle.std.specs.Prelude.{◌≡◌, ℕ, ◌==◌, List, Option, Some, Bool, false, not, ◌&&◌, ◌||◌, if◌then◌else◌, length, map, nat_lt}
use Rattle.std.specs.List.{filter_map}
use Rattle.std.specs.Option.{option_and_then, option_map, option_map_or}
use Rattle.cell_core.specs.declared.cut.Span.{Span}
use Rattle.lineage_key.specs.Parents.{two_parents}
use Rattle.lineage_key.specs.Spans.{span_asked}
use Rattle.subsume.specs.Cutting.{is_contained}
use Rattle.least_cover.specs.Chosen.{Selection}
use Rattle.pool_index.specs.declared.parents.Kin.{Kin}
use Rattle.pool_index.specs.Beside.{ParentsView}
use Rattle.pool_index.specs.Under.{ChildrenView, under}
use Rattle.pool_policy.specs.declared.entry.PoolEntry.{PoolEntry}
use Rattle.pool_policy.specs.Keyed.{entry_of_id, first_parent}

-- an entry's first parent and its id
abbrev pub pair_of : PoolEntry → ℕ × ℕ
pair_of e = (first_parent e.key, e.id)

-- under each parent are the entries that have it first, in the order of their ids
abbrev pub IsIndexed : ChildrenView → List PoolEntry → Type 0
IsIndexed children entries = (parent : ℕ) → under parent children.pairs ≡ under parent (map pair_of entries)

-- an entry's id and its parents
abbrev pub kin_of : PoolEntry → Kin
kin_of e = record { id = e.id; parents = two_parents e.key }

-- each entry has its parents beside it, in the same order
abbrev pub AreBeside : ParentsView → List PoolEntry → Type 0
AreBeside parents entries = parents.kin ≡ map kin_of entries

-- an entry as a selection, whatever it selects from
abbrev pub own_selection : PoolEntry → Option Selection
own_selection e = option_map (λ span. (e.id, (length e.value, span))) (span_asked e.key)

-- the selection with this id
abbrev pub selection_of_id : List PoolEntry → ℕ → Option Selection
selection_of_id entries id = option_and_then own_selection (entry_of_id id entries)

-- the selections that these pairs name
abbrev pub selections_at : List PoolEntry → List (ℕ × ℕ) → List Selection
selections_at entries pairs = filter_map (λ (p : ℕ × ℕ). selection_of_id entries p.1) pairs

-- a selection's id and its number of pairs
abbrev pub weight_of : Selection → ℕ × ℕ
weight_of s = (s.0, s.1.0)

-- fewer pairs, or as many and the lesser id
abbrev pub is_lighter_than : ℕ × ℕ → ℕ × ℕ → Bool
is_lighter_than a b = nat_lt a.1 b.1 || (a.1 == b.1 && nat_lt a.0 b.0)

-- the lighter of the best so far and an entry, if that is a selection that contains the target
abbrev pub lighter : Span → Option (ℕ × ℕ) → PoolEntry → Option (ℕ × ℕ)
lighter target best e =
    if option_map_or (λ b. not (is_lighter_than (e.id, length e.value) b)) best false then best
    else if option_map_or (λ span. is_contained target span) (span_asked e.key) false then Some (e.id, length e.value)
    else best
