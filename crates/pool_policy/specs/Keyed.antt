-- Entries found by key or by id, and the shapes of keys.
use Rattle.std.specs.Prelude.{ℕ, ◌==◌, List, [], ◌∷◌, map, Bool, not, Option, slice_index, position}
use Rattle.std.specs.List.{find, list_any}
use Rattle.std.specs.Option.{option_map_or, unwrap_or}
use Rattle.cell_core.specs.declared.operator.Op.{Op}
use Rattle.cell_core.specs.Places.{operators}
use Rattle.cell_core.specs.SameInstr.{same_op}
use Rattle.lineage_key.specs.declared.key.Key.{Key}
use Rattle.lineage_key.specs.declared.key.KeyArg.{KeyArg}
use Rattle.lineage_key.specs.declared.key.KeyArg.TheVariants.{Const, Id}
use Rattle.lineage_key.specs.declared.shape.Shape.{Shape}
use Rattle.lineage_key.specs.Parents.{parents_of, shape_of}
use Rattle.lineage_key.specs.Same.{same_key}
use Rattle.pool_policy.specs.declared.entry.PoolEntry.{PoolEntry}

abbrev pub has_id : ℕ → PoolEntry → Bool
has_id id e = e.id == id

abbrev pub has_key : Key → PoolEntry → Bool
has_key key e = same_key e.key key

abbrev pub entry_of_id : ℕ → List PoolEntry → Option PoolEntry
entry_of_id id entries = find (has_id id) entries

abbrev pub entry_of_key : Key → List PoolEntry → Option PoolEntry
entry_of_key key entries = find (has_key key) entries

abbrev pub is_pooled : List PoolEntry → ℕ → Bool
is_pooled entries id = list_any (has_id id) entries

abbrev pub is_missing : List PoolEntry → ℕ → Bool
is_missing entries id = not (is_pooled entries id)

-- the first parent, 0 where there is none
abbrev pub first_parent : Key → ℕ
first_parent key = slice_index (parents_of key) 0

-- the place of an operator in the table of operators
abbrev pub class_of : Op → ℕ
class_of op = unwrap_or (position (same_op op) operators) 0

-- ## Shapes

-- the number of an argument's shape; 0 for a constant, and for a result that isn't pooled
abbrev pub shape_number_of : List PoolEntry → KeyArg → ℕ
shape_number_of entries (Const c) = 0
shape_number_of entries (Id n) = option_map_or (λ (e : PoolEntry). e.shape) (entry_of_id n entries) 0

-- five numbers, 0 where there is no argument
abbrev pub five : List ℕ → List ℕ
five ns = slice_index ns 0 ∷ slice_index ns 1 ∷ slice_index ns 2 ∷ slice_index ns 3 ∷ slice_index ns 4 ∷ []

-- the shape of a key over the shapes of its parents
abbrev pub shape_in : List PoolEntry → Key → Shape
shape_in entries key = shape_of (five (map (shape_number_of entries) key.args)) key
