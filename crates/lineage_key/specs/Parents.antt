-- What a key shows of its parents, its table and its shape.
use Rattle.std.specs.Prelude.{ℕ, List, [], ◌∷◌, Bool, ◌==◌, if◌then◌else◌, Option, Some, None, slice_index}
use Rattle.std.specs.List.{filter_map, list_any}
use Rattle.cell_core.specs.declared.cell.Cell.TheVariants as cell
use Rattle.cell_core.specs.declared.operator.Op.TheVariants.{Bind}
use Rattle.cell_core.specs.SameInstr.{same_op}
use Rattle.lineage_key.specs.declared.key.Key.{Key}
use Rattle.lineage_key.specs.declared.key.KeyArg.{KeyArg}
use Rattle.lineage_key.specs.declared.key.KeyArg.TheVariants.{Const, Id}
use Rattle.lineage_key.specs.declared.shape.Shape.{Shape}

-- the id in an argument
abbrev pub id_in : KeyArg → Option ℕ
id_in (Const c) = None
id_in (Id n) = Some n

-- the parents of a key: the ids in it, in order
abbrev pub parents_of : Key → List ℕ
parents_of key = filter_map id_in key.args

-- the first and the second parent, 0 where there is none
abbrev pub two_parents : Key → List ℕ
two_parents key = slice_index (parents_of key) 0 ∷ slice_index (parents_of key) 1 ∷ []

-- the id is one of the parents
abbrev pub is_named : Key → ℕ → Bool
is_named key id = list_any (λ parent. parent == id) (parents_of key)

abbrev pub is_bind : Key → Bool
is_bind key = same_op key.op Bind

-- ## Binds

-- the text of a constant, and none of anything else
abbrev pub text_in : KeyArg → List ℕ
text_in (Const (cell.Text bytes)) = bytes
text_in _ = []

-- the table that a bind reads is its first text, and the column its second
abbrev pub first_text : List KeyArg → List ℕ
first_text [] = []
first_text (table ∷ rest) = text_in table

abbrev pub second_text : List KeyArg → List ℕ
second_text (table ∷ column ∷ rest) = text_in column
second_text _ = []

abbrev pub table_of : Key → List ℕ
table_of key = first_text key.args

abbrev pub column_of : Key → List ℕ
column_of key = second_text key.args

-- ## Shapes

-- a bind has the shape of its table and column; another key that of its arguments' shapes, with 0 where an argument is a constant or missing
abbrev pub shape_of : List ℕ → Key → Shape
shape_of numbers key =
    if is_bind key
    then record { op = key.op; table = table_of key; column = column_of key; args = 0 ∷ 0 ∷ 0 ∷ 0 ∷ 0 ∷ [] }
    else record { op = key.op; table = []; column = []; args = numbers }
