-- The rows of groups, with the computation of their cells kept opaque.
use Rattle.std.specs.Prelude.{List, map, filter, Bool, Option}
use Rattle.cell_core.specs.declared.cell.Cell.{Cell}
use Rattle.sql_tree.specs.Tree.{ExprTree, CondTree}
use Rattle.sql_definitions.specs.Sources.{NamedSource}
use Rattle.sql_definitions.specs.Values.{Choice, group_cell}
use Rattle.sql_definitions.specs.Truth.{holds}
use Rattle.sql_definitions.specs.Rows.{group_row}

-- the items' cells over a group
unfoldable pub row_of_group : List NamedSource → List ExprTree → List Choice → List Cell
row_of_group sources exprs group = group_row sources exprs group

-- HAVING keeps a group
unfoldable pub is_group_shown : List NamedSource → Option CondTree → List Choice → Bool
is_group_shown sources having group = holds (group_cell sources group) having

-- the rows of the groups that HAVING keeps
abbrev pub rows_of_shown : List NamedSource → List ExprTree → Option CondTree → List (List Choice) → List (List Cell)
rows_of_shown sources exprs having groups = map (row_of_group sources exprs) (filter (is_group_shown sources having) groups)
