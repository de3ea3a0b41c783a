-- What expressions and conditions are evaluated over: a choice of rows, or a group of choices.
use Rattle.std.specs.Prelude.{List}
use Rattle.cell_core.specs.declared.cell.Cell.{Cell}
use Rattle.sql_tree.specs.Tree.{ExprTree}
use Rattle.sql_definitions.specs.Sources.{NamedSource}
use Rattle.sql_definitions.specs.Values.{cell_over, group_cell}
use Rattle.row_values.specs.declared.scope.Scope.{Scope}
use Rattle.row_values.specs.declared.scope.Scope.TheVariants.{Choice, Group}

-- the cell of an expression
abbrev pub cell_in : List NamedSource → Scope → ExprTree → Cell
cell_in sources (Choice choice) = cell_over sources choice.now
cell_in sources (Group group) = group_cell sources group.now
