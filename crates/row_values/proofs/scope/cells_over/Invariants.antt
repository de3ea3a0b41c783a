use Rattle.std.proofs.Common.{◌≡◌, ◌++◌, map, length}
use Rattle.sql_tree.specs.Tree.{expr_tree}
use Rattle.sql_definitions.specs.Values.{cell_over}
use Rattle.row_values.proofs.scope.cells_over.Given as goal

-- the cells made so far, followed by those of the rest, are all cells
abbrev pub invariant-choices : goal.invariant-choices
invariant-choices l =
    l.cells ++ map (λ choice. cell_over l.sources choice (expr_tree l.expr)) l.rest ≡ map (λ choice. cell_over l.sources choice (expr_tree l.expr)) l.group

abbrev pub decreases-choices : goal.decreases-choices
decreases-choices l = length l.rest
