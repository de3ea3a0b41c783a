use Rattle.std.proofs.Common.{◌≡◌, length}
use Rattle.sql_tree.specs.Tree.{expr_tree}
use Rattle.sql_definitions.specs.Rows.{overflows_for}
use Rattle.sql_meaning.proofs.overflow.overflows.Given as goal

-- the rest decides as all do
abbrev pub invariant-choices : goal.invariant-choices
invariant-choices l =
    overflows_for l.sources l.rest (expr_tree l.expr) ≡ overflows_for l.sources l.choices (expr_tree l.expr)

abbrev pub decreases-choices : goal.decreases-choices
decreases-choices l = length l.rest
