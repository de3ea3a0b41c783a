use Rattle.std.proofs.Common.{◌≡◌, length}
use Rattle.std.specs.List.{list_any}
use Rattle.read_laws.specs.Unread.{is_unread_cell}
use Rattle.sql_refusals.proofs.numbers.any_unread.Given as goal

-- the test of what is left has the result of the test of all
abbrev pub invariant-cells : goal.invariant-cells
invariant-cells l = list_any is_unread_cell l.rest ≡ list_any is_unread_cell l.cells

abbrev pub decreases-cells : goal.decreases-cells
decreases-cells l = length l.rest
