use Rattle.std.proofs.Common.{◌-◌, ◌≤◌, length}
use Rattle.book_tests.proofs.beside.holds.Given as goal

abbrev pub invariant-cells : goal.invariant-cells
invariant-cells l = l.at ≤ length l.cells

abbrev pub decreases-cells : goal.decreases-cells
decreases-cells l = length l.cells - l.at
