use Rattle.std.proofs.Common.{◌≡◌, ◌++◌, map, drop, length}
use Rattle.change_plans.proofs.writes.new_cells.Given as goal

-- what is made so far, followed by what the rest makes, is what all make
abbrev pub invariant-rows : goal.invariant-rows
invariant-rows l = l.cells ++ map (drop 1) l.rest ≡ map (drop 1) l.rows

abbrev pub decreases-rows : goal.decreases-rows
decreases-rows l = length l.rest
