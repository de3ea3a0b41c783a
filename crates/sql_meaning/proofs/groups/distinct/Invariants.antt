use Rattle.std.proofs.Common.{◌≡◌, length, take, drop}
use Rattle.cell_core.specs.Groups.{distinct}
use Rattle.sql_definitions.specs.Rows.{same_cells}
use Rattle.sql_meaning.proofs.groups.distinct.Given as goal

-- the rest is the front of all rows, and what is made comes from those after it
abbrev pub invariant-rows : goal.invariant-rows
invariant-rows l =
    record {
      front : l.rest ≡ take (length l.rest) l.rows;
      behind : l.out.items ≡ distinct same_cells (drop (length l.rest) l.rows);
    }

abbrev pub decreases-rows : goal.decreases-rows
decreases-rows l = length l.rest
