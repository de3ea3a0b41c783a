use Rattle.std.proofs.Common.{◌≡◌, ◌++◌, length}
use Rattle.sql_definitions.specs.Rows.{group_row}
use Rattle.sql_definitions.specs.Exprs.{exprs_of}
use Rattle.sql_meaning.proofs.rows.group_row.Given as goal

-- what is made so far, followed by what the rest makes, is what all make
abbrev pub invariant-items : goal.invariant-items
invariant-items l =
    l.row ++ group_row l.sources (exprs_of l.rest) l.group ≡ group_row l.sources (exprs_of l.items) l.group

abbrev pub decreases-items : goal.decreases-items
decreases-items l = length l.rest
