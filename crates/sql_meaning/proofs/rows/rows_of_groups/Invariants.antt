use Rattle.std.proofs.Common.{◌≡◌, ◌++◌, map, length}
use Rattle.sql_meaning.specs.Shown.{row_of_group}
use Rattle.sql_definitions.specs.Exprs.{exprs_of}
use Rattle.sql_meaning.proofs.rows.rows_of_groups.Given as goal

-- what is made so far, followed by what the rest makes, is what all make
abbrev pub invariant-groups : goal.invariant-groups
invariant-groups l = l.rows.items ++ map (row_of_group l.sources (exprs_of l.items)) l.rest ≡ map (row_of_group l.sources (exprs_of l.items)) l.groups

abbrev pub decreases-groups : goal.decreases-groups
decreases-groups l = length l.rest
