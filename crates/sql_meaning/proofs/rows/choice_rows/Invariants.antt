use Rattle.std.proofs.Common.{◌≡◌, ◌++◌, map, length}
use Rattle.sql_definitions.specs.Rows.{choice_row}
use Rattle.sql_definitions.specs.Exprs.{exprs_of}
use Rattle.sql_meaning.proofs.rows.choice_rows.Given as goal

-- what is made so far, followed by what the rest makes, is what all make
abbrev pub invariant-choices : goal.invariant-choices
invariant-choices l =
    l.rows.items ++ map (choice_row l.sources (exprs_of l.items)) l.rest ≡ map (choice_row l.sources (exprs_of l.items)) l.choices

abbrev pub decreases-choices : goal.decreases-choices
decreases-choices l = length l.rest
