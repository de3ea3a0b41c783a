use Rattle.std.proofs.Common.{◌≡◌, ◌++◌, map, length}
use Rattle.sql_definitions.specs.Rows.{group_key}
use Rattle.sql_meaning.proofs.groups.group_keys.Given as goal

-- what is made so far, followed by what the rest makes, is what all make
abbrev pub invariant-choices : goal.invariant-choices
invariant-choices l =
    l.keys.items ++ map (group_key l.sources l.refs) l.rest ≡ map (group_key l.sources l.refs) l.choices

abbrev pub decreases-choices : goal.decreases-choices
decreases-choices l = length l.rest
