use Rattle.std.proofs.Common.{◌≡◌, ◌++◌, map, length}
use Rattle.sql_meaning.specs.Members.{members_by}
use Rattle.sql_meaning.proofs.groups.groups_of_keys.Given as goal

-- what is made so far, followed by what the rest makes, is what all make
abbrev pub invariant-names : goal.invariant-names
invariant-names l =
    l.groups.items ++ map (members_by l.keys l.choices) l.rest ≡ map (members_by l.keys l.choices) l.names

abbrev pub decreases-names : goal.decreases-names
decreases-names l = length l.rest
