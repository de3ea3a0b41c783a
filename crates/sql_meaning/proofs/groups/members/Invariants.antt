use Rattle.std.proofs.Common.{◌≡◌, ◌++◌, length}
use Rattle.sql_meaning.specs.Members.{members_by}
use Rattle.sql_meaning.proofs.groups.members.Given as goal

-- what is made so far, followed by what the rest makes, is what all make
abbrev pub invariant-keys : goal.invariant-keys
invariant-keys l =
    l.group ++ members_by l.names l.rest l.cells ≡ members_by l.keys l.choices l.cells

abbrev pub decreases-keys : goal.decreases-keys
decreases-keys l = length l.names
