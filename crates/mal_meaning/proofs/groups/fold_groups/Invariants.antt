use Rattle.std.proofs.Common.{◌≡◌, ◌++◌, map, length}
use Rattle.mal_meaning.specs.Slow.{group_folded}
use Rattle.mal_meaning.proofs.groups.fold_groups.Given as goal

-- what is made so far, followed by the result of the rest, is the result of all
abbrev pub invariant-groups : goal.invariant-groups
invariant-groups l = l.out ++ map (group_folded l.which l.paired) l.rest ≡ map (group_folded l.which l.paired) l.groups

abbrev pub decreases-groups : goal.decreases-groups
decreases-groups l = length l.rest
