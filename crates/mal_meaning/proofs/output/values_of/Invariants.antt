use Rattle.std.proofs.Common.{◌≡◌, ◌++◌, map, length}
use Rattle.mal_meaning.specs.Output.{value_in}
use Rattle.mal_meaning.proofs.output.values_of.Given as goal

-- what is made so far, followed by the result of the rest, is the result of all
abbrev pub invariant-args-2 : goal.invariant-args-2
invariant-args-2 l = l.columns ++ map (value_in l.values) l.rest ≡ map (value_in l.values) l.args

abbrev pub decreases-args-2 : goal.decreases-args-2
decreases-args-2 l = length l.rest
