use Rattle.std.proofs.Common.{◌≡◌, ◌++◌, length, reverse}
use Rattle.mal_opt.proofs.steps.instrs_of.Given as goal

-- what is left, and what was taken from the back, are all members
abbrev pub invariant-terms : goal.invariant-terms
invariant-terms l = l.terms.keys ++ reverse l.instrs.items ≡ l.initial.terms.keys

abbrev pub decreases-terms : goal.decreases-terms
decreases-terms l = length l.terms.keys
