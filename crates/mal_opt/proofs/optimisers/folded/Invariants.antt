use Rattle.std.proofs.Common.{◌≡◌, length}
use Rattle.mal_opt.specs.Passes.{passed, nothing, behind, folding, keeping}
use Rattle.mal_opt.proofs.optimisers.folded.Given as goal

-- what the pass makes of the rest is what it makes of all
abbrev pub invariant-instrs : goal.invariant-instrs
invariant-instrs l = passed (folding keeping) (behind l.instrs l.places) l.rest ≡ passed (folding keeping) nothing l.plan.instrs

abbrev pub decreases-instrs : goal.decreases-instrs
decreases-instrs l = length l.rest
