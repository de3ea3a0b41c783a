-- What was listed and what is left are the whole.
use Rattle.std.proofs.Common.{◌≡◌, ◌++◌, length, map}
use Rattle.least_cover.specs.Chosen.{Selection}
use Rattle.recycle_pool.proofs.selections.priced.Given as goal

abbrev pub invariant-selections : goal.invariant-selections
invariant-selections l = l.spans.items ++ map (λ (s : Selection). s.1) l.rest ≡ map (λ (s : Selection). s.1) l.selections

abbrev pub decreases-selections : goal.decreases-selections
decreases-selections l = length l.rest
