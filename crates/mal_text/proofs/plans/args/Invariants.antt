use Rattle.std.proofs.Common.{◌≡◌, ◌++◌, length}
use Rattle.std.specs.Option.{option_map}
use Rattle.mal_text.specs.Plans as plans
use Rattle.mal_text.proofs.plans.args.Given as goal

-- what is read so far, followed by what the rest makes, is what all make
abbrev pub invariant-terms : goal.invariant-terms
invariant-terms l = option_map (λ more. l.args ++ more) (plans.args_of l.names.keys l.rest) ≡ plans.args_of l.names.keys l.terms

abbrev pub decreases-terms : goal.decreases-terms
decreases-terms l = length l.rest
