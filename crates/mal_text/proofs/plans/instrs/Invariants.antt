use Rattle.std.proofs.Common.{◌≡◌, ◌++◌, length}
use Rattle.std.specs.Option.{option_map}
use Rattle.mal_text.specs.Plans as plans
use Rattle.mal_text.proofs.plans.instrs.Given as goal

-- what is read so far, followed by what the rest makes, is what all make
abbrev pub invariant-lines : goal.invariant-lines
invariant-lines l = option_map (λ more. l.instrs ++ more) (plans.instrs_of l.names.keys l.rest) ≡ plans.instrs_of l.names.keys l.lines

abbrev pub decreases-lines : goal.decreases-lines
decreases-lines l = length l.rest
