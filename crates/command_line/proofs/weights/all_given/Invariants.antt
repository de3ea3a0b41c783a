use Rattle.std.proofs.Common.{◌≡◌, ◌++◌, length}
use Rattle.std.specs.Option.{option_map}
use Rattle.command_line.specs.Matches.{texts_in}
use Rattle.command_line.specs.Weights as told
use Rattle.command_line.proofs.weights.all_given.Given as goal

-- what is given so far, and the parts that are left
abbrev pub invariant-parts : goal.invariant-parts
invariant-parts l = told.all_given (texts_in l.fn.parts) ≡ option_map (λ more. l.all ++ more) (told.all_given (texts_in l.rest))

abbrev pub decreases-parts : goal.decreases-parts
decreases-parts l = length l.rest
