use Rattle.std.proofs.Common.{◌≡◌, ◌++◌, length}
use Rattle.std.specs.Option.{option_map}
use Rattle.bat_core.specs.Objects.{values_of}
use Rattle.mal_meaning.specs.Meaning.{arg_values}
use Rattle.mal_exec.specs.Results.{known_of}
use Rattle.mal_exec.proofs.results.known_args.Given as goal

-- what is found so far, followed by the result of the rest, is the result of all
abbrev pub invariant-parts : goal.invariant-parts
invariant-parts l = option_map (λ more. values_of l.found.items ++ more) (arg_values (known_of l.results) l.rest) ≡ arg_values (known_of l.results) l.args

abbrev pub decreases-parts : goal.decreases-parts
decreases-parts l = length l.rest
