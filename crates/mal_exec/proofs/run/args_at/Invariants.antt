use Rattle.std.proofs.Common.{◌≡◌, ◌++◌, map, Some, length}
use Rattle.std.specs.Option.{option_map}
use Rattle.bat_core.specs.Objects.{values_of}
use Rattle.mal_meaning.specs.Meaning.{arg_values}
use Rattle.mal_exec.proofs.run.args_at.Given as goal

-- what is made so far, followed by the result of the rest, is the result of all
abbrev pub invariant-args-2 : goal.invariant-args-2
invariant-args-2 l = option_map (λ more. values_of l.found.items ++ more) (arg_values (map Some (values_of l.values)) l.rest) ≡ arg_values (map Some (values_of l.values)) l.args

abbrev pub decreases-args-2 : goal.decreases-args-2
decreases-args-2 l = length l.rest
