use Rattle.std.proofs.Common.{◌≡◌, ◌++◌, length}
use Rattle.std.specs.Option.{option_map}
use Rattle.mal_check.specs.Checked.{arg_types}
use Rattle.mal_check.specs.Types.{types_of}
use Rattle.mal_check.proofs.check.arg_kinds.Given as goal

-- what is found so far, followed by the result of the rest, is the result of all
abbrev pub invariant-args-2 : goal.invariant-args-2
invariant-args-2 l =
    option_map (λ more. types_of l.found ++ more) (arg_types (types_of l.kinds) l.rest) ≡ arg_types (types_of l.kinds) l.args

abbrev pub decreases-args-2 : goal.decreases-args-2
decreases-args-2 l = length l.rest
