use Rattle.std.proofs.Common.{◌≡◌, length}
use Rattle.cell_core.specs.Kinds.{calculated_type}
use Rattle.mal_check.specs.Types.{types_of}
use Rattle.mal_check.proofs.kinds.calculated_kind.Given as goal

-- the type for the rest is the type for all
abbrev pub invariant-args-2 : goal.invariant-args-2
invariant-args-2 l = calculated_type l.kind (types_of l.rest) ≡ calculated_type l.kind (types_of l.args)

abbrev pub decreases-args-2 : goal.decreases-args-2
decreases-args-2 l = length l.rest
