use Rattle.std.proofs.Common.{◌≡◌, length}
use Rattle.std.specs.List.{list_all}
use Rattle.mal_check.specs.Checked.{is_known}
use Rattle.mal_check.specs.Types.{types_of}
use Rattle.mal_check.proofs.output.are_known.Given as goal

-- all are known exactly where the rest is
abbrev pub invariant-args-2 : goal.invariant-args-2
invariant-args-2 l = list_all (is_known (types_of l.kinds)) l.rest ≡ list_all (is_known (types_of l.kinds)) l.args

abbrev pub decreases-args-2 : goal.decreases-args-2
decreases-args-2 l = length l.rest
