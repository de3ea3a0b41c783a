use Rattle.std.proofs.Common.{◌≡◌, take}
use Rattle.std.specs.List.{list_all}
use Rattle.kernel_tests.specs.Types.{is_pair_of}
use Rattle.kernel_tests.proofs.shape.has_tails.Given as goal

abbrev pub invariant-loop-i : goal.invariant-loop-i
invariant-loop-i l = l.all ≡ list_all (is_pair_of l.kind) (take l.i l.b)
