use Rattle.std.proofs.Common.{◌≡◌, true, take}
use Rattle.flow_tests.specs.Sound.{are_known}
use Rattle.flow_tests.proofs.run.are_known.Given as goal

abbrev pub invariant-instrs : goal.invariant-instrs
invariant-instrs l = are_known (take l.i l.instrs) ≡ true
