use Rattle.std.proofs.Common.{◌≡◌, ◌++◌, map, length}
use Rattle.mal_exec.specs.Results.{known_of}
use Rattle.flow_tests.specs.Sound.{start_value}
use Rattle.flow_tests.proofs.run.start_values.Given as goal

abbrev pub invariant-rest : goal.invariant-rest
invariant-rest l = known_of l.values.items ++ map start_value l.rest ≡ map start_value l.instrs

abbrev pub decreases-rest : goal.decreases-rest
decreases-rest l = length l.rest
