use Rattle.mal_exec.specs.Results.{known_of}
use Rattle.flow_tests.specs.Ready.{NoneReady}
use Rattle.flow_tests.proofs.args.ready.Given as goal

abbrev pub invariant-instrs : goal.invariant-instrs
invariant-instrs l = NoneReady l.instrs (known_of l.values) l.handed l.i
