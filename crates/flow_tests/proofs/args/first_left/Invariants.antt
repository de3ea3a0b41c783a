use Rattle.flow_tests.specs.Ready.{ArePassed}
use Rattle.flow_tests.proofs.args.first_left.Given as goal

abbrev pub invariant-instrs : goal.invariant-instrs
invariant-instrs l = ArePassed l.instrs l.handed l.i
