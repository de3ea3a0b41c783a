use Rattle.std.proofs.Common.{rules}
use Rattle.bat_core.specs.Objects.{value_of}
use Rattle.kernel_tests.proofs.ShapeLemmas.{range_fits}
use Rattle.kernel_tests.proofs.run.run_select.Goals as goal

pub run-requires : goal.run-requires
run-requires c =
    range_fits (value_of c.args.b) (value_of c.args.bounds.0) (value_of c.args.bounds.1) (value_of c.args.included.0) (value_of c.args.included.1)
    (search rules) (search rules) (search rules) (search rules) (search rules)
