use Rattle.std.proofs.Common.{rules, arith, ◌≡◌, ◌||◌, true, Some, length, refl}
use Rattle.std.specs.Prelude.{slice_get}
use Rattle.std.proofs.lemmas.Option.{slice_get_read}
use Rattle.dataflow.specs.Plans.{has}
use Rattle.flow_tests.specs.Sound.{is_bind}
use Rattle.flow_tests.proofs.NoneLemmas.{IsPassed, passed_here, passed_more}
use Rattle.flow_tests.proofs.args.first_left.Goals as goal

pub instrs-preserved : goal.instrs-preserved
instrs-preserved c =
    let here : slice_get c.args.instrs.now c.instrs.i ≡ Some c.index-instrs-i.result =
    slice_get_read c.args.instrs.now (length c.args.instrs.now) c.instrs.i c.index-instrs-i.result refl (omega arith) c.index-instrs-i.is in
    let either : (is_bind c.index-instrs-i.result.op || has c.args.handed.now c.instrs.i) ≡ true = search rules in
    let passed : IsPassed c.args.handed.now c.instrs.i c.index-instrs-i.result = passed_here c.args.handed.now c.instrs.i c.index-instrs-i.result either in
    passed_more c.args.instrs.now c.args.handed.now c.instrs.i c.index-instrs-i.result here c.instrs.invariant passed
