use Rattle.std.proofs.Common.{rules, arith, ◌≡◌, Some, length, refl}
use Rattle.std.specs.Prelude.{slice_get}
use Rattle.std.proofs.lemmas.Option.{slice_get_read}
use Rattle.mal_exec.specs.Results.{known_of}
use Rattle.flow_tests.proofs.NoneLemmas.{NotReady, none_more}
use Rattle.flow_tests.proofs.args.ready.Goals as goal

pub instrs-preserved : goal.instrs-preserved
instrs-preserved c =
    let here : slice_get c.args.instrs.now c.instrs.i ≡ Some c.index-instrs-i.result =
    slice_get_read c.args.instrs.now (length c.args.instrs.now) c.instrs.i c.index-instrs-i.result refl (omega arith) c.index-instrs-i.is in
    let not_here : NotReady (known_of c.args.values.now) c.args.handed.now c.instrs.i c.index-instrs-i.result = search rules in
    none_more c.args.instrs.now (known_of c.args.values.now) c.args.handed.now c.instrs.i c.index-instrs-i.result here c.instrs.invariant not_here
