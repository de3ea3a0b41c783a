use Rattle.std.proofs.Common.{arith}
use Rattle.std.proofs.Math.Seq.{take-add}
use Rattle.std.proofs.lemmas.List.{take_rest}
use Rattle.std.proofs.KnownBytes.{Appends-trans}
use Rattle.causes.proofs.writing.write_all.Goals as goal

pub pieces-preserved : goal.pieces-preserved
pieces-preserved g c =
    let more = rw (take_rest c.args.text.now c.pieces.done) at c.in_ok-done.ensures.bytes in
    record {
      within = omega (arith, c.in_ok-done.ensures.bound);
      so_far = rw take-add (Appends-trans _ _ _ _ _ c.pieces.invariant.so_far more);
      later = omega (arith, c.pieces.invariant.later, c.write.ensures.later);
    }
