use Rattle.std.proofs.Common.{arith, ap, vec_len, vec_capacity}
use Rattle.cell_text.proofs.TextLemmas.{room_for_backslash, room_for_byte}
use Rattle.cell_text.proofs.text.push_escaped.Goals as goal
use Rattle.cell_text.proofs.text.push_escaped.Goals.{then-byte-eq92, else-byte-eq92}

pub push_reserved-requires : goal.push_reserved-requires
push_reserved-requires c =
    let room = room_for_byte c.args.bytes.now c.loop-byte.byte-index c.loop-byte-test.true in
    omega arith

pub push_reserved-requires-in-loop-byte : goal.push_reserved-requires-in-loop-byte
push_reserved-requires-in-loop-byte c =
    elim c.if-byte-eq92.branch [
      | then-byte-eq92 w ↦
          let room = room_for_backslash c.args.bytes.now c.loop-byte.byte-index c.loop-byte-test.true w.if-byte-eq92.true in
          omega (arith, ap (λ v. vec_len v) w.out-is, ap (λ v. vec_capacity v) w.out-is)
      | else-byte-eq92 w ↦
          let room = room_for_byte c.args.bytes.now c.loop-byte.byte-index c.loop-byte-test.true in
          omega (arith, ap (λ v. vec_len v) w.out-is, ap (λ v. vec_capacity v) w.out-is)
    ]
