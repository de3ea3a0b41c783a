-- What is left adds, to what is touched so far, what is touched in all; and there is room for it.
use Rattle.std.proofs.Common.{◌≡◌, ◌+◌, ◌≤◌, length, vec_len}
use Rattle.std.specs.Prelude.{fold}
use Rattle.std.specs.Vec.{vec_capacity}
use Rattle.pool_policy.specs.Writes.{and_touched, touched_ids}
use Rattle.pool_policy.proofs.touching.note_touched.Given as goal

abbrev pub invariant-entries : goal.invariant-entries
invariant-entries l = record {
  ids : fold (and_touched l.table l.columns) l.touched.items l.rest ≡ touched_ids l.table l.columns l.entries;
  space : vec_len l.touched + length l.rest ≤ vec_capacity l.touched;
  room : vec_capacity l.fn.touched ≤ vec_capacity l.touched;
}

abbrev pub decreases-entries : goal.decreases-entries
decreases-entries l = length l.rest
