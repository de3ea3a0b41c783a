use Rattle.std.proofs.Common.{◌≡◌, ◌≤◌, take, vec_len}
use Rattle.std.specs.Vec.{vec_capacity}
use Rattle.lineage_key.specs.Parents.{parents_of}
use Rattle.pool_policy.specs.Admits.{rows_of}
use Rattle.recycle_pool.proofs.room.fill_rows.Given as goal

abbrev pub invariant-rows : goal.invariant-rows
invariant-rows l = record {
  rows : l.rows.items ≡ rows_of (parents_of l.key) (take l.i l.entries);
  count : vec_len l.rows ≡ l.i;
  room : vec_capacity l.fn.rows ≤ vec_capacity l.rows;
}
