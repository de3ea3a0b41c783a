use Rattle.std.proofs.Common.{◌≡◌, ◌≤◌, [], take, vec_len}
use Rattle.std.specs.Vec.{vec_capacity}
use Rattle.pool_policy.specs.Admits.{rows_of}
use Rattle.recycle_pool.proofs.written.fill_rows_alone.Given as goal

abbrev pub invariant-rows : goal.invariant-rows
invariant-rows l = record {
  rows : l.rows.items ≡ rows_of [] (take l.i l.entries);
  count : vec_len l.rows ≡ l.i;
  room : vec_capacity l.fn.rows ≤ vec_capacity l.rows;
}
