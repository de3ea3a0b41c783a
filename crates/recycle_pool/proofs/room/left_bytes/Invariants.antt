use Rattle.std.proofs.Common.{◌≡◌, ◌≤◌, take}
use Rattle.pool_policy.specs.Pool.{pool_bytes}
use Rattle.pool_policy.specs.Admits.{left_without}
use Rattle.recycle_pool.proofs.room.left_bytes.Given as goal

abbrev pub invariant-entries : goal.invariant-entries
invariant-entries l = (l.total ≡ pool_bytes (left_without l.gone (take l.i l.entries))) × (l.total ≤ pool_bytes (take l.i l.entries))
