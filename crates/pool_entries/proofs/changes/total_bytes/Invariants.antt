use Rattle.std.proofs.Common.{◌≡◌, take}
use Rattle.pool_policy.specs.Pool.{pool_bytes}
use Rattle.pool_entries.proofs.changes.total_bytes.Given as goal

abbrev pub invariant-entries : goal.invariant-entries
invariant-entries l = l.total ≡ pool_bytes (take l.i l.entries)
