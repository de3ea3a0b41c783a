-- The entries before low have lesser ids, and those from high on greater ones.
use Rattle.std.proofs.Common.{ℕ, ◌-◌, ◌<◌, ◌≤◌, length, slice_index_or}
use Rattle.pool_policy.specs.declared.entry.PoolEntry.{PoolEntry}
use Rattle.pool_entries.proofs.by_id.place_by_id.Given as goal

abbrev pub invariant-halves : goal.invariant-halves
invariant-halves l = record {
  ordered : l.low ≤ l.high;
  within : l.high ≤ length l.entries;
  below : (k : ℕ) (d : PoolEntry) → k < l.low → (slice_index_or l.entries k d).id < l.id;
  above : (k : ℕ) (d : PoolEntry) → l.high ≤ k → k < length l.entries → l.id < (slice_index_or l.entries k d).id;
}

abbrev pub decreases-halves : goal.decreases-halves
decreases-halves l = l.high - l.low
