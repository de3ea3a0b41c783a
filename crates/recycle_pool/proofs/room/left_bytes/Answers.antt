use Rattle.std.proofs.Common.{ap, ◌∙◌, arith}
use Rattle.pool_policy.specs.declared.entry.PoolEntry.{PoolEntry}
use Rattle.pool_policy.specs.Pool.{pool_bytes}
use Rattle.recycle_pool.proofs.Sums.{next_within}
use Rattle.recycle_pool.proofs.Totals.{all_left}
use Rattle.recycle_pool.proofs.room.left_bytes.Goals as goal

pub returns-then-is_empty : goal.returns-then-is_empty
returns-then-is_empty c = c.requires.all ∙ ap pool_bytes (all_left c.args.gone.now c.args.entries.now c.if-is_empty.ensures)

pub overflow_add-total : goal.overflow_add-total
overflow_add-total c =
    let within = next_within c.args.entries.now c.entries.i c.index-entries-i-then-not-is_among.result (omega (arith, c.entries-test.true)) c.index-entries-i-then-not-is_among.is in
    let read = ap (λ (e : PoolEntry). e.bytes) c.index-entries-i-then-not-is_among.is in
    omega (arith, within, read, c.entries.invariant.1, c.requires.all, c.requires.small)
