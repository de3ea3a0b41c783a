use Rattle.std.proofs.Common.{rules, not}
use Rattle.std.proofs.lemmas.Fn.{filter_same}
use Rattle.evict_admit.specs.Runs.{is_one_of}
use Rattle.pool_policy.specs.declared.entry.PoolEntry.{PoolEntry}
use Rattle.recycle_pool.proofs.room.take_out.Goals as goal

pub returns-clause-entries : goal.returns-clause-entries
returns-clause-entries c = filter_same _ (λ (e : PoolEntry). not (is_one_of c.args.gone.now e.id)) _ (λ x b q k. (search rules, search rules)) _ _ c.retain.ensures.filtered
