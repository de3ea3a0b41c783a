-- What is left pays back, from the credits so far, what the whole pays back.
use Rattle.std.proofs.Common.{◌≡◌, ◌&&◌, length, not}
use Rattle.std.specs.Prelude.{filter}
use Rattle.evict_admit.specs.Runs.{is_one_of}
use Rattle.pool_policy.specs.declared.entry.PoolEntry.{PoolEntry}
use Rattle.pool_policy.specs.Looks.{paid_back}
use Rattle.pool_policy.specs.Admits.{pays_at_end}
use Rattle.pool_entries.specs.Usable.{IsOwed}
use Rattle.recycle_pool.proofs.written.pay_dropped.Given as goal

abbrev pub invariant-entries : goal.invariant-entries
invariant-entries l = record {
  paid : paid_back l.ledger.each (filter (λ (e : PoolEntry). (is_one_of l.touched e.id && not (is_one_of l.back e.id)) && pays_at_end e) l.rest)
      ≡ paid_back l.fn.ledger.each (filter (λ (e : PoolEntry). (is_one_of l.touched e.id && not (is_one_of l.back e.id)) && pays_at_end e) l.entries);
  owed : IsOwed l.ledger l.rest;
  start : l.ledger.start ≡ l.fn.ledger.start;
}

abbrev pub decreases-entries : goal.decreases-entries
decreases-entries l = length l.rest
