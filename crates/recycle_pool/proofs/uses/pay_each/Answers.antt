-- What is left pays back, once the first has paid, what the whole pays back.
use Rattle.std.proofs.Common.{◌-◌, ◌&&◌, ◌∙◌, subst, length, take, drop}
use Rattle.cell_core.proofs.ListLemmas.{first_and_rest}
use Rattle.evict_admit.specs.Runs.{is_one_of}
use Rattle.pool_policy.specs.declared.entry.PoolEntry.{PoolEntry}
use Rattle.pool_policy.specs.Looks.{ids_used, pays_back}
use Rattle.pool_entries.specs.Usable.{IsOwed}
use Rattle.recycle_pool.specs.Answers.{told}
use Rattle.recycle_pool.proofs.Paying.{owed_here, paid_on}
use Rattle.recycle_pool.proofs.uses.pay_each.Goals as goal

pub pay_back_if-requires-clause-owed : goal.pay_back_if-requires-clause-owed
pay_back_if-requires-clause-owed c =
    owed_here c.entries.ledger c.entries.rest.now (take (length c.entries.rest.now - 1) (drop 1 c.entries.rest.now)) c.entry-item.result
    (first_and_rest c.entries.rest.now c.entry-item.result c.in-len1-up.len_at_least c.entry-item.is) c.entries.invariant.owed

pub entries-preserved : goal.entries-preserved
entries-preserved c =
    let split = first_and_rest c.entries.rest.now c.entry-item.result c.in-len1-up.len_at_least c.entry-item.is in
    record {
      paid = paid_on (λ (e : PoolEntry). is_one_of (ids_used (told c.args.found.now c.args.parts.now)) e.id && pays_back c.args.who e) c.entries.ledger.each c.pay_back_if.new.ledger.each _ c.entries.rest.now (take (length c.entries.rest.now - 1) (drop 1 c.entries.rest.now)) c.entry-item.result
          c.pays_now-pays.result split c.pays_now-pays.ensures c.pay_back_if.ensures.each c.entries.invariant.paid;
      owed = c.pay_back_if.ensures.owed (take (length c.entries.rest.now - 1) (drop 1 c.entries.rest.now)) (subst (IsOwed c.entries.ledger) split c.entries.invariant.owed);
      start = c.pay_back_if.ensures.start ∙ c.entries.invariant.start;
    }
