use Rattle.std.proofs.Common.{◌≡◌, ℕ, List, [], ◌&&◌, ap, sym, ◌∙◌}
use Rattle.std.specs.Prelude.{filter}
use Rattle.evict_admit.specs.Runs.{is_one_of}
use Rattle.pool_policy.specs.declared.entry.PoolEntry.{PoolEntry}
use Rattle.pool_policy.specs.Looks.{ids_used, paid_back, pays_back}
use Rattle.pool_entries.proofs.Ids.{none_kept}
use Rattle.recycle_pool.specs.Answers.{told}
use Rattle.recycle_pool.proofs.uses.pay_uses.Goals as goal

pub returns-in-Miss-clause-each : goal.returns-in-Miss-clause-each
returns-in-Miss-clause-each c =
    let none : [] ≡ ids_used (told c.args.found.now c.args.parts.now) = ap (λ f. ids_used (told f c.args.parts.now)) (sym c.in-Miss.is) in
    ap (paid_back c.args.ledger.now.each) (none_kept (pays_back c.args.who) c.args.entries.now ∙ ap (λ (ids : List ℕ). filter (λ (e : PoolEntry). is_one_of ids e.id && pays_back c.args.who e) c.args.entries.now) none)
