use Rattle.std.proofs.Common.{ap, ◌∙◌}
use Rattle.std.specs.Prelude.{if◌then◌else◌}
use Rattle.pool_policy.specs.declared.entry.PoolEntry.{PoolEntry}
use Rattle.pool_policy.specs.Looks.{one_more, paid_back, pays_back}
use Rattle.pool_entries.proofs.Ids.{kept_absent, paid_found}
use Rattle.pool_entries.proofs.credits.pay_back_id.Goals as goal

pub returns-in-None-clause-each : goal.returns-in-None-clause-each
returns-in-None-clause-each c = ap (paid_back c.args.ledger.now.each) (kept_absent (pays_back c.args.who) c.args.id c.args.entries.now c.in-None.ensures.found)

pub returns-in-Some-clause-each : goal.returns-in-Some-clause-each
returns-in-Some-clause-each c =
    c.pay_back_if.ensures.each
    ∙ ap (λ b. if b then one_more c.args.ledger.now.each c.index-entries-place.result.shape else c.args.ledger.now.each) c.pays_back.ensures
    ∙ ap (λ (e : PoolEntry). if pays_back c.args.who e then one_more c.args.ledger.now.each e.shape else c.args.ledger.now.each) c.index-entries-place.is
    ∙ paid_found c.requires.rising.0 c.args.entries.now c.args.id c.in-Some.place c.index-entries-place.result c.requires.rising.1 c.in-Some.ensures.found c.in-Some.ensures.within (pays_back c.args.who) c.args.ledger.now.each
