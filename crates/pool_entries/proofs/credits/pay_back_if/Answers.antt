use Rattle.pool_entries.proofs.Owed.{owed_paid}
use Rattle.pool_entries.proofs.credits.pay_back_if.Goals as goal

pub returns-then-pays-clause-owed : goal.returns-then-pays-clause-owed
returns-then-pays-clause-owed c rest known =
    owed_paid c.args.ledger.now c.pay_back.new.ledger c.args.entry.now rest known (c.requires.unpaid c.if-pays.true) c.pay_back.ensures.start c.pay_back.ensures.each
