use Rattle.std.proofs.Common.{sym, arith}
use Rattle.evict_admit.proofs.Leads.{no_child}
use Rattle.evict_admit.proofs.leading.has_none.Goals as goal

pub returns : goal.returns
returns c = sym (no_child c.args.id c.args.rows.now (λ p low. c.rows.invariant p (omega arith)))
