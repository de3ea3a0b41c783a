use Rattle.std.proofs.Common.{arith}
use Rattle.evict_admit.proofs.names.write_names.Goals as goal

pub returns-clause-each : goal.returns-clause-each
returns-clause-each c = λ p low. (p, omega arith, c.rows.invariant.named p _ (omega arith))
