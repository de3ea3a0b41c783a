use Rattle.std.proofs.Common.{ap}
use Rattle.pool_policy.specs.Admits.{pays_at_end}
use Rattle.pool_policy.specs.Looks.{paid_back}
use Rattle.recycle_pool.proofs.Totals.{all_left, none_pays}
use Rattle.recycle_pool.proofs.room.leave.Goals as goal

pub returns-then-is_empty-clause-entries : goal.returns-then-is_empty-clause-entries
returns-then-is_empty-clause-entries c = all_left c.args.gone.now c.args.entries.now.items c.if-is_empty.ensures

pub returns-then-is_empty-clause-each : goal.returns-then-is_empty-clause-each
returns-then-is_empty-clause-each c = ap (paid_back c.args.ledger.now.each) (none_pays pays_at_end c.args.gone.now c.args.entries.now.items c.if-is_empty.ensures)
