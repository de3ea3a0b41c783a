use Rattle.std.proofs.Common.{◌∙◌}
use Rattle.std.specs.Prelude.{None, false}
use Rattle.evict_admit.specs.Boards.{row_at}
use Rattle.evict_admit.proofs.Plans.{all_same, left_first}
use Rattle.evict_admit.proofs.plan.plan_among.Goals as goal

pub count_children-requires-clause-fresh : goal.count_children-requires-clause-fresh
count_children-requires-clause-fresh c = λ p. all_same _ 1024 p (record { children = 0; gone = false })

pub seat_all-requires-clause-none : goal.seat_all-requires-clause-none
seat_all-requires-clause-none c = λ k. all_same _ 2048 k None

pub plan_in-requires-clause-fresh : goal.plan_in-requires-clause-fresh
plan_in-requires-clause-fresh c = λ p low. c.count_children.ensures.each p low ∙ left_first c.args.known.now.rows.now (row_at c.args.known.now.rows.now p)
