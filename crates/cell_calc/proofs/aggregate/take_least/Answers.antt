use Rattle.std.proofs.Common.{sym, ◌∙◌}
use Rattle.cell_calc.proofs.AggregateLemmas.{least_taken, least_kept}
use Rattle.cell_calc.proofs.aggregate.take_least.Goals as goal

pub returns-in_ok-so_far-clause-value : goal.returns-in_ok-so_far-clause-value
returns-in_ok-so_far-clause-value c = λ cells is.
    least_taken cells c.args.so_far.now c.args.cell.now _ (sym c.is_nil.ensures ∙ c.if-is_nil.false) is (sym c.is_new_least.ensures ∙ c.if-is_new_least.true) c.in_ok-so_far.ensures

pub returns-else-is_new_least-clause-value : goal.returns-else-is_new_least-clause-value
returns-else-is_new_least-clause-value c = λ cells is.
    least_kept cells c.args.so_far.now c.args.cell.now (sym c.is_nil.ensures ∙ c.if-is_nil.false) is (sym c.is_new_least.ensures ∙ c.if-is_new_least.false)
