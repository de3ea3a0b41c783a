use Rattle.std.proofs.Common.{sym, ◌∙◌}
use Rattle.cell_calc.proofs.AggregateLemmas.{greatest_taken, greatest_kept}
use Rattle.cell_calc.proofs.aggregate.take_greatest.Goals as goal

pub returns-in_ok-so_far-clause-value : goal.returns-in_ok-so_far-clause-value
returns-in_ok-so_far-clause-value c = λ cells is.
    greatest_taken cells c.args.so_far.now c.args.cell.now _ (sym c.is_nil.ensures ∙ c.if-is_nil.false) is (sym c.is_new_greatest.ensures ∙ c.if-is_new_greatest.true) c.in_ok-so_far.ensures

pub returns-else-is_new_greatest-clause-value : goal.returns-else-is_new_greatest-clause-value
returns-else-is_new_greatest-clause-value c = λ cells is.
    greatest_kept cells c.args.so_far.now c.args.cell.now (sym c.is_nil.ensures ∙ c.if-is_nil.false) is (sym c.is_new_greatest.ensures ∙ c.if-is_new_greatest.false)
