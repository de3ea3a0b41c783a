use Rattle.row_values.proofs.ValueLemmas.{column_cell_is}
use Rattle.row_values.proofs.value.column_cell.Goals as goal

pub returns : goal.returns
returns c =
    column_cell_is c.args.sources.now c.args.choice.now c.args.reference.now _ _ _ _ c.as_ref.ensures.value c.in-Some.ensures c.in-Some-cell_at.ensures c.in_ok-cell.ensures
