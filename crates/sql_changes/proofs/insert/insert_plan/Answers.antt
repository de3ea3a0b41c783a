use Rattle.std.proofs.Common.{List, ap, sym, ◌∙◌}
use Rattle.cell_core.specs.declared.cell.Cell.{Cell}
use Rattle.sql_changes.specs.Added.{added_to}
use Rattle.sql_changes.specs.Plans.{change_of}
use Rattle.sql_changes.specs.declared.plan.Work.TheVariants.{Adds}
use Rattle.sql_changes.specs.declared.plan.PlannedChange.TheVariants.{Accepted}
use Rattle.sql_changes.proofs.insert.insert_plan.Goals as goal

pub returns-in-Err : goal.returns-in-Err
returns-in-Err c = ap (added_to c.args.table.now) (sym c.in-Err.is) ∙ c.in_ok-refusal.ensures c.args.table.now (sym c.as_slice-columns.ensures) (sym c.len.ensures)

pub returns-in_ok-into_rows-in-Ok : goal.returns-in_ok-into_rows-in-Ok
returns-in_ok-into_rows-in-Ok c =
    ap (λ (rows : List (List Cell)). change_of (Accepted (Adds rows)) c.args.table.now.rows) c.in_ok-into_rows-in-Ok.ensures
    ∙ ap (added_to c.args.table.now) (sym c.in-Ok.is) ∙ c.in_ok-refusal.ensures c.args.table.now (sym c.as_slice-columns.ensures) (sym c.len.ensures)
