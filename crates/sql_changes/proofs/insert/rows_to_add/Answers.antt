use Rattle.std.proofs.Common.{List, ap, sym, ◌∙◌}
use Rattle.cell_core.specs.declared.cell.Cell.{Cell}
use Rattle.sql_changes.specs.Parts.{insert_refusal}
use Rattle.sql_changes.proofs.PlanLemmas.{inserted_not, inserted_is}
use Rattle.sql_changes.proofs.insert.rows_to_add.Goals as goal

pub returns-in-Some : goal.returns-in-Some
returns-in-Some c =
    inserted_not c.args.listed.now c.args.rows.now c.args.columns.now c.args.count _ _ c.in-Some.refusal
    (c.as_slice.ensures ∙ c.in_ok-targets.ensures.columns) (c.as_slice-2.ensures ∙ c.in_ok-placed.ensures) (sym c.in-Some.is ∙ c.in_ok-refusal.ensures)

pub returns : goal.returns
returns c =
    inserted_is c.args.listed.now c.args.rows.now c.args.columns.now c.args.count c.as_slice.result.now c.in_ok-placed.placed
    (c.as_slice.ensures ∙ c.in_ok-targets.ensures.columns) c.in_ok-placed.ensures
    (sym c.in-None.is ∙ c.in_ok-refusal.ensures
    ∙ ap (λ (placed : List (List Cell)). insert_refusal c.as_slice.result.now c.args.rows.now placed c.args.columns.now c.args.count) c.as_slice-2.ensures)
