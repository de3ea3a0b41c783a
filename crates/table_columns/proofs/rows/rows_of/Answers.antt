use Rattle.std.proofs.Common.{◌∷◌, [], ◌++◌, List, take, ap, sym, ◌∙◌, arith}
use Rattle.std.proofs.lemmas.List.{take_more, take_all}
use Rattle.cell_core.specs.declared.cell.Cell.{Cell}
use Rattle.table_columns.specs.Rows.{rows_beside}
use Rattle.table_columns.proofs.RowLemmas.{length_rows}
use Rattle.table_columns.proofs.MadeLemmas.{row_made}
use Rattle.table_columns.proofs.rows.rows_of.Goals as goal

pub rows-preserved : goal.rows-preserved
rows-preserved c =
    let long = length_rows c.args.count c.args.columns.now c.requires in
    let within = c.rows-test.true in (
      c.in_ok-push.ensures.ok
          ∙ ap (λ (rows : List (List Cell)). rows ++ c.in_ok-row_at.field-0 ∷ []) c.rows.invariant.0
          ∙ ap (λ (row : List Cell). take c.rows.at (rows_beside c.args.count c.args.columns.now) ++ row ∷ []) (c.in_ok-row_at.ensures ∙ sym (row_made c.args.count c.args.columns.now c.rows.at c.requires within))
          ∙ sym (take_more (rows_beside c.args.count c.args.columns.now) c.rows.at [] (omega (arith, long, within))),
      omega (arith, within),
    )

pub returns : goal.returns
returns c =
    let long = length_rows c.args.count c.args.columns.now c.requires in
    let least = c.rows-test.false in
    c.rows.invariant.0 ∙ take_all c.rows.at (rows_beside c.args.count c.args.columns.now) (omega (arith, long, least))
