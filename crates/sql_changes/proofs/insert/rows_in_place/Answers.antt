use Rattle.std.proofs.Common.{List, map, sym, ap, ◌∙◌}
use Rattle.std.specs.Prelude.{if◌then◌else◌}
use Rattle.cell_core.specs.declared.cell.Cell.{Cell}
use Rattle.sql_changes.specs.Added.{by_name}
use Rattle.sql_changes.proofs.PlanLemmas.{placed_are}
use Rattle.sql_changes.proofs.insert.rows_in_place.Goals as goal

pub returns-then-is_empty : goal.returns-then-is_empty
returns-then-is_empty c =
    sym (placed_are c.args.columns.now c.args.listed.now c.args.rows.now
    ∙ ap (λ b. if b then c.args.rows.now else map (by_name c.args.columns.now c.args.listed.now) c.args.rows.now) (sym c.is_empty.ensures ∙ c.if-is_empty.true))
