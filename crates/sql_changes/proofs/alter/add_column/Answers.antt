use Rattle.std.proofs.Common.{[], false, ap, sym, ◌∙◌}
use Rattle.std.proofs.lemmas.Result.{on_ok_weaker}
use Rattle.cell_core.specs.declared.table.Table.{Table}
use Rattle.cell_core.specs.Tables.{grown}
use Rattle.sql_changes.specs.Plans.{place_once}
use Rattle.sql_changes.proofs.PlaceLemmas.{set_where}
use Rattle.sql_changes.proofs.alter.add_column.Goals as goal

pub returns-in-Some-clause-done : goal.returns-in-Some-clause-done
returns-in-Some-clause-done c =
    let first : Table = record { name = []; columns = []; rows = [] } in
    on_ok_weaker c.grow_at.result
    (λ done. done first
    ∙ set_where c.args.name.now (grown c.args.column.now) c.args.db.now.tables first c.in-Some.at
    (ap (place_once c.args.name.now) (sym c.as_slice.ensures) ∙ sym c.in-Some.ensures.place))
    c.grow_at.ensures.done
