use Rattle.std.proofs.Common.{[], ap, sym, ◌∙◌}
use Rattle.std.proofs.lemmas.Result.{on_ok_weaker}
use Rattle.cell_core.specs.declared.table.Table.{Table}
use Rattle.sql_changes.specs.Plans.{place_once}
use Rattle.sql_changes.proofs.PlaceLemmas.{set_once}
use Rattle.sql_changes.proofs.carry.rework_named.Goals as goal

pub returns-in-Some-clause-done : goal.returns-in-Some-clause-done
returns-in-Some-clause-done c =
    let first : Table = record { name = []; columns = []; rows = [] } in
    on_ok_weaker c.rework_at.result
    (λ done. done first
    ∙ set_once c.args.name.now c.args.work c.args.db.now.tables first c.in-Some.at
    (ap (place_once c.args.name.now) (sym c.as_slice.ensures) ∙ sym c.in-Some.ensures.place))
    c.rework_at.ensures.done
