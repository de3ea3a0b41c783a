use Rattle.std.proofs.Common.{sym, ◌∙◌}
use Rattle.sql_changes.proofs.AlterLemmas.{altered_not}
use Rattle.sql_changes.proofs.effect.alter.Goals as goal

pub returns-in-Some-2-clause-done : goal.returns-in-Some-2-clause-done
returns-in-Some-2-clause-done c =
    altered_not c.args.name.now c.args.column.now c.in-Some.table.now _ c.args.db.now c.in-Some-2.refusal c.in-Some.ensures
    (sym c.in-Some-2.is ∙ c.in_ok-refusal.ensures c.in-Some.table.now (sym c.len.ensures) (sym c.len-2.ensures))
