use Rattle.std.proofs.Common.{◌≡◌, Some, rules, subst, sym, ap, ◌∙◌}
use Rattle.std.specs.Option.{option_map}
use Rattle.bat_core.specs.Objects.{values_of}
use Rattle.mal_meaning.specs.Output.{output_rows}
use Rattle.mal_meaning.specs.Runs.{run_values, rows_of_run, rows_found}
use Rattle.mal_exec.proofs.run.run_plan.Goals as goal

pub returns-in_err-finished-clause-overflow : goal.returns-in_err-finished-clause-overflow
returns-in_err-finished-clause-overflow g c = λ e.
    sym (rows_of_run c.args.plan.now (g.C.Columns.database c.args.columns.now))
    ∙ ap (λ is. option_map (output_rows c.args.plan.now.out) (run_values (g.C.Columns.database c.args.columns.now) is)) (sym c.as_slice.ensures)
    ∙ ap (option_map (output_rows c.args.plan.now.out)) (c.run_instrs.ensures.overflow (search rules))

pub returns-clause-rows : goal.returns-clause-rows
returns-clause-rows g c =
    rows_found c.args.plan.now (g.C.Columns.database c.args.columns.now) (values_of c.in_ok-finished.finished.values) c.in_ok-rows.rows
    (subst (λ is. run_values (g.C.Columns.database c.args.columns.now) is ≡ Some (values_of c.in_ok-finished.finished.values)) c.as_slice.ensures c.in_ok-finished.ensures.values)
    (subst (λ vs. c.in_ok-rows.rows ≡ output_rows c.args.plan.now.out (values_of vs)) c.as_slice-2.ensures c.in_ok-rows.ensures.rows)
