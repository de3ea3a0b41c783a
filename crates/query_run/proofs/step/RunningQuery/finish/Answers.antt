use Rattle.std.proofs.Common.{◌≡◌, ℕ, ◌<◌, length, Some, ap, sym, subst, ◌∙◌, arith}
use Rattle.std.specs.Prelude.{slice_get}
use Rattle.bat_core.specs.Objects.{values_of}
use Rattle.bat_core.specs.declared.shared.Obj.{Obj}
use Rattle.mal_exec.specs.Results.{known_of}
use Rattle.mal_meaning.specs.Output.{output_rows}
use Rattle.reply_layout.specs.declared.shown.Shown.TheVariants as shown
use Rattle.query_run.specs.Queries.{EndsWith}
use Rattle.query_run.proofs.WalkLemmas.{each_there, rows_at_end}
use Rattle.query_run.proofs.step.RunningQuery.finish.Goals as goal

pub all_results-requires : goal.all_results-requires
all_results-requires c =
    subst (λ r. (n : ℕ) → n < length r.1.items → (x : Obj) × (slice_get r.1.items n ≡ Some (Some x))) (sym c.into_results-plan.ensures)
    (each_there c.args.self (λ n low. c.requires.all n (let many = c.requires.under.values in omega (arith, low, many))))

pub returns-clause-step : goal.returns-clause-step
returns-clause-step c =
    subst (λ r. EndsWith c.args.self (shown.Rows c.in_ok-rows.rows) r.2) (sym c.into_results-plan.ensures)
    (rows_at_end c.args.self c.in_ok-rows.rows (values_of c.in_ok-values.values) c.requires.under c.requires.all (ap (λ r. known_of r.1.items) (sym c.into_results-plan.ensures) ∙ c.in_ok-values.ensures)
    (c.in_ok-rows.ensures.rows ∙ ap (λ vs. output_rows c.into_results-plan.result.0.out (values_of vs)) c.as_slice.ensures
    ∙ ap (λ r. output_rows r.0.out (values_of c.in_ok-values.values)) c.into_results-plan.ensures))
