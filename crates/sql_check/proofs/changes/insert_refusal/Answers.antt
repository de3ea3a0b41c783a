use Rattle.std.proofs.Common.{◌∙◌, ap, Option}
use Rattle.std.specs.Option.{option_or}
use Rattle.sql_definitions.specs.declared.refusal.Refusal.{Refusal}
use Rattle.sql_check.proofs.ChangeLemmas.{insert_first}
use Rattle.sql_check.proofs.changes.insert_refusal.Goals as goal

pub returns : goal.returns
returns c =
    c.either-refusal.ensures
    ∙ ap (λ (x : Option Refusal). option_or x c.rows_refusal-of_rows.result) c.either-names.ensures
    ∙ insert_first c.args.listed.now c.args.rows.now c.args.source.now _ _ _ _ _ _
    c.as_slice-columns.ensures c.in_ok-found.ensures.columns c.as_slice.ensures c.in_ok-unknown.ensures c.in_ok-twice.ensures c.rows_refusal-of_rows.ensures
