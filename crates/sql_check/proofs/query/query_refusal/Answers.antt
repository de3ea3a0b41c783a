use Rattle.std.proofs.Common.{◌∙◌, ap, Option}
use Rattle.std.specs.Option.{option_or}
use Rattle.sql_tree.specs.Tree.{query_tree}
use Rattle.sql_definitions.specs.declared.refusal.Refusal.{Refusal}
use Rattle.sql_check.proofs.QueryLemmas.{query_first}
use Rattle.sql_check.proofs.query.query_refusal.Goals as goal

pub returns : goal.returns
returns c =
    c.either-refusal.ensures
    ∙ ap (λ (x : Option Refusal). option_or x c.in_ok-column.column) c.either-tables.ensures
    ∙ query_first (query_tree c.args.query.now) c.args.schema.now _ c.as_slice.result.now _ _ _ _ _
    c.as_slice-froms.ensures c.in_ok-missing.ensures (c.as_slice.ensures ∙ c.in_ok-names.ensures) c.in_ok-twice.ensures
    c.in_ok-sources.ensures c.deref.ensures.value c.in_ok-column.ensures
