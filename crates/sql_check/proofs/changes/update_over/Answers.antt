use Rattle.std.proofs.Common.{◌∙◌, ap, map, Option}
use Rattle.std.specs.Option.{option_or, option_map}
use Rattle.sql_tree.specs.Tree.{cond_tree, set_tree}
use Rattle.sql_definitions.specs.declared.refusal.Refusal.{Refusal}
use Rattle.sql_check.proofs.ChangeLemmas.{update_first}
use Rattle.sql_check.proofs.changes.update_over.Goals as goal

pub returns : goal.returns
returns c =
    c.either-refusal.ensures
    ∙ ap (λ (x : Option Refusal). option_or x c.kinds_differ-kinds.result)
    (c.either-distinct.ensures
    ∙ ap (λ (x : Option Refusal). option_or x c.in_ok-twice.twice)
    (c.either-places.ensures ∙ ap (option_or c.in_ok-unknown.unknown) c.either-references.ensures))
    ∙ update_first c.args.sources.now c.args.columns.now (map set_tree c.args.sets.now) (option_map cond_tree c.args.cond.now) _ _ _ _ _ _ _ _ _
    c.in_ok-names.ensures c.as_slice.ensures c.as_slice-2.ensures c.in_ok-unknown.ensures c.in_ok-in_sets.ensures c.in_ok-in_cond.ensures c.in_ok-twice.ensures
    c.is_misfit_update.ensures c.kinds_differ-kinds.ensures
