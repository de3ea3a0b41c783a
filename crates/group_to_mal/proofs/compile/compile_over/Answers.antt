use Rattle.std.proofs.Common.{◌≡◌, map, ap, ◌∙◌}
use Rattle.std.specs.Option.{option_copied, option_map}
use Rattle.sql_tree.specs.Tree.{cond_tree, query_tree}
use Rattle.mal_emit.specs.Phrases.{variables}
use Rattle.rows_to_mal.specs.Conjuncts.{Scope}
use Rattle.sql_definitions.specs.Sources.{from_name, called_sources}
use Rattle.group_to_mal.specs.QueryPlan.{query_plan, plan_of, shown_items}
use Rattle.group_to_mal.proofs.CompiledLemmas.{if_ok, over_is, from_scope}
use Rattle.group_to_mal.proofs.compile.compile_over.Goals as goal

pub returns : goal.returns
returns c =
    let scope : Scope = c.new-tables.result in
    let wanted : Scope = from_scope c.args.query.now c.args.sources.now in
    let is : scope ≡ wanted =
    ap (λ called. record { called = called; sources = scope.sources }) (c.new-tables.ensures.called ∙ c.deref.ensures.value ∙ c.in_ok-called.ensures ∙ ap (λ froms. called_sources (map from_name froms) c.args.sources.now) c.as_slice.ensures)
    ∙ ap (λ sources. record { called = wanted.called; sources = sources }) c.new-tables.ensures.sources in
    if_ok (λ plan. plan ≡ plan_of scope (query_tree c.args.query.now) ((shown_items scope (query_tree c.args.query.now) (variables c.deref-3.result.now)).run c.kept_rows.new.instrs)) (λ plan. plan ≡ query_plan wanted (query_tree c.args.query.now)) c.plan_after.result
    (λ plan p. over_is scope wanted (query_tree c.args.query.now) plan c.kept_rows.new.instrs c.new-instrs.result (variables c.deref-3.result.now) (option_map cond_tree (option_copied c.as_ref.result)) is c.new-instrs.ensures
    (ap (option_map cond_tree) c.as_ref.ensures.value) (ap (λ rows. (c.kept_rows.new.instrs, variables rows)) c.deref-3.ensures.value ∙ c.in_ok-rows.ensures) p)
    c.plan_after.ensures.plan
