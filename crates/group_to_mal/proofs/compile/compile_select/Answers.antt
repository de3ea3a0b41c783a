use Rattle.std.proofs.Common.{◌≡◌, Some}
use Rattle.sql_tree.specs.Tree.{query_tree}
use Rattle.group_to_mal.specs.QueryPlan.{query_plan}
use Rattle.group_to_mal.proofs.CompiledLemmas.{if_ok, select_is, explain_is, from_scope, plan_for}
use Rattle.group_to_mal.proofs.compile.compile_select.Goals as goal

pub returns-in-Query : goal.returns-in-Query
returns-in-Query c =
    if_ok (λ plan. plan ≡ query_plan (from_scope c.in-Query.query c.args.typed.now.sources) (query_tree c.in-Query.query)) (λ plan. plan_for c.args.typed.now.stmt c.args.typed.now.sources ≡ Some plan) c.compile_over.result
    (λ plan p. select_is c.args.typed.now.stmt c.in-Query.query c.args.typed.now.sources plan c.in-Query.is p) (rw c.as_slice.ensures at c.compile_over.ensures)

pub returns-in-Explain : goal.returns-in-Explain
returns-in-Explain c =
    if_ok (λ plan. plan ≡ query_plan (from_scope c.in-Explain.query c.args.typed.now.sources) (query_tree c.in-Explain.query)) (λ plan. plan_for c.args.typed.now.stmt c.args.typed.now.sources ≡ Some plan) c.compile_over-in-Explain.result
    (λ plan p. explain_is c.args.typed.now.stmt c.in-Explain.query c.args.typed.now.sources plan c.in-Explain.is p) (rw c.as_slice-in-Explain.ensures at c.compile_over-in-Explain.ensures)
