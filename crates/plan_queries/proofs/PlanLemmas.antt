-- What the check of a statement over a database says of it.
use Rattle.std.proofs.Common.{◌≡◌, List, Option, Some, None, ap, sym, ◌∙◌}
use Rattle.std.specs.Option.{option_map}
use Rattle.std.proofs.lemmas.Option.{same_Some}
use Rattle.cell_core.specs.declared.table.Db.{Db}
use Rattle.mal_meaning.specs.declared.plan.Plan.{Plan}
use Rattle.mal_opt.specs.Optimisers.{optimise}
use Rattle.rows_to_mal.specs.Conjuncts.{Scope}
use Rattle.rows_to_mal.specs.Rows.{statement_scope}
use Rattle.group_to_mal.specs.QueryPlan.{query_plan}
use Rattle.sql_definitions.specs.Answer.{answer, answer_of_stmt, query_of}
use Rattle.sql_definitions.specs.Valid.{IsValid}
use Rattle.mal_meaning.specs.Meaning.{plan_rows}
use Rattle.rows_to_mal.specs.Laws.{HoldsTables}
use Rattle.sql_definitions.specs.declared.source.Source.{Source}
use Rattle.plan_queries.specs.Plans.{optimised_plan, plan_over, refusal_over, sources_over}
use Rattle.sql_tree.specs.Tree.{QueryTree}
use Rattle.sql_tree.specs.Tree.StmtTree.{Select, ExplainSelect}
use Rattle.sql_definitions.specs.Check.{check_refusal, sources_named, tables_of}
use Rattle.sql_definitions.specs.Sources.{schema_of}
use Rattle.sql_definitions.specs.declared.refusal.Refusal.{Refusal}
use Rattle.sql_definitions.specs.declared.source.Schema.{Schema}
use Rattle.sql_tree.specs.Tree.{StmtTree}

-- what was found of the statement over the database's schema
pub refusal_found : (statement other : StmtTree) (schema : Schema) (db : Db) (found : Option Refusal) → schema ≡ schema_of db → statement ≡ other → check_refusal statement schema ≡ found → refusal_over db other ≡ found
refusal_found statement other schema db found same is h =
    ap (λ (stmt : StmtTree). refusal_over db stmt) (sym is) ∙ ap (λ (s : Schema). check_refusal statement s) (sym same) ∙ h

-- ## Plans

abbrev pub plan_for : StmtTree → List Source → Option Plan
plan_for s sources = option_map (optimised_plan (statement_scope s sources)) (query_of s)

made_is : (scope : Scope) (query : QueryTree) (plan : Plan) → query_plan scope query ≡ plan → optimise plan ≡ optimised_plan scope query
unfolding optimised_plan
made_is scope query plan e = ap optimise (sym e)

pub optimised_is : (s : StmtTree) (sources : List Source) (plan made : Plan) → option_map (query_plan (statement_scope s sources)) (query_of s) ≡ Some plan → made ≡ optimise plan → plan_for s sources ≡ Some made
optimised_is s sources plan made e is = by_query (query_of s) e ∙ ap Some (sym is)
  where
    by_query : (o : Option QueryTree) → option_map (query_plan (statement_scope s sources)) o ≡ Some plan → option_map (optimised_plan (statement_scope s sources)) o ≡ Some (optimise plan)
    by_query None f = cc
    by_query (Some query) f = ap Some (sym (made_is (statement_scope s sources) query plan (same_Some (query_plan (statement_scope s sources) query) plan f)))

-- the plan of a SELECT or an EXPLAIN over these tables
pub select_plan : (db : Db) (s : StmtTree) (sources : List Source) (query : QueryTree) (plan : Plan) → s ≡ Select query → sources ≡ sources_over db s → plan_for s sources ≡ Some plan → plan ≡ plan_over db query
select_plan db s sources query plan is tables e =
    sym (same_Some (plan_over db query) plan (sym (ap (λ t. plan_for s t) tables ∙ ap (λ stmt. plan_for stmt (sources_over db stmt)) is) ∙ e))

pub explain_plan : (db : Db) (s : StmtTree) (sources : List Source) (query : QueryTree) (plan : Plan) → s ≡ ExplainSelect query → sources ≡ sources_over db s → plan_for s sources ≡ Some plan → plan ≡ plan_over db query
explain_plan db s sources query plan is tables e =
    sym (same_Some (plan_over db query) plan (sym (ap (λ t. plan_for s t) tables ∙ ap (λ stmt. plan_for stmt (sources_over db stmt)) is) ∙ e))

-- a database has the tables that a statement was checked over
pub held : (db : Db) (s other : StmtTree) (sources : List Source) (schema : Schema) → IsValid db → s ≡ other → schema ≡ schema_of db → sources ≡ sources_named (tables_of other) schema → HoldsTables s sources db
held db s other sources schema valid is same e = record {
  valid = valid;
  tables = e ∙ ap (λ (sc : Schema). sources_named (tables_of other) sc) same ∙ ap (λ (st : StmtTree). sources_named (tables_of st) (schema_of db)) (sym is);
}

-- what is known of the plan of a SELECT
pub record Planned (db : Db) (query : QueryTree) (plan : Plan) : Type 0 where
  pub is : plan ≡ plan_over db query
  pub meaning : plan_rows plan db ≡ answer query db

pub planned : (db : Db) (s other : StmtTree) (query : QueryTree) (sources : List Source) (schema : Schema) (plan : Plan) → IsValid db → s ≡ other → other ≡ Select query → schema ≡ schema_of db
    → sources ≡ sources_named (tables_of other) schema → plan_for s sources ≡ Some plan → ((d : Db) → HoldsTables s sources d → plan_rows plan d ≡ answer_of_stmt s d) → Planned db query plan
planned db s other query sources schema plan valid is selects same e made means =
    let h = held db s other sources schema valid is same e in
    record {
      is = select_plan db s sources query plan (is ∙ selects) h.tables made;
      meaning = means db h ∙ ap (λ (st : StmtTree). answer_of_stmt st db) (is ∙ selects);
    }
