-- What a compiled query's plan is and means.
use Rattle.std.proofs.Common.{◌≡◌, List, [], map, Option, Some, None, Ok, refl, ap, sym, ◌∙◌, subst}
use Rattle.std.specs.Prelude.{Result, Err, IfOk, is_none}
use Rattle.std.specs.Option.{option_map, option_and_then}
use Rattle.std.proofs.lemmas.Option.{same_Some}
use Rattle.std.proofs.Props.{props}
use Rattle.std.proofs.Math.Logic.{∥∥₁_elim}
use Rattle.cell_core.specs.declared.operator.Arg.{Arg}
use Rattle.cell_core.specs.declared.operator.Instr.{Instr}
use Rattle.cell_core.specs.declared.table.Db.{Db}
use Rattle.mal_meaning.specs.declared.plan.Plan.{Plan}
use Rattle.mal_meaning.specs.Meaning.{plan_rows}
use Rattle.mal_meaning.specs.Runs.{Runs}
use Rattle.mal_check.specs.Checked.{plan_fault}
use Rattle.mal_check.specs.Runnable.{FitsDb, CheckedPlansRun}
use Rattle.sql_tree.specs.Tree.{CondTree, QueryTree, StmtTree, query_tree, stmt_tree}
use Rattle.sql_tree.specs.declared.tree.Query.{Query}
use Rattle.sql_tree.specs.declared.tree.Stmt.{Stmt}
use Rattle.sql_tree.specs.declared.tree.Stmt.TheVariants as stmt
use Rattle.sql_grammar.specs.Formed.{IsFormed}
use Rattle.sql_definitions.specs.declared.source.Source.{Source}
use Rattle.sql_definitions.specs.Sources.{from_name, called_sources}
use Rattle.sql_definitions.specs.Answer.{query_of, answer, answer_of_stmt}
use Rattle.sql_definitions.specs.Check.{check_refusal}
use Rattle.rows_to_mal.specs.Conjuncts.{Scope}
use Rattle.rows_to_mal.specs.Laws.{HoldsTables}
use Rattle.rows_to_mal.specs.Rows.{statement_scope, kept_rows}
use Rattle.rows_to_mal.proofs.SameLemmas.{known, none_is, same_rows, of_rows}
use Rattle.group_to_mal.specs.Laws.{PlansMeanAnswers, QueryPlansRun}
use Rattle.group_to_mal.specs.QueryPlan.{plan_of, shown_items, query_plan}

pub if_ok : {A E : Type 0} (P Q : A → Type 0) (r : Result A E) → ((a : A) → P a → Q a) → IfOk r P → IfOk r Q
if_ok P Q (Ok a) f h = f a h
if_ok P Q (Err e) f h = tt

-- the rows, and then what is shown of them
pub over_is : (scope wanted : Scope) (query : QueryTree) (plan : Plan) (instrs begin : List Instr) (rows : List Arg) (condition : Option CondTree) → scope ≡ wanted → begin ≡ [] → condition ≡ query.cond
    → (instrs, rows) ≡ (kept_rows scope condition).run begin → plan ≡ plan_of scope query ((shown_items scope query rows).run instrs) → plan ≡ query_plan wanted query
over_is scope wanted query plan instrs begin rows condition s b c e p =
    p ∙ ap behind e ∙ ap (λ is. behind ((kept_rows scope condition).run is)) b ∙ ap (λ o. behind ((kept_rows scope o).run [])) c ∙ ap (λ x. query_plan x query) s
  where
    behind : List Instr × List Arg → Plan
    behind at = plan_of scope query ((shown_items scope query at.1).run at.0)

abbrev pub from_scope : Query → List Source → Scope
from_scope query sources = record { called = called_sources (map from_name query.froms) sources; sources = sources }

abbrev pub plan_for : Stmt → List Source → Option Plan
plan_for s sources = option_map (query_plan (statement_scope (stmt_tree s) sources)) (query_of (stmt_tree s))

pub select_is : (s : Stmt) (query : Query) (sources : List Source) (plan : Plan) → s ≡ stmt.Query query → plan ≡ query_plan (from_scope query sources) (query_tree query) → plan_for s sources ≡ Some plan
select_is s query sources plan e p = ap (λ t. plan_for t sources) e ∙ sym (ap Some p)

pub explain_is : (s : Stmt) (query : Query) (sources : List Source) (plan : Plan) → s ≡ stmt.Explain query → plan ≡ query_plan (from_scope query sources) (query_tree query) → plan_for s sources ≡ Some plan
explain_is s query sources plan e p = ap (λ t. plan_for t sources) e ∙ sym (ap Some p)

-- ## Meaning

pub record Compiled (s : StmtTree) (plan : Plan) (db : Db) : Type 0 where
  pub checked : plan_fault plan ≡ None
  pub fits : FitsDb plan db
  pub meaning : plan_rows plan db ≡ answer_of_stmt s db

compiled_from : PlansMeanAnswers → QueryPlansRun → (s : StmtTree) (sources : List Source) (plan : Plan) → option_map (query_plan (statement_scope s sources)) (query_of s) ≡ Some plan → IsFormed s
    → check_refusal s (record { tables = sources }) ≡ None → (db : Db) → HoldsTables s sources db → Compiled s plan db
compiled_from mean run s sources plan e formed accepted db held = by_query (query_of s) refl e
  where
    by_query : (o : Option QueryTree) → query_of s ≡ o → option_map (query_plan (statement_scope s sources)) o ≡ Some plan → Compiled s plan db
    by_query None f g = cc
    by_query (Some query) f g =
        let is : query_plan (statement_scope s sources) query ≡ plan = same_Some (query_plan (statement_scope s sources) query) plan g in
        let runs = run s query sources db f formed accepted held in
        record {
          checked = ap plan_fault (sym is) ∙ runs.checked;
          fits = subst (λ p. FitsDb p db) is runs.fits;
          meaning = ap (λ p. plan_rows p db) (sym is) ∙ mean s query sources db f formed accepted held ∙ sym (ap (λ o. option_and_then (λ q. answer q db) o) f);
        }

module _ (mean : PlansMeanAnswers) (run : QueryPlansRun) (s : StmtTree) (sources : List Source) (formed : ∥ IsFormed s ∥₁) (accepted : check_refusal s (record { tables = sources }) ≡ None) (plan : Plan)
    (e : option_map (query_plan (statement_scope s sources)) (query_of s) ≡ Some plan) (db : Db) (held : HoldsTables s sources db) where
  compiled : IsFormed s → Compiled s plan db
  compiled f = compiled_from mean run s sources plan e f accepted db held

  pub is_checked : plan_fault plan ≡ None
  is_checked = none_is (plan_fault plan) (∥∥₁_elim formed (search props) (λ f. ap is_none (compiled f).checked))

  pub is_fitting : FitsDb plan db
  is_fitting = ∥∥₁_elim formed (search props) (λ f. (compiled f).fits)

  pub is_meant : plan_rows plan db ≡ answer_of_stmt s db
  is_meant = known same_rows of_rows (plan_rows plan db) (answer_of_stmt s db) formed (λ f. (compiled f).meaning)

  pub is_runnable : CheckedPlansRun → Runs plan db
  is_runnable all = all plan db is_checked is_fitting
