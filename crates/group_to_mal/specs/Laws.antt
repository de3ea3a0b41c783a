-- What the plan of a checked query means.
use Rattle.std.specs.Prelude.{◌≡◌, List, None, Some}
use Rattle.cell_core.specs.declared.table.Db.{Db}
use Rattle.mal_meaning.specs.Meaning.{plan_rows}
use Rattle.sql_tree.specs.Tree.{QueryTree, StmtTree}
use Rattle.sql_grammar.specs.Formed.{IsFormed}
use Rattle.sql_definitions.specs.declared.source.Source.{Source}
use Rattle.sql_definitions.specs.Answer.{answer, query_of}
use Rattle.sql_definitions.specs.Check.{check_refusal}
use Rattle.rows_to_mal.specs.Laws.{HoldsTables, RunsOver}
use Rattle.rows_to_mal.specs.Rows.{statement_scope}
use Rattle.group_to_mal.specs.QueryPlan.{query_plan}

-- over each database that has the tables of a checked query, the plan's meaning is the query's answer, an overflow included
abbrev pub PlansMeanAnswers : Type 0
PlansMeanAnswers = (stmt : StmtTree) (query : QueryTree) (sources : List Source) (db : Db) → query_of stmt ≡ Some query → IsFormed stmt
    → check_refusal stmt (record { tables = sources }) ≡ None → HoldsTables stmt sources db → plan_rows (query_plan (statement_scope stmt sources) query) db ≡ answer query db

-- over each such database that plan has no fault, fits, and can be run
abbrev pub QueryPlansRun : Type 0
QueryPlansRun = (stmt : StmtTree) (query : QueryTree) (sources : List Source) (db : Db) → query_of stmt ≡ Some query → IsFormed stmt
    → check_refusal stmt (record { tables = sources }) ≡ None → HoldsTables stmt sources db → RunsOver (query_plan (statement_scope stmt sources) query) db
