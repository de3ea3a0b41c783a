-- The plans of queries over the tables that they meet, and their refusals.
use Rattle.std.specs.Prelude.{List, Option}
use Rattle.cell_core.specs.declared.table.Db.{Db}
use Rattle.sql_tree.specs.Tree.{QueryTree, StmtTree}
use Rattle.sql_tree.specs.Tree.StmtTree.{Select}
use Rattle.sql_definitions.specs.Check.{check_refusal, sources_named, tables_of}
use Rattle.sql_definitions.specs.Sources.{schema_of}
use Rattle.sql_definitions.specs.declared.refusal.Refusal.{Refusal}
use Rattle.sql_definitions.specs.declared.source.Source.{Source}
use Rattle.mal_meaning.specs.declared.plan.Plan.{Plan}
use Rattle.mal_opt.specs.Optimisers.{optimise}
use Rattle.rows_to_mal.specs.Conjuncts.{Scope}
use Rattle.rows_to_mal.specs.Rows.{statement_scope}
use Rattle.group_to_mal.specs.QueryPlan.{query_plan}

-- the tables of a database that a statement speaks of, without their rows
abbrev pub sources_over : Db → StmtTree → List Source
sources_over db statement = sources_named (tables_of statement) (schema_of db)

-- the plan by which a query is run: its translation, optimised
unfoldable pub optimised_plan : Scope → QueryTree → Plan
optimised_plan scope query = optimise (query_plan scope query)

-- the plan by which it is run over the tables of a database
abbrev pub plan_over : Db → QueryTree → Plan
plan_over db query = optimised_plan (statement_scope (Select query) (sources_over db (Select query))) query

-- the refusal of a statement by the tables of a database, if it has one
abbrev pub refusal_over : Db → StmtTree → Option Refusal
refusal_over db statement = check_refusal statement (schema_of db)
