-- How the plan of a DELETE or an UPDATE determines the statement's effect.
use Rattle.std.specs.Prelude.{◌≡◌, ℕ, List, [], ◌∷◌, map, true, Option, Some, None}
use Rattle.cell_core.specs.declared.cell.Cell.{Cell}
use Rattle.cell_core.specs.declared.table.Table.{Table}
use Rattle.cell_core.specs.declared.table.Db.{Db}
use Rattle.cell_core.specs.Tables.{named_table}
use Rattle.mal_meaning.specs.Meaning.{plan_rows}
use Rattle.sql_tree.specs.Tree.{ExprTree, CondTree, StmtTree}
use Rattle.sql_grammar.specs.Formed.{IsFormed}
use Rattle.sql_definitions.specs.declared.source.Source.{Source}
use Rattle.sql_definitions.specs.Check.{check_refusal}
use Rattle.sql_definitions.specs.Effect.{own_table}
use Rattle.rows_to_mal.specs.Rows.{condition_of}
use Rattle.rows_to_mal.specs.Writes.{is_write, write_plan, written_rows}
use Rattle.rows_to_mal.specs.Laws.{HoldsTables}
use Rattle.change_plans.specs.Hits.{changed_table, change_of, sets_of, rows_written}
use Rattle.change_plans.specs.Decisions.{left_by, is_in_place, decided_by}

-- the rows of a plan over a table are those of which the condition is true, each by its oid and its new cells, in the order of the table
abbrev pub PlansGiveHits : Type 0
PlansGiveHits = (table : Table) (sets : List (List ℕ × ExprTree)) (condition : Option CondTree)
    → written_rows (own_table table) condition (map (λ (set : List ℕ × ExprTree). set.1) sets) (table.rows ∷ []) ≡ rows_written sets condition table

-- the same holds for the plan of each checked DELETE and UPDATE over each valid database that has its table
abbrev pub WritesGiveHits : Type 0
WritesGiveHits = (stmt : StmtTree) (sources : List Source) (db : Db) (table : Table) → is_write stmt ≡ true → IsFormed stmt → check_refusal stmt (record { tables = sources }) ≡ None
    → HoldsTables stmt sources db → named_table (changed_table stmt) db ≡ Some table → plan_rows (write_plan stmt sources) db ≡ rows_written (sets_of stmt) (condition_of stmt) table

-- what the rows of a plan over a table decide changes the table as SQL says of the statement
abbrev pub DecisionsAreMeant : Type 0
DecisionsAreMeant = (stmt : StmtTree) (table : Table) (rows : List (List Cell)) → is_write stmt ≡ true → rows_written (sets_of stmt) (condition_of stmt) table ≡ Some rows
    → left_by (decided_by stmt table.columns rows) table ≡ change_of stmt table

-- and these rows touch rows that exist, in order
abbrev pub DecisionsAreInPlace : Type 0
DecisionsAreInPlace = (stmt : StmtTree) (table : Table) (rows : List (List Cell)) → is_write stmt ≡ true → rows_written (sets_of stmt) (condition_of stmt) table ≡ Some rows
    → is_in_place (decided_by stmt table.columns rows) table ≡ true

-- over a valid database that has this table the plan of the statement has no rows
pub record OverflowsOver (stmt : StmtTree) (sources : List Source) (table : Table) : Type 0 where
  pub db : Db
  pub holds : HoldsTables stmt sources db
  pub found : named_table (changed_table stmt) db ≡ Some table
  pub none : plan_rows (write_plan stmt sources) db ≡ None
