-- What the rows of a checked statement mean over a database.
use Rattle.std.specs.Prelude.{◌≡◌, ℕ, List, [], ◌∷◌, length, map, filter, true, false, ◌||◌, Option, Some, None, is_none, get_or}
use Rattle.std.specs.List.{list_any, range_with_len}
use Rattle.std.specs.Option.{option_map, option_map_or}
use Rattle.cell_core.specs.declared.cell.Cell.{Cell}
use Rattle.cell_core.specs.declared.cell.Cell.TheVariants.{Oid}
use Rattle.cell_core.specs.declared.operator.Arg.{Arg}
use Rattle.cell_core.specs.declared.operator.Instr.{Instr}
use Rattle.cell_core.specs.declared.operator.Value.{Value}
use Rattle.cell_core.specs.declared.operator.Value.TheVariants.{Bat}
use Rattle.cell_core.specs.declared.table.Table.{Table}
use Rattle.cell_core.specs.declared.table.Db.{Db}
use Rattle.cell_core.specs.Calc.{all_or_none}
use Rattle.cell_core.specs.Pairs.{numbered}
use Rattle.cell_core.specs.Tables.{named_table}
use Rattle.mal_meaning.specs.Meaning.{plan_values, plan_rows}
use Rattle.mal_meaning.specs.Output.{value_in}
use Rattle.mal_meaning.specs.Runs.{Runs}
use Rattle.mal_meaning.specs.declared.plan.Plan.{Plan}
use Rattle.mal_check.specs.Checked.{plan_fault}
use Rattle.mal_check.specs.Runnable.{FitsDb}
use Rattle.sql_tree.specs.Tree.{ExprTree, CondTree, StmtTree}
use Rattle.sql_grammar.specs.Formed.{IsFormed}
use Rattle.sql_definitions.specs.declared.source.Source.{Source}
use Rattle.rows_to_mal.specs.Choices.{choice_at, kept_numbers}
use Rattle.rows_to_mal.specs.Rows.{condition_of, keeps_rows, statement_rows}
use Rattle.rows_to_mal.specs.Writes.{is_write, new_values, write_plan, written_rows}
use Rattle.sql_definitions.specs.Sources.{schema_of}
use Rattle.sql_definitions.specs.Check.{check_refusal, sources_named, sources_called, tables_of}
use Rattle.sql_definitions.specs.Effect.{own_table, is_hit, overflows_in, is_any_set}
use Rattle.sql_definitions.specs.Kept.{kept, cond_overflows}
use Rattle.sql_definitions.specs.Values.{constant_overflows}
use Rattle.sql_definitions.specs.Valid.{IsValid}

-- the database is valid, and these are the tables of the statement in it
pub record HoldsTables (stmt : StmtTree) (sources : List Source) (db : Db) : Type 0 where
  pub valid : IsValid db
  pub tables : sources ≡ sources_named (tables_of stmt) (schema_of db)

-- the rows of a table in a database
abbrev pub rows_in : Db → Source → List (List Cell)
rows_in db source = option_map_or (λ (t : Table). t.rows) (named_table source.table db) []

-- the values of arguments after instructions, or None where one of these has no value
abbrev pub values_after : Db → List Instr → List Arg → Option (List Value)
values_after db instrs args = option_map (λ values. map (value_in values) args) (all_or_none (plan_values db instrs))

-- the oids of table n in choices that are given by their rows' numbers
abbrev pub table_oids : List (List ℕ) → ℕ → Value
table_oids choices n = Bat (numbered (map (λ numbers. Oid (get_or numbers n 0)) choices))

-- one such BAT for each table
abbrev pub oids_of_tables : ℕ → List (List ℕ) → List Value
oids_of_tables count choices = map (table_oids choices) (range_with_len 0 count)

-- the instructions of a statement's rows compute the oids of the choices that its condition keeps, in order; they have no value exactly where the condition overflows
abbrev pub KeepsRows : StmtTree → List Source → Db → Type 0
KeepsRows stmt sources db =
    values_after db ((statement_rows stmt sources).run []).0 ((statement_rows stmt sources).run []).1
    ≡ option_map (oids_of_tables (length sources)) (kept_numbers (sources_called stmt sources) (condition_of stmt) (map (rows_in db) sources))

-- this holds of each checked statement with rows, over each database that has its tables
abbrev pub StatementsKeepRows : Type 0
StatementsKeepRows = (stmt : StmtTree) (sources : List Source) (db : Db) → keeps_rows stmt ≡ true → IsFormed stmt → check_refusal stmt (record { tables = sources }) ≡ None
    → HoldsTables stmt sources db → KeepsRows stmt sources db

-- the numbers of choices stand for the choices that SQL keeps
abbrev pub NumbersAreChoices : Type 0
NumbersAreChoices = (stmt : StmtTree) (sources : List Source) (db : Db) → cond_overflows (condition_of stmt) ≡ false
    → option_map (map (choice_at (map (rows_in db) sources))) (kept_numbers (sources_called stmt sources) (condition_of stmt) (map (rows_in db) sources))
    ≡ Some (kept (sources_called stmt sources) (condition_of stmt) (map (rows_in db) sources))

-- the plan of a checked DELETE or UPDATE returns the oids of the rows that it keeps and their new cells, and overflows where the condition or a new value does
abbrev pub WritesAreMeant : Type 0
WritesAreMeant = (stmt : StmtTree) (sources : List Source) (db : Db) → is_write stmt ≡ true → IsFormed stmt → check_refusal stmt (record { tables = sources }) ≡ None
    → HoldsTables stmt sources db → plan_rows (write_plan stmt sources) db ≡ written_rows (sources_called stmt sources) (condition_of stmt) (new_values stmt) (map (rows_in db) sources)

-- a plan has no fault, fits a database, and can be run over it
pub record RunsOver (plan : Plan) (db : Db) : Type 0 where
  pub checked : plan_fault plan ≡ None
  pub fits : FitsDb plan db
  pub runs : Runs plan db

-- this holds of the plan of each checked DELETE and UPDATE over each database that has its tables
abbrev pub WritePlansRun : Type 0
WritePlansRun = (stmt : StmtTree) (sources : List Source) (db : Db) → is_write stmt ≡ true → IsFormed stmt → check_refusal stmt (record { tables = sources }) ≡ None
    → HoldsTables stmt sources db → RunsOver (write_plan stmt sources) db

-- over the rows of its table, the plan of an UPDATE has no rows exactly where the statement's effect is an overflow, if it is refused for no other cause
abbrev pub UpdatesOverflow : Type 0
UpdatesOverflow = (table : Table) (sets : List (List ℕ × ExprTree)) (condition : Option CondTree)
    → is_none (written_rows (own_table table) condition (map (λ (set : List ℕ × ExprTree). set.1) sets) (table.rows ∷ []))
    ≡ (list_any constant_overflows (map (λ (set : List ℕ × ExprTree). set.1) sets) || cond_overflows condition || is_any_set (overflows_in table) sets (filter (is_hit condition table) table.rows))
