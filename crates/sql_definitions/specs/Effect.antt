-- What a statement does to a database, and what it replies.
use Rattle.std.specs.Prelude.{ℕ, List, [], ◌∷◌, ◌++◌, ◌+◌, length, map, filter, find, chars, zip, Bool, false, not, ◌&&◌, ◌||◌, ◌==◌, nat_lt, if◌then◌else◌, bytes_eq, codes, slice_index_or, Option, Some, None, is_none, Result, Ok, Err}
use Rattle.std.specs.Option.{option_map_or}
use Rattle.std.specs.List.{list_any, position_or_len}
use Rattle.cell_core.specs.declared.cell.Cell.{Cell}
use Rattle.cell_core.specs.declared.cell.Cell.TheVariants.{Text}
use Rattle.cell_core.specs.declared.table.Column.{Column}
use Rattle.cell_core.specs.declared.table.Table.{Table}
use Rattle.cell_core.specs.declared.table.Db.{Db}
use Rattle.cell_core.specs.Pairs.{is_nil}
use Rattle.cell_core.specs.Tables.{named_table, with_column, with_new_rows}
use Rattle.sql_tree.specs.Names.{name_text}
use Rattle.sql_tree.specs.Tree.{ExprTree, CondTree, StmtTree}
use Rattle.sql_tree.specs.Tree.StmtTree.{CreateTable, DropTable, AlterTable, InsertInto, DeleteFrom, UpdateTable, Select, ExplainSelect}
use Rattle.sql_definitions.specs.declared.refusal.Refusal.{Refusal}
use Rattle.sql_definitions.specs.declared.refusal.Refusal.TheVariants.{NoTable, TextTooLong, Overflow, Limit, NullStored}
use Rattle.sql_definitions.specs.declared.refusal.Reply.{Reply}
use Rattle.sql_definitions.specs.declared.refusal.Reply.TheVariants.{Done, Rows, Refused}
use Rattle.sql_definitions.specs.Sources.{NamedSource, schema_of}
use Rattle.sql_definitions.specs.Values.{value, cell_over, constant_overflows}
use Rattle.sql_definitions.specs.Kept.{cond_overflows, is_kept}
use Rattle.sql_definitions.specs.Check.{refused_if, targets, check_refusal}

-- ## A table's new rows

-- the rows of a table after a change and how many it touches, or why the change is refused
abbrev pub Change : Type 0
Change = Result (List (List Cell) × ℕ) Refusal

-- the first refusal, or else the outcome
abbrev pub unless_refused : {X : Type 0} → List Refusal → X → Result X Refusal
unless_refused [] outcome = Ok outcome
unless_refused (refusal ∷ more) outcome = Err refusal

-- a text of more characters than its column allows
abbrev pub is_too_long : Column → Cell → Bool
is_too_long column (Text text) = not (column.width == 0) && nat_lt column.width (length (chars text))
is_too_long column _ = false

-- Nil in a column that refuses it
abbrev pub is_null_refused : Column → Cell → Bool
is_null_refused column cell = column.not_null && is_nil cell

-- the most rows of a table, and the most columns
abbrev pub row_limit : ℕ
row_limit = 1048576

abbrev pub column_limit : ℕ
column_limit = 64

-- ## INSERT

-- a row with each value in its column's place; a column that the list lacks gets its default
abbrev pub placed : List Column → List (List ℕ) → List Cell → List Cell
placed columns listed row =
    if length listed == 0 then row
    else map (λ (column : Column). slice_index_or row (position_or_len (bytes_eq column.name) listed) column.default) columns

-- a value is too long for its column
abbrev pub is_too_long_row : List Column → List Cell → Bool
is_too_long_row columns row = list_any (λ (at : Column × Cell). is_too_long at.0 at.1) (zip columns row)

-- a row has Nil for a column that refuses it
abbrev pub is_null_row : List Column → List Cell → Bool
is_null_row columns row = list_any (λ (at : Column × Cell). is_null_refused at.0 at.1) (zip columns row)

-- the rows are added in order
abbrev pub inserted : List (List ℕ) → List (List Cell) → Table → Change
inserted listed rows table =
    unless_refused
    (refused_if (list_any (is_too_long_row (targets table.columns listed)) rows) TextTooLong
    ++ refused_if (list_any (is_null_row table.columns) (map (placed table.columns listed) rows)) NullStored
    ++ refused_if (nat_lt row_limit (length table.rows + length rows)) (Limit (codes "rows")))
    (table.rows ++ map (placed table.columns listed) rows, length rows)

-- ## DELETE and UPDATE

-- the one table of a change, under its own name
abbrev pub own_table : Table → List NamedSource
own_table table = record { name = table.name; columns = table.columns } ∷ []

-- the condition of a change is true of a row; where it overflows it is true of none
abbrev pub is_hit : Option CondTree → Table → List Cell → Bool
is_hit cond table row = not (cond_overflows cond) && is_kept (own_table table) cond (row ∷ [])

-- the rows of which the condition is true are removed
abbrev pub deleted : Option CondTree → Table → Change
deleted cond table =
    unless_refused
    (refused_if (cond_overflows cond) Overflow)
    (filter (λ row. not (is_hit cond table row)) table.rows, length (filter (is_hit cond table) table.rows))

-- the new cell of a column in a row: the value of its expression over the row, or the old cell
abbrev pub set_cell : List NamedSource → List Cell → Option (List ℕ × ExprTree) → Cell → Cell
set_cell sources row None cell = cell
set_cell sources row (Some set) cell = cell_over sources (row ∷ []) set.1

-- a row with its set cells replaced by the values of their expressions over the old row
abbrev pub updated_row : List (List ℕ × ExprTree) → Table → List Cell → List Cell
updated_row sets table row =
    map (λ (at : Column × Cell). set_cell (own_table table) row (find (λ (set : List ℕ × ExprTree). bytes_eq set.0 at.0.name) sets) at.1) (zip table.columns row)

-- a value is too long for the column that is set to it
abbrev pub is_too_long_set : Table → List Cell → List ℕ × ExprTree → Bool
is_too_long_set table row set =
    list_any (λ (column : Column). bytes_eq column.name set.0 && is_too_long column (cell_over (own_table table) (row ∷ []) set.1)) table.columns

-- Nil is the value for a column that refuses it; an expression that leaves the range has no value
abbrev pub is_null_set : Table → List Cell → List ℕ × ExprTree → Bool
is_null_set table row set =
    list_any (λ (column : Column). bytes_eq column.name set.0 && option_map_or (is_null_refused column) (value (own_table table) (row ∷ []) set.1) false) table.columns

-- an expression leaves the range for a row
abbrev pub overflows_in : Table → List Cell → List ℕ × ExprTree → Bool
overflows_in table row set = is_none (value (own_table table) (row ∷ []) set.1)

-- an expression passes the test for some row of which the condition is true
abbrev pub is_any_set : (List Cell → List ℕ × ExprTree → Bool) → List (List ℕ × ExprTree) → List (List Cell) → Bool
is_any_set test sets rows = list_any (λ row. list_any (test row) sets) rows

-- the rows of which the condition is true are replaced
abbrev pub updated : List (List ℕ × ExprTree) → Option CondTree → Table → Change
updated sets cond table =
    unless_refused
    (refused_if (is_any_set (is_too_long_set table) sets (filter (is_hit cond table) table.rows)) TextTooLong
    ++ refused_if (is_any_set (is_null_set table) sets (filter (is_hit cond table) table.rows)) NullStored
    ++ refused_if
    (list_any constant_overflows (map (λ (set : List ℕ × ExprTree). set.1) sets) || cond_overflows cond
    || is_any_set (overflows_in table) sets (filter (is_hit cond table) table.rows))
    Overflow)
    (map (λ row. if is_hit cond table row then updated_row sets table row else row) table.rows, length (filter (is_hit cond table) table.rows))

-- ## Statements

-- the database after a change of a table; a refused change leaves it as it was
abbrev pub changed_by : List ℕ → Change → Db → Db × Reply
changed_by name (Ok outcome) db = (record { tables = map (with_new_rows name outcome.0) db.tables }, Rows outcome.1)
changed_by name (Err refusal) db = (db, Refused refusal)

abbrev pub changed : List ℕ → (Table → Change) → Option Table → Db → Db × Reply
changed name change (Some table) db = changed_by name (change table) db
changed name change None db = (db, Refused (NoTable (name_text name)))

-- the database after a statement that isn't refused, which replies that it is done
abbrev pub done_by : Result Db Refusal → Db → Db × Reply
done_by (Ok left) db = (left, Done)
done_by (Err refusal) db = (db, Refused refusal)

-- the default is too long for the column
abbrev pub is_long_default : Column → Bool
is_long_default column = is_too_long column column.default

-- a table without rows, after the others
abbrev pub created : List ℕ → List Column → Db → Db × Reply
created name columns db =
    done_by
    (unless_refused
    (refused_if (list_any is_long_default columns) TextTooLong)
    (record { tables = db.tables ++ record { name = name; columns = columns; rows = [] } ∷ [] }))
    db

-- the tables without that one
abbrev pub dropped : List ℕ → Db → Db × Reply
dropped name db = (record { tables = filter (λ (table : Table). not (bytes_eq table.name name)) db.tables }, Done)

-- why the column isn't added: its default is too long, rows would have Nil where it is refused, or there would be too many columns
abbrev pub column_refused : Column → Table → List Refusal
column_refused column table =
    refused_if (is_long_default column) TextTooLong
    ++ refused_if (is_null_refused column column.default && not (length table.rows == 0)) NullStored
    ++ refused_if (nat_lt column_limit (length table.columns + 1)) (Limit (codes "columns"))

abbrev pub altered : List ℕ → Column → Option Table → Db → Db × Reply
altered name column (Some table) db = done_by (unless_refused (column_refused column table) (record { tables = map (with_column name column) db.tables })) db
altered name column None db = (db, Refused (NoTable (name_text name)))

-- the database after an accepted statement, and its reply; a query changes nothing
abbrev pub accepted : StmtTree → Db → Db × Reply
accepted (CreateTable table columns) db = created table columns db
accepted (DropTable table) db = dropped table db
accepted (AlterTable table column) db = altered table column (named_table table db) db
accepted (InsertInto table listed rows) db = changed table (inserted listed rows) (named_table table db) db
accepted (DeleteFrom table cond) db = changed table (deleted cond) (named_table table db) db
accepted (UpdateTable table sets cond) db = changed table (updated sets cond) (named_table table db) db
accepted (Select query) db = (db, Done)
accepted (ExplainSelect query) db = (db, Done)

abbrev pub effect_unless : Option Refusal → StmtTree → Db → Db × Reply
effect_unless (Some refusal) stmt db = (db, Refused refusal)
effect_unless None stmt db = accepted stmt db

-- the database after a statement, and its reply; a refused statement changes nothing
abbrev pub effect : StmtTree → Db → Db × Reply
effect stmt db = effect_unless (check_refusal stmt (schema_of db)) stmt db

-- the database after the statements in order, from the empty one
abbrev pub replay_from : Db → List StmtTree → Db
replay_from db [] = db
replay_from db (stmt ∷ stmts) = replay_from (effect stmt db).0 stmts

abbrev pub replay : List StmtTree → Db
replay stmts = replay_from (record { tables = [] }) stmts
