-- What is decided of a change, and what the decision does to its table.
use Rattle.std.specs.Prelude.{ℕ, ◌+◌, nat_lt, List, [], ◌∷◌, ◌++◌, length, map, filter, zip, Bool, true, not, ◌&&◌, ◌==◌, bytes_eq, if◌then◌else◌, unwrap_or, Ok, Err, drop}
use Rattle.std.specs.List.{list_any, list_all, enumerate_from}
use Rattle.std.specs.Option.{option_map_or}
use Rattle.std.specs.Map.{lookup}
use Rattle.cell_core.specs.declared.cell.Cell.{Cell}
use Rattle.cell_core.specs.declared.cell.Cell.TheVariants.{Oid}
use Rattle.cell_core.specs.declared.table.Column.{Column}
use Rattle.cell_core.specs.declared.table.Table.{Table}
use Rattle.sql_tree.specs.Tree.{ExprTree, StmtTree}
use Rattle.sql_tree.specs.Tree.StmtTree.{UpdateTable}
use Rattle.sql_definitions.specs.declared.source.Source.{Source}
use Rattle.sql_definitions.specs.declared.refusal.Refusal.TheVariants.{TextTooLong, NullStored}
use Rattle.sql_definitions.specs.declared.refusal.Reply.{Reply}
use Rattle.sql_definitions.specs.declared.refusal.Reply.TheVariants as reply
use Rattle.sql_definitions.specs.Effect.{Change, is_too_long, is_null_refused}
use Rattle.change_plans.specs.declared.cells.ColumnFault.{ColumnFault}
use Rattle.change_plans.specs.declared.cells.ColumnFault.TheVariants as fault
use Rattle.change_plans.specs.declared.decided.Decided.{Decided}
use Rattle.change_plans.specs.declared.decided.Decided.TheVariants.{Refused, Gone, Set}

-- ## What a decision does

-- the rows whose places aren't listed
abbrev pub rows_without : List ℕ → List (List Cell) → List (List Cell)
rows_without places rows =
    map (λ (at : ℕ × List Cell). at.1) (filter (λ (at : ℕ × List Cell). not (list_any (λ place. place == at.0) places)) (enumerate_from 0 rows))

-- a row with these cells in the columns of these names
abbrev pub row_with : List Column → List (List ℕ) → List Cell → List Cell → List Cell
row_with columns names cells row =
    map (λ (at : Column × Cell). unwrap_or (lookup (λ name. bytes_eq name at.0.name) (zip names cells)) at.1) (zip columns row)

-- the rows, where each listed one has its new cells
abbrev pub rows_with : List Column → List (List ℕ) → List ℕ → List (List Cell) → List (List Cell) → List (List Cell)
rows_with columns names places cells rows =
    map (λ (at : ℕ × List Cell). option_map_or (λ new. row_with columns names new at.1) (lookup (λ place. place == at.0) (zip places cells)) at.1) (enumerate_from 0 rows)

-- the rows of a table after a decision and how many it touches, or why the change is refused
abbrev pub left_by : Decided → Table → Change
left_by (Refused refusal) table = Err refusal
left_by (Gone places) table = Ok (rows_without places table.rows, length places)
left_by (Set names places cells) table = Ok (rows_with table.columns names places cells table.rows, length places)

-- places from a number on, each above the one before it, and all below a count
abbrev pub rises : ℕ → ℕ → List ℕ → Bool
rises from count [] = true
rises from count (place ∷ places) = not (nat_lt place from) && nat_lt place count && rises (place + 1) count places

-- what a decision touches of a table exists: places of rows in order, and for each of them one cell
-- for each column that is set
abbrev pub is_in_place : Decided → Table → Bool
is_in_place (Gone places) table = rises 0 (length table.rows) places
is_in_place (Set names places cells) table =
    rises 0 (length table.rows) places && (length cells == length places) && list_all (λ (row : List Cell). length row == length names) cells
is_in_place _ table = true

-- what a change replies
abbrev pub reply_of : Change → Reply
reply_of (Ok outcome) = reply.Rows outcome.1
reply_of (Err refusal) = reply.Refused refusal

-- ## What is decided from the rows of a plan

-- the columns of the one table of a change
abbrev pub own_columns : List Source → List Column
own_columns [] = []
own_columns (source ∷ sources) = source.columns

-- the place of the table's row for which a row of a plan is
abbrev pub place_of : List Cell → ℕ
place_of (Oid place ∷ cells) = place
place_of _ = 0

-- what a column may refuse
abbrev pub refuses : ColumnFault → Column → Cell → Bool
refuses fault.TooLong = is_too_long
refuses fault.Null = is_null_refused

-- the column with this name refuses the cell
abbrev pub is_refused_there : (Column → Cell → Bool) → List Column → List ℕ × Cell → Bool
is_refused_there test columns at = list_any (λ (column : Column). bytes_eq column.name at.0 && test column at.1) columns

-- a column refuses one of these cells
abbrev pub is_row_refused : (Column → Cell → Bool) → List Column → List (List ℕ) → List Cell → Bool
is_row_refused test columns names cells = list_any (is_refused_there test columns) (zip names cells)

abbrev pub is_any_refused : (Column → Cell → Bool) → List Column → List (List ℕ) → List (List Cell) → Bool
is_any_refused test columns names rows = list_any (is_row_refused test columns names) rows

abbrev pub decided_update : List Column → List (List ℕ) → List ℕ → List (List Cell) → Decided
decided_update columns names places cells =
    if is_any_refused is_too_long columns names cells then Refused TextTooLong
    else if is_any_refused is_null_refused columns names cells then Refused NullStored
    else Set names places cells

-- what these rows of its plan decide of a DELETE or an UPDATE of a table with these columns
abbrev pub decided_by : StmtTree → List Column → List (List Cell) → Decided
decided_by (UpdateTable table sets condition) columns rows = decided_update columns (map (λ (set : List ℕ × ExprTree). set.0) sets) (map place_of rows) (map (drop 1) rows)
decided_by _ columns rows = Gone (map place_of rows)
