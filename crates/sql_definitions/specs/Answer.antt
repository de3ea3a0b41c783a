-- What a query answers over a database: its rows, without duplicates if it says DISTINCT, sorted and cut.
use Rattle.std.specs.Prelude.{ℕ, suc, zero, List, map, take, filter_map, length, position, Bool, true, false, ◌&&◌, nat_lt, if◌then◌else◌, bytes_eq, Option, Some, None}
use Rattle.std.specs.Option.{option_map, option_and_then, option_or, option_map_or, is_none}
use Rattle.cell_core.specs.declared.cell.Cell.{Cell}
use Rattle.cell_core.specs.declared.table.Db.{Db}
use Rattle.cell_core.specs.Groups.{distinct}
use Rattle.cell_core.specs.Keys.{is_keyed_below}
use Rattle.cell_core.specs.Sorted.{sorted_by}
use Rattle.sql_tree.specs.Tree.{ExprTree, ItemTree, QueryTree, StmtTree}
use Rattle.sql_tree.specs.Tree.ExprTree.{ColumnOf}
use Rattle.sql_tree.specs.Tree.StmtTree.{Select, ExplainSelect}
use Rattle.sql_tree.specs.declared.tree.ColRef.{ColRef}
use Rattle.sql_tree.specs.declared.tree.Place.{Place}
use Rattle.sql_tree.specs.declared.tree.Place.TheVariants.{Position, Named}
use Rattle.sql_tree.specs.declared.tree.SortKey.{SortKey}
use Rattle.sql_definitions.specs.Sources.{NamedSource, NamedTable, source_of, from_tables, place_of, same_place}
use Rattle.sql_definitions.specs.References.{items_of}
use Rattle.sql_definitions.specs.Rows.{same_cells, query_rows, query_overflows}

-- ## Keys of ORDER BY

-- the item has this alias, which only a key without a table can mean
abbrev pub is_called : ColRef → ItemTree → Bool
is_called ref item = is_none ref.table && option_map_or (bytes_eq ref.column) item.alias false

-- the expression is the column at a place
abbrev pub is_column : List NamedSource → Option (ℕ × ℕ) → ExprTree → Bool
is_column sources place (ColumnOf ref) = same_place place (place_of sources ref)
is_column sources place _ = false

-- the item that a key names: the first with that alias, or else the first that is that column
abbrev pub item_named : List NamedSource → List ItemTree → ColRef → Option ℕ
item_named sources items ref = option_or (position (is_called ref) items) (position (λ (item : ItemTree). is_column sources (place_of sources ref) item.expr) items)

-- the item at a position, which is counted from 1, among so many items
abbrev pub item_at : ℕ → ℕ → Option ℕ
item_at count zero = None
item_at count (suc n) = if nat_lt n count then Some n else None

-- the item that a key sorts by, counted from 0
abbrev pub key_place : List NamedSource → List ItemTree → Place → Option ℕ
key_place sources items (Position n) = item_at (length items) n
key_place sources items (Named ref) = item_named sources items ref

-- the keys as places of items, each with whether low cells come first
abbrev pub key_places : List NamedSource → QueryTree → List (ℕ × Bool)
key_places sources query =
    filter_map (λ (key : SortKey). option_map (λ n. (n, key.ascending)) (key_place sources (items_of sources query) key.at)) query.keys

-- ## Answers

-- the first rows, where there is a limit
abbrev pub limited : Option ℕ → List (List Cell) → List (List Cell)
limited limit rows = option_map_or (λ n. take n rows) limit rows

-- the rows, without duplicates under DISTINCT
abbrev pub undoubled : Bool → List (List Cell) → List (List Cell)
undoubled true rows = distinct same_cells rows
undoubled false rows = rows

-- without duplicates under DISTINCT, then in the order of the keys and of all cells ascending from
-- the left, then the first rows
abbrev pub arranged : List NamedSource → QueryTree → List (List Cell) → List (List Cell)
arranged sources query rows = limited query.limit (sorted_by (is_keyed_below (key_places sources query)) (undoubled query.distinct rows))

-- the rows that a query answers, or None for an overflow
abbrev pub answer_over : List NamedTable → QueryTree → Option (List (List Cell))
answer_over tables query = if query_overflows tables query then None else Some (arranged (map source_of tables) query (query_rows tables query))

abbrev pub answer : QueryTree → Db → Option (List (List Cell))
answer query db = answer_over (from_tables query.froms db) query

-- the query of a SELECT or an EXPLAIN
abbrev pub query_of : StmtTree → Option QueryTree
query_of (Select query) = Some query
query_of (ExplainSelect query) = Some query
query_of _ = None

-- what it answers
abbrev pub answer_of_stmt : StmtTree → Db → Option (List (List Cell))
answer_of_stmt stmt db = option_and_then (λ query. answer query db) (query_of stmt)
