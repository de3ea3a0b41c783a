-- The fates of rows by what a DELETE or an UPDATE says; only private contracts cite them.
use Rattle.std.specs.Prelude.{ℕ, ◌+◌, List, [], ◌∷◌, length, Bool, not, ◌&&◌, ◌||◌, ◌==◌, nat_lt, map, zip, find, bytes_eq, codes, if◌then◌else◌, Option, Some, None}
use Rattle.std.specs.List.{list_any}
use Rattle.cell_core.specs.declared.cell.Cell.{Cell}
use Rattle.cell_core.specs.declared.table.Column.{Column}
use Rattle.cell_core.specs.declared.table.Table.{Table}
use Rattle.sql_tree.specs.Tree.{ExprTree, CondTree}
use Rattle.sql_definitions.specs.declared.refusal.Refusal.{Refusal}
use Rattle.sql_definitions.specs.declared.refusal.Refusal.TheVariants.{TextTooLong, NullStored, Overflow, Limit}
use Rattle.sql_definitions.specs.Values.{constant_overflows}
use Rattle.sql_definitions.specs.Kept.{cond_overflows, is_kept}
use Rattle.sql_definitions.specs.Effect.{own_table, set_cell, updated_row, is_too_long_row, is_null_row, is_too_long_set, is_null_set, overflows_in, is_any_set, is_long_default, is_null_refused, row_limit, column_limit}
use Rattle.sql_changes.specs.Faults.{first_of}
use Rattle.sql_changes.specs.declared.fate.Fate.{Fate}
use Rattle.sql_changes.specs.declared.fate.Fate.TheVariants.{Stays, Goes, Becomes}

-- the condition is true of a row, even where it overflows
abbrev pub is_true_of : Option CondTree → Table → List Cell → Bool
is_true_of cond table row = is_kept (own_table table) cond (row ∷ [])

abbrev pub deleted_fate : Option CondTree → Table → List Cell → Fate
deleted_fate cond table row = if is_true_of cond table row then Goes else Stays

abbrev pub updated_fate : List (List ℕ × ExprTree) → Option CondTree → Table → List Cell → Fate
updated_fate sets cond table row = if is_true_of cond table row then Becomes (updated_row sets table row) else Stays

-- the new cell of a column in a row
unfoldable pub set_at : List (List ℕ × ExprTree) → Table → List Cell → Column × Cell → Cell
set_at sets table row at = set_cell (own_table table) row (find (λ (set : List ℕ × ExprTree). bytes_eq set.0 at.0.name) sets) at.1

-- the new cells of these columns in a row that has these cells there
abbrev pub set_cells : List (List ℕ × ExprTree) → Table → List Cell → List Column → List Cell → List Cell
set_cells sets table row columns cells = map (set_at sets table row) (zip columns cells)

-- arithmetic over constants alone leaves the range in a SET or in the condition
abbrev pub constants_overflow : List (List ℕ × ExprTree) → Option CondTree → Bool
constants_overflow sets cond = list_any constant_overflows (map (λ (set : List ℕ × ExprTree). set.1) sets) || cond_overflows cond

-- why an UPDATE that touches these rows is refused
abbrev pub update_refusal : List (List ℕ × ExprTree) → Option CondTree → Table → List (List Cell) → Option Refusal
update_refusal sets cond table rows =
    first_of (is_any_set (is_too_long_set table) sets rows) TextTooLong
    (is_any_set (is_null_set table) sets rows) NullStored
    (constants_overflow sets cond || is_any_set (overflows_in table) sets rows) Overflow

-- why an INSERT is refused whose values go to these columns, and make these rows of a table with
-- other columns and so many rows
abbrev pub insert_refusal : List Column → List (List Cell) → List (List Cell) → List Column → ℕ → Option Refusal
insert_refusal targets rows placed columns count =
    first_of (list_any (is_too_long_row targets) rows) TextTooLong
    (list_any (is_null_row columns) placed) NullStored
    (nat_lt row_limit (count + length rows)) (Limit (codes "rows"))

-- why an ALTER of a table with so many columns and rows is refused
abbrev pub alter_refusal : Column → ℕ → ℕ → Option Refusal
alter_refusal column columns rows =
    first_of (is_long_default column) TextTooLong
    (is_null_refused column column.default && not (rows == 0)) NullStored
    (nat_lt column_limit (columns + 1)) (Limit (codes "columns"))
