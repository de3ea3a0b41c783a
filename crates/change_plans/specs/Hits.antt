-- The rows that a DELETE or an UPDATE touches, and what its plan returns for them.
use Rattle.std.specs.Prelude.{ℕ, List, [], ◌∷◌, map, filter, Bool, ◌||◌, if◌then◌else◌, Option, Some, None, Ok}
use Rattle.std.specs.List.{list_any, enumerate_from}
use Rattle.cell_core.specs.declared.cell.Cell.{Cell}
use Rattle.cell_core.specs.declared.cell.Cell.TheVariants.{Oid}
use Rattle.cell_core.specs.declared.table.Table.{Table}
use Rattle.sql_tree.specs.Tree.{ExprTree, CondTree, StmtTree}
use Rattle.sql_tree.specs.Tree.StmtTree.{DeleteFrom, UpdateTable}
use Rattle.sql_definitions.specs.Values.{cell_over, constant_overflows}
use Rattle.sql_definitions.specs.Kept.{cond_overflows}
use Rattle.sql_definitions.specs.Effect.{Change, own_table, is_hit, deleted, updated, overflows_in, is_any_set}

-- ## Statements

-- the table that a DELETE or an UPDATE changes
abbrev pub changed_table : StmtTree → List ℕ
changed_table (DeleteFrom table condition) = table
changed_table (UpdateTable table sets condition) = table
changed_table _ = []

-- the columns that it sets, each with its expression
abbrev pub sets_of : StmtTree → List (List ℕ × ExprTree)
sets_of (UpdateTable table sets condition) = sets
sets_of _ = []

-- what it does to its table
abbrev pub change_of : StmtTree → Table → Change
change_of (DeleteFrom table condition) = deleted condition
change_of (UpdateTable table sets condition) = updated sets condition
change_of _ = λ table. Ok (table.rows, 0)

-- ## Rows

-- the rows of which a condition is true, each after its place, in order
abbrev pub hit_rows : Option CondTree → Table → List (ℕ × List Cell)
hit_rows condition table = filter (λ (at : ℕ × List Cell). is_hit condition table at.1) (enumerate_from 0 table.rows)

-- the cells of the expressions over a row
abbrev pub new_cells : List (List ℕ × ExprTree) → Table → List Cell → List Cell
new_cells sets table row = map (λ (set : List ℕ × ExprTree). cell_over (own_table table) (row ∷ []) set.1) sets

-- what a plan returns for a row: its oid and its new cells
abbrev pub written : List (List ℕ × ExprTree) → Table → ℕ × List Cell → List Cell
written sets table at = Oid at.0 ∷ new_cells sets table at.1

-- arithmetic over constants alone leaves the range, or an expression does over a row of which the condition is true
abbrev pub overflows_on : List (List ℕ × ExprTree) → Option CondTree → Table → Bool
overflows_on sets condition table =
    list_any constant_overflows (map (λ (set : List ℕ × ExprTree). set.1) sets) || cond_overflows condition
    || is_any_set (overflows_in table) sets (filter (is_hit condition table) table.rows)

-- what a plan returns over a table, or None for an overflow
abbrev pub rows_written : List (List ℕ × ExprTree) → Option CondTree → Table → Option (List (List Cell))
rows_written sets condition table = if overflows_on sets condition table then None else Some (map (written sets table) (hit_rows condition table))
