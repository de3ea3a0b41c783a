-- Rows by their places, as flags and as columns, and the outcome of a change; private contracts alone cite them.
use Rattle.std.specs.Prelude.{◌≡◌, ℕ, zero, suc, ◌+◌, ◌==◌, List, [], ◌∷◌, length, Bool, false, ◌&&◌, if◌then◌else◌, Some, None, IfOk, Result}
use Rattle.std.specs.List.{list_all}
use Rattle.cell_core.specs.declared.cell.Cell.{Cell}
use Rattle.cell_core.specs.Relations.{column_cells}
use Rattle.cell_core.specs.Tables.{all_columns, row_count}
use Rattle.sql_tree.specs.Tree.{StmtTree}
use Rattle.sql_definitions.specs.Effect.{effect}
use Rattle.sql_definitions.specs.declared.refusal.Refusal.{Refusal}
use Rattle.change_plans.specs.Decisions.{rises, rows_with, rows_without}
use Rattle.run_log.specs.Touches.{touched_by}
use Rattle.table_columns.specs.Changed.{NewCells}
use Rattle.table_store.specs.Changes.{IsPrepared, columns_of, rows_of, with_rows}
use Rattle.table_store.specs.Content.{Content}
use Rattle.store_changes.specs.declared.outcome.Ready.{Ready}
use Rattle.store_changes.specs.Outcomes.{outcome_over}

-- ## Flags

abbrev pub is_first : ℕ → List ℕ → Bool
is_first at [] = false
is_first at (place ∷ places) = place == at

-- the places without this one, where it is the first
abbrev pub left_behind : ℕ → List ℕ → List ℕ
left_behind at [] = []
left_behind at (place ∷ places) = if place == at then places else place ∷ places

-- a flag for each of so many rows from a place on: whether its place is the next of these
abbrev pub flags_from : ℕ → List ℕ → ℕ → List Bool
flags_from at places zero = []
flags_from at places (suc count) = is_first at places ∷ flags_from (at + 1) (left_behind at places) count

-- ## New cells

-- columns by their names, each with the cells of rows at its place
abbrev pub sets_from : ℕ → List (List ℕ) → List (List Cell) → List NewCells
sets_from place [] rows = []
sets_from place (name ∷ names) rows = (name, column_cells place rows) ∷ sets_from (place + 1) names rows

-- places of rows, in order and below a count, with a row of new cells for each, of one cell for each name
abbrev pub are_placed : ℕ → List (List ℕ) → List ℕ → List (List Cell) → Bool
are_placed count names places cells = rises 0 count places && (length cells == length places) && list_all (λ (row : List Cell). length row == length names) cells

-- ## The outcome of a change

-- the rows at these places go
pub record Removes (table places : List ℕ) (content : Content) (ready : Ready) : Type 0 where
  pub prepared : IsPrepared ready.change content
  pub db : ready.change.content.db ≡ with_rows table (rows_without places (rows_of table content.db)) content.db
  pub rows : ready.rows ≡ Some (length places)
  pub touched : ready.change.touched ≡ record { table = table; columns = all_columns table content.db; old_rows = row_count table content.db; added = None }

-- the rows at these places get these cells in the columns with these names
pub record Sets (table : List ℕ) (names : List (List ℕ)) (places : List ℕ) (cells : List (List Cell)) (content : Content) (ready : Ready) : Type 0 where
  pub prepared : IsPrepared ready.change content
  pub db : ready.change.content.db ≡ with_rows table (rows_with (columns_of table content.db) names places cells (rows_of table content.db)) content.db
  pub rows : ready.rows ≡ Some (length places)
  pub touched : ready.change.touched ≡ record { table = table; columns = names; old_rows = row_count table content.db; added = None }

-- a prepared change, or a refusal, is what the statement does to the content
pub record ComesTo (stmt : StmtTree) (content : Content) (ready : Result Ready Refusal) : Type 0 where
  pub effect_is : effect stmt content.db ≡ outcome_over ready content.db
  pub prepared : IfOk ready (λ r. IsPrepared r.change content)
  pub touched : IfOk ready (λ r. r.change.touched ≡ touched_by stmt content.db)
