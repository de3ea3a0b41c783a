-- Rows and the columns that they are kept as.
use Rattle.std.proofs.Common.{◌≡◌, ℕ, zero, suc, ◌<◌, List, [], ◌∷◌, length, replicate, refl, ap, sym, ◌∙◌, arith}
use Rattle.std.specs.Prelude.{slice_index_or}
use Rattle.std.specs.List.{AllByRecursion}
use Rattle.cell_core.specs.declared.cell.Cell.{Cell}
use Rattle.cell_core.specs.declared.cell.Cell.TheVariants.{Nil}
use Rattle.cell_core.specs.Pairs.{Pairs, tails_of, numbered}
use Rattle.cell_core.specs.Relations.{column_cells}
use Rattle.bat_core.proofs.PairLemmas.{length-tails}
use Rattle.table_columns.specs.Rows.{AreWide, IsColumn, before_rows, rows_beside}

-- ## From columns to rows

length_before : (cells : List Cell) (rows : List (List Cell)) → length rows ≡ length cells → length (before_rows cells rows) ≡ length cells
length_before [] rows e = refl
length_before (c ∷ cells) [] e = absurd (omega arith)
length_before (c ∷ cells) (r ∷ rows) e = ap suc (length_before cells rows (omega arith))

length_replicate : {X : Type 0} (n : ℕ) (x : X) → length (replicate n x) ≡ n
length_replicate zero x = refl
length_replicate (suc n) x = ap suc (length_replicate n x)

pub tails_long : (n : ℕ) (b : Pairs) → IsColumn n b → length (tails_of b) ≡ n
tails_long n b is = length-tails b ∙ is.cells

-- as many rows as each column has cells
pub length_rows : (n : ℕ) (columns : List Pairs) → AllByRecursion (IsColumn n) columns → length (rows_beside n columns) ≡ n
length_rows n [] all = length_replicate n []
length_rows n (b ∷ columns) all =
    length_before (tails_of b) (rows_beside n columns) (length_rows n columns all.1 ∙ sym (tails_long n b all.0)) ∙ tails_long n b all.0

first_cells : (cells : List Cell) (rows : List (List Cell)) → length rows ≡ length cells → column_cells 0 (before_rows cells rows) ≡ cells
first_cells [] rows e = refl
first_cells (c ∷ cells) [] e = absurd (omega arith)
first_cells (c ∷ cells) (r ∷ rows) e = ap (λ more. c ∷ more) (first_cells cells rows (omega arith))

other_cells : (place : ℕ) (cells : List Cell) (rows : List (List Cell)) → length rows ≡ length cells → column_cells (suc place) (before_rows cells rows) ≡ column_cells place rows
other_cells place [] [] e = refl
other_cells place [] (r ∷ rows) e = absurd (omega arith)
other_cells place (c ∷ cells) [] e = absurd (omega arith)
other_cells place (c ∷ cells) (r ∷ rows) e = ap (λ more. slice_index_or r place Nil ∷ more) (other_cells place cells rows (omega arith))

cells_kept : (n : ℕ) (columns : List Pairs) (place : ℕ) → AllByRecursion (IsColumn n) columns → place < length columns
    → column_cells place (rows_beside n columns) ≡ tails_of (slice_index_or columns place [])
cells_kept n [] place all within = absurd (omega arith)
cells_kept n (b ∷ columns) zero all within =
    first_cells (tails_of b) (rows_beside n columns) (length_rows n columns all.1 ∙ sym (tails_long n b all.0))
cells_kept n (b ∷ columns) (suc place) all within =
    other_cells place (tails_of b) (rows_beside n columns) (length_rows n columns all.1 ∙ sym (tails_long n b all.0)) ∙ cells_kept n columns place all.1 (omega arith)

each_numbered : (n : ℕ) (columns : List Pairs) (place : ℕ) → AllByRecursion (IsColumn n) columns → place < length columns
    → slice_index_or columns place [] ≡ numbered (tails_of (slice_index_or columns place []))
each_numbered n [] place all within = absurd (omega arith)
each_numbered n (b ∷ columns) zero all within = all.0.heads
each_numbered n (b ∷ columns) (suc place) all within = each_numbered n columns place all.1 (omega arith)

-- a column holds the cells of the rows at its place
pub column_kept : (n : ℕ) (columns : List Pairs) (place : ℕ) → AllByRecursion (IsColumn n) columns → place < length columns
    → slice_index_or columns place [] ≡ numbered (column_cells place (rows_beside n columns))
column_kept n columns place all within = each_numbered n columns place all within ∙ ap numbered (sym (cells_kept n columns place all within))

-- a column that exists is the same, whichever default is used
pub any_default : (columns : List Pairs) (place : ℕ) (a b : Pairs) → place < length columns → slice_index_or columns place a ≡ slice_index_or columns place b
any_default [] place a b within = absurd (omega arith)
any_default (c ∷ columns) zero a b within = refl
any_default (c ∷ columns) (suc place) a b within = any_default columns place a b (omega arith)

wide_before : (w : ℕ) (cells : List Cell) (rows : List (List Cell)) → AreWide w rows → AreWide (suc w) (before_rows cells rows)
wide_before w [] rows wide = tt
wide_before w (c ∷ cells) [] wide = tt
wide_before w (c ∷ cells) (r ∷ rows) wide = (ap suc wide.0, wide_before w cells rows wide.1)

wide_none : (n : ℕ) → AreWide 0 (replicate n [])
wide_none zero = tt
wide_none (suc n) = (refl, wide_none n)

-- a row has as many cells as there are columns
pub wide_rows : (n : ℕ) (columns : List Pairs) → AreWide (length columns) (rows_beside n columns)
wide_rows n [] = wide_none n
wide_rows n (b ∷ columns) = wide_before (length columns) (tails_of b) (rows_beside n columns) (wide_rows n columns)
