-- Rows that are made anew from their columns.
use Rattle.std.proofs.Common.{◌≡◌, ℕ, zero, suc, ◌<◌, List, [], ◌∷◌, length, replicate, refl, ap, sym, ◌∙◌, arith}
use Rattle.std.specs.Prelude.{slice_index_or}
use Rattle.std.specs.List.{AllByRecursion}
use Rattle.cell_core.specs.declared.cell.Cell.{Cell}
use Rattle.cell_core.specs.declared.cell.Cell.TheVariants.{Nil}
use Rattle.cell_core.specs.Pairs.{Pairs, tails_of}
use Rattle.table_columns.specs.Rows.{IsColumn, before_rows, row_cells, rows_beside}
use Rattle.table_columns.proofs.RowLemmas.{length_rows, tails_long}

no_cells : (n at : ℕ) → at < n → ◌≡◌ {A = List Cell} (slice_index_or (replicate n []) at []) []
no_cells zero at within = absurd (omega arith)
no_cells (suc n) zero within = refl
no_cells (suc n) (suc at) within = no_cells n at (omega (arith, within))

one_before : (cells : List Cell) (rows : List (List Cell)) (at : ℕ) → length rows ≡ length cells → at < length cells
    → slice_index_or (before_rows cells rows) at [] ≡ slice_index_or cells at Nil ∷ slice_index_or rows at []
one_before [] rows at e within = absurd (omega arith)
one_before (c ∷ cells) [] at e within = absurd (omega arith)
one_before (c ∷ cells) (r ∷ rows) zero e within = refl
one_before (c ∷ cells) (r ∷ rows) (suc at) e within = one_before cells rows at (omega arith) (omega (arith, within))

-- the row at a place
pub row_made : (n : ℕ) (columns : List Pairs) (at : ℕ) → AllByRecursion (IsColumn n) columns → at < n → slice_index_or (rows_beside n columns) at [] ≡ row_cells at columns
row_made n [] at all within = no_cells n at within
row_made n (b ∷ columns) at all within =
    let long = tails_long n b all.0 in
    one_before (tails_of b) (rows_beside n columns) at (length_rows n columns all.1 ∙ sym long) (omega (arith, long, within))
    ∙ ap (λ (row : List Cell). slice_index_or (tails_of b) at Nil ∷ row) (row_made n columns at all.1 within)

-- each column goes on to the place
pub all_long : (n : ℕ) (columns : List Pairs) (at : ℕ) → AllByRecursion (IsColumn n) columns → at < n → AllByRecursion (λ (column : Pairs). at < length column) columns
all_long n [] at all within = tt
all_long n (b ∷ columns) at all within = let long = all.0.cells in (omega (arith, long, within), all_long n columns at all.1 within)
