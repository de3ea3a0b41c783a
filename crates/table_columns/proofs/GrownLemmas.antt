-- Tables that have one more column, or more rows.
use Rattle.std.proofs.Common.{◌≡◌, ℕ, zero, suc, ◌+◌, ◌<◌, List, [], ◌∷◌, ◌++◌, length, map, drop, replicate, refl, ap, sym, subst, ◌∙◌, arith, add-one}
use Rattle.std.specs.Prelude.{slice_index_or}
use Rattle.std.specs.List.{AllByRecursion}
use Rattle.std.proofs.lemmas.List.{length-append, length-map, length-replicate, replicate-append-replicate}
use Rattle.std.proofs.Math.Seq.{drop-cons}
use Rattle.cell_core.specs.declared.cell.Cell.{Cell}
use Rattle.cell_core.specs.declared.cell.Cell.TheVariants.{Nil}
use Rattle.cell_core.specs.Pairs.{Pairs, tails_of, numbered}
use Rattle.cell_core.specs.Relations.{column_cells}
use Rattle.bat_core.proofs.PairLemmas.{length-tails}
use Rattle.table_columns.specs.Rows.{AreColumns, AreWide, IsColumn, before_rows, kept_from, rows_beside}
use Rattle.table_columns.specs.Changed.{grown_columns}
use Rattle.table_columns.proofs.ColumnLemmas.{numbered_is_column, tails_numbered}
use Rattle.table_columns.proofs.RowLemmas.{length_rows}

-- ## One more column

module _ (cell : Cell) where
  abbrev longer : List Cell → List Cell
  longer row = row ++ cell ∷ []

  one_cell : (n : ℕ) → before_rows (replicate n cell) (replicate n []) ≡ map longer (replicate n [])
  one_cell zero = refl
  one_cell (suc n) = ap (λ more. (cell ∷ []) ∷ more) (one_cell n)

  before_longer : (cells : List Cell) (rows : List (List Cell)) → before_rows cells (map longer rows) ≡ map longer (before_rows cells rows)
  before_longer [] rows = refl
  before_longer (c ∷ cells) [] = refl
  before_longer (c ∷ cells) (row ∷ rows) = ap (λ more. longer (c ∷ row) ∷ more) (before_longer cells rows)

  rows_longer : (n : ℕ) (columns : List Pairs) → rows_beside n (columns ++ numbered (replicate n cell) ∷ []) ≡ map longer (rows_beside n columns)
  rows_longer n [] = ap (λ cells. before_rows cells (replicate n [])) (tails_numbered (replicate n cell)) ∙ one_cell n
  rows_longer n (b ∷ columns) = ap (before_rows (tails_of b)) (rows_longer n columns) ∙ before_longer (tails_of b) (rows_beside n columns)

  all_longer : (n : ℕ) (columns : List Pairs) → AllByRecursion (IsColumn n) columns → AllByRecursion (IsColumn n) (columns ++ numbered (replicate n cell) ∷ [])
  all_longer n [] all = (numbered_is_column n (replicate n cell) (length-replicate n cell), tt)
  all_longer n (b ∷ columns) all = (all.0, all_longer n columns all.1)

  module _ (n : ℕ) (columns : List Pairs) (versions : List ℕ) (are : AreColumns n columns versions)
      (cs : List Pairs) (vs : List ℕ) (all : cs ≡ columns ++ numbered (replicate n cell) ∷ []) (beside : vs ≡ versions ++ 0 ∷ []) where
    pub longer_are : AreColumns n cs vs
    longer_are = record {
      even = subst (λ (x : List Pairs). AllByRecursion (IsColumn n) x) (sym all) (all_longer n columns are.even);
      beside = ap length beside ∙ length-append versions (0 ∷ []) ∙ ap (λ k. k + 1) are.beside ∙ sym (length-append columns (numbered (replicate n cell) ∷ [])) ∙ sym (ap length all);
    }

    pub longer_kept : kept_from n cs vs ≡ record { width = length columns + 1; rows = map longer (rows_beside n columns); versions = versions ++ 0 ∷ [] }
    longer_kept =
        ap (λ (x : List Pairs). kept_from n x vs) all ∙ ap (kept_from n (columns ++ numbered (replicate n cell) ∷ [])) beside
        ∙ ap (λ w. record { width = w; rows = rows_beside n (columns ++ numbered (replicate n cell) ∷ []); versions = versions ++ 0 ∷ [] }) (length-append columns (numbered (replicate n cell) ∷ []))
        ∙ ap (λ (rows : List (List Cell)). record { width = length columns + 1; rows = rows; versions = versions ++ 0 ∷ [] }) (rows_longer n columns)

-- ## More rows

before_append : (cells more : List Cell) (rows others : List (List Cell)) → length cells ≡ length rows
    → before_rows (cells ++ more) (rows ++ others) ≡ before_rows cells rows ++ before_rows more others
before_append [] more [] others even = refl
before_append [] more (r ∷ rows) others even = absurd (omega arith)
before_append (c ∷ cells) more [] others even = absurd (omega arith)
before_append (c ∷ cells) more (r ∷ rows) others even = ap (λ x. (c ∷ r) ∷ x) (before_append cells more rows others (omega arith))

-- a row from a place on is its cell there, and the cells after it
parted : (place width : ℕ) (rows : List (List Cell)) → AreWide (place + suc width) rows
    → before_rows (column_cells place rows) (map (drop (place + 1)) rows) ≡ map (drop place) rows
parted place width [] wide = refl
parted place width (row ∷ rows) wide =
    let within : place < length row = omega (arith, wide.0) in
    ap (λ (x : List Cell). x ∷ before_rows (column_cells place rows) (map (drop (place + 1)) rows))
    (ap (λ k. slice_index_or row place Nil ∷ drop k row) (add-one place) ∙ sym (drop-cons row place Nil within))
    ∙ ap (λ more. drop place row ∷ more) (parted place width rows wide.1)

no_cells : (place : ℕ) (rows : List (List Cell)) → AreWide (place + 0) rows → replicate (length rows) [] ≡ map (drop place) rows
no_cells place [] wide = refl
no_cells place (row ∷ rows) wide = ap (λ (x : List Cell). x ∷ replicate (length rows) []) (sym (all_dropped place row (omega (arith, wide.0)))) ∙ ap (λ more. drop place row ∷ more) (no_cells place rows wide.1)
  where
    all_dropped : (n : ℕ) (xs : List Cell) → length xs ≡ n → drop n xs ≡ []
    all_dropped zero [] e = refl
    all_dropped zero (x ∷ xs) e = absurd (omega arith)
    all_dropped (suc n) [] e = refl
    all_dropped (suc n) (x ∷ xs) e = all_dropped n xs (omega arith)

module _ (n : ℕ) (rows : List (List Cell)) where
  rows_grown : (place : ℕ) (columns : List Pairs) → AllByRecursion (IsColumn n) columns → AreWide (place + length columns) rows
      → rows_beside (n + length rows) (grown_columns place columns rows) ≡ rows_beside n columns ++ map (drop place) rows
  rows_grown place [] all wide =
      sym (replicate-append-replicate n (length rows) []) ∙ ap (λ more. replicate n [] ++ more) (no_cells place rows wide)
  rows_grown place (b ∷ columns) all wide =
      let further : AreWide ((place + 1) + length columns) rows = subst (λ w. AreWide w rows) (omega arith) wide in
      ap (before_rows (tails_of (numbered (tails_of b ++ column_cells place rows)))) (rows_grown (place + 1) columns all.1 further)
      ∙ ap (λ cells. before_rows cells (rows_beside n columns ++ map (drop (place + 1)) rows)) (tails_numbered (tails_of b ++ column_cells place rows))
      ∙ before_append (tails_of b) (column_cells place rows) (rows_beside n columns) (map (drop (place + 1)) rows) (length-tails b ∙ all.0.cells ∙ sym (length_rows n columns all.1))
      ∙ ap (λ more. before_rows (tails_of b) (rows_beside n columns) ++ more) (parted place (length columns) rows wide)

  all_grown : (place : ℕ) (columns : List Pairs) → AllByRecursion (IsColumn n) columns → AllByRecursion (IsColumn (n + length rows)) (grown_columns place columns rows)
  all_grown place [] all = tt
  all_grown place (b ∷ columns) all = (
    numbered_is_column (n + length rows) (tails_of b ++ column_cells place rows)
        (length-append (tails_of b) (column_cells place rows) ∙ ap (λ k. k + length (column_cells place rows)) (length-tails b ∙ all.0.cells) ∙ ap (λ k. n + k) (length-map rows (λ (row : List Cell). slice_index_or row place Nil))),
    all_grown (place + 1) columns all.1,
  )

  length_grown : (place : ℕ) (columns : List Pairs) → length (grown_columns place columns rows) ≡ length columns
  length_grown place [] = refl
  length_grown place (b ∷ columns) = ap suc (length_grown (place + 1) columns)

  whole : (rows : List (List Cell)) → map (drop 0) rows ≡ rows
  whole [] = refl
  whole (row ∷ rows) = ap (λ more. row ∷ more) (whole rows)

  module _ (columns : List Pairs) (versions : List ℕ) (are : AreColumns n columns versions) (cs : List Pairs) (vs : List ℕ) (m : ℕ)
      (all : cs ≡ grown_columns 0 columns rows) (beside : vs ≡ versions) (count : m ≡ n + length rows) where
    pub grown_are : AreColumns m cs vs
    grown_are = record {
      even = subst (λ (x : List Pairs). AllByRecursion (IsColumn m) x) (sym all) (subst (λ k. AllByRecursion (IsColumn k) (grown_columns 0 columns rows)) (sym count) (all_grown 0 columns are.even));
      beside = ap length beside ∙ are.beside ∙ sym (length_grown 0 columns) ∙ sym (ap length all);
    }

    pub grown_kept : AreWide (length columns) rows → kept_from m cs vs ≡ record { width = length columns; rows = rows_beside n columns ++ rows; versions = versions }
    grown_kept wide =
        ap (λ (x : List Pairs). kept_from m x vs) all ∙ ap (kept_from m (grown_columns 0 columns rows)) beside
        ∙ ap (λ k. kept_from k (grown_columns 0 columns rows) versions) count
        ∙ ap (λ w. record { width = w; rows = rows_beside (n + length rows) (grown_columns 0 columns rows); versions = versions }) (length_grown 0 columns)
        ∙ ap (λ (x : List (List Cell)). record { width = length columns; rows = x; versions = versions })
        (rows_grown 0 columns are.even (subst (λ w. AreWide w rows) (omega arith) wide) ∙ ap (λ more. rows_beside n columns ++ more) (whole rows))
