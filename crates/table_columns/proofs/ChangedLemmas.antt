-- Tables without some of their rows, or with other cells in some.
use Rattle.std.proofs.Common.{◌≡◌, ℕ, zero, suc, ◌+◌, List, [], ◌∷◌, length, map, filter, replicate, Bool, true, false, not, cond, Option, Some, None, refl, ap, sym, subst, ◌∙◌, arith}
use Rattle.std.specs.List.{AllByRecursion, count_by}
use Rattle.std.proofs.lemmas.List.Sums.{length-filter}
use Rattle.cell_core.specs.declared.cell.Cell.{Cell}
use Rattle.cell_core.specs.declared.table.Column.{Column}
use Rattle.cell_core.specs.Pairs.{Pairs, tails_of}
use Rattle.bat_core.proofs.PairLemmas.{length-tails}
use Rattle.table_columns.specs.Rows.{AreColumns, IsColumn, before_rows, kept_from, rows_beside}
use Rattle.table_columns.specs.Changed.{NewCells, columns_left, columns_set, new_cell, set_cells, set_column, set_of, set_row, set_rows, unflagged}
use Rattle.table_columns.proofs.ColumnLemmas.{numbered_is_column, tails_numbered}
use Rattle.table_columns.proofs.RowLemmas.{length_rows}

-- ## Rows that stay

-- how many stay
abbrev many : List Bool → ℕ
many gone = length (filter not gone)

pub length_left : {X : Type 0} (gone : List Bool) (xs : List X) → length gone ≡ length xs → length (unflagged gone xs) ≡ many gone
length_left [] xs even = refl
length_left (flag ∷ gone) [] even = absurd (omega arith)
length_left (true ∷ gone) (x ∷ xs) even = length_left gone xs (omega arith)
length_left (false ∷ gone) (x ∷ xs) even = ap suc (length_left gone xs (omega arith))

abbrev bare : ℕ → List (List Cell)
bare n = replicate n []

none_left : (gone : List Bool) (n : ℕ) → length gone ≡ n → unflagged gone (bare n) ≡ bare (many gone)
none_left [] zero even = refl
none_left [] (suc n) even = absurd (omega arith)
none_left (flag ∷ gone) zero even = absurd (omega arith)
none_left (true ∷ gone) (suc n) even = none_left gone n (omega arith)
none_left (false ∷ gone) (suc n) even = ap (λ more. [] ∷ more) (none_left gone n (omega arith))

before_left : (gone : List Bool) (cells : List Cell) (rows : List (List Cell)) → length rows ≡ length cells
    → before_rows (unflagged gone cells) (unflagged gone rows) ≡ unflagged gone (before_rows cells rows)
before_left [] cells rows even = refl
before_left (flag ∷ gone) [] [] even = refl
before_left (flag ∷ gone) [] (r ∷ rows) even = absurd (omega arith)
before_left (flag ∷ gone) (c ∷ cells) [] even = absurd (omega arith)
before_left (true ∷ gone) (c ∷ cells) (r ∷ rows) even = before_left gone cells rows (omega arith)
before_left (false ∷ gone) (c ∷ cells) (r ∷ rows) even = ap (λ more. (c ∷ r) ∷ more) (before_left gone cells rows (omega arith))

module _ (gone : List Bool) (n : ℕ) (long : length gone ≡ n) where
  tails_even : (b : Pairs) → IsColumn n b → length gone ≡ length (tails_of b)
  tails_even b is = long ∙ sym (length-tails b ∙ is.cells)

  rows_left : (columns : List Pairs) → AllByRecursion (IsColumn n) columns → rows_beside (many gone) (columns_left gone columns) ≡ unflagged gone (rows_beside n columns)
  rows_left [] all = sym (none_left gone n long)
  rows_left (b ∷ columns) all =
      ap (λ cells. before_rows cells (rows_beside (many gone) (columns_left gone columns))) (tails_numbered (unflagged gone (tails_of b)))
      ∙ ap (before_rows (unflagged gone (tails_of b))) (rows_left columns all.1)
      ∙ before_left gone (tails_of b) (rows_beside n columns) (length_rows n columns all.1 ∙ sym (length-tails b ∙ all.0.cells))

  all_left : (columns : List Pairs) → AllByRecursion (IsColumn n) columns → AllByRecursion (IsColumn (many gone)) (columns_left gone columns)
  all_left [] all = tt
  all_left (b ∷ columns) all =
      (numbered_is_column (many gone) (unflagged gone (tails_of b)) (length_left gone (tails_of b) (tails_even b all.0)), all_left columns all.1)

  length_left_columns : (columns : List Pairs) → length (columns_left gone columns) ≡ length columns
  length_left_columns [] = refl
  length_left_columns (b ∷ columns) = ap suc (length_left_columns columns)

  module _ (columns : List Pairs) (versions : List ℕ) (are : AreColumns n columns versions) (cs : List Pairs) (vs : List ℕ) (m : ℕ)
      (all : cs ≡ columns_left gone columns) (beside : vs ≡ versions) (count : m ≡ count_by not gone) where
    pub left_are : AreColumns m cs vs
    left_are = record {
      even = subst (λ (x : List Pairs). AllByRecursion (IsColumn m) x) (sym all) (subst (λ k. AllByRecursion (IsColumn k) (columns_left gone columns)) (sym (count ∙ sym (length-filter not gone))) (all_left columns are.even));
      beside = ap length beside ∙ are.beside ∙ sym (length_left_columns columns) ∙ sym (ap length all);
    }

    pub left_kept : kept_from m cs vs ≡ record { width = length columns; rows = unflagged gone (rows_beside n columns); versions = versions }
    left_kept =
        ap (λ (x : List Pairs). kept_from m x vs) all ∙ ap (kept_from m (columns_left gone columns)) beside
        ∙ ap (λ k. kept_from k (columns_left gone columns) versions) (count ∙ sym (length-filter not gone))
        ∙ ap (λ w. record { width = w; rows = rows_beside (many gone) (columns_left gone columns); versions = versions }) (length_left_columns columns)
        ∙ ap (λ (x : List (List Cell)). record { width = length columns; rows = x; versions = versions }) (rows_left columns are.even)

-- the flags of a test leave the elements that fail it
pub left_by : {X : Type 0} (p : X → Bool) (xs : List X) → unflagged (map p xs) xs ≡ filter (λ x. not (p x)) xs
left_by p [] = refl
left_by p (x ∷ xs) = elim (p x) as (λ b. cond b (unflagged (map p xs) xs) (x ∷ unflagged (map p xs) xs) ≡ cond (not b) (x ∷ filter (λ x. not (p x)) xs) (filter (λ x. not (p x)) xs)) [
  | true ↦ left_by p xs
  | false ↦ ap (λ more. x ∷ more) (left_by p xs)
]

-- ## Rows with other cells

module _ (sets : List NewCells) where
  nothing_set : (n at : ℕ) (hits : List Bool) → length hits ≡ n → set_rows sets [] at hits (replicate n []) ≡ replicate n []
  nothing_set zero at [] even = refl
  nothing_set zero at (hit ∷ hits) even = absurd (omega arith)
  nothing_set (suc n) at [] even = absurd (omega arith)
  nothing_set (suc n) at (true ∷ hits) even = ap (λ more. [] ∷ more) (nothing_set n (at + 1) hits (omega arith))
  nothing_set (suc n) at (false ∷ hits) even = ap (λ more. [] ∷ more) (nothing_set n at hits (omega arith))

  before_set : (column : Column) (columns : List Column) (at : ℕ) (hits : List Bool) (cells : List Cell) (rows : List (List Cell)) → length rows ≡ length cells
      → before_rows (set_cells (set_of sets column) at hits cells) (set_rows sets columns at hits rows) ≡ set_rows sets (column ∷ columns) at hits (before_rows cells rows)
  before_set column columns at [] cells rows even = refl
  before_set column columns at (hit ∷ hits) [] [] even = refl
  before_set column columns at (hit ∷ hits) [] (r ∷ rows) even = absurd (omega arith)
  before_set column columns at (hit ∷ hits) (c ∷ cells) [] even = absurd (omega arith)
  before_set column columns at (true ∷ hits) (c ∷ cells) (r ∷ rows) even =
      ap (λ more. (new_cell (set_of sets column) at c ∷ set_row sets columns at r) ∷ more) (before_set column columns (at + 1) hits cells rows (omega arith))
  before_set column columns at (false ∷ hits) (c ∷ cells) (r ∷ rows) even = ap (λ more. (c ∷ r) ∷ more) (before_set column columns at hits cells rows (omega arith))

  length_set : (set : Option NewCells) (at : ℕ) (hits : List Bool) (cells : List Cell) → length hits ≡ length cells → length (set_cells set at hits cells) ≡ length cells
  length_set set at [] [] even = refl
  length_set set at [] (c ∷ cells) even = absurd (omega arith)
  length_set set at (hit ∷ hits) [] even = absurd (omega arith)
  length_set set at (true ∷ hits) (c ∷ cells) even = ap suc (length_set set (at + 1) hits cells (omega arith))
  length_set set at (false ∷ hits) (c ∷ cells) even = ap suc (length_set set at hits cells (omega arith))

  unset : (at : ℕ) (hits : List Bool) (cells : List Cell) → length hits ≡ length cells → set_cells None at hits cells ≡ cells
  unset at [] [] even = refl
  unset at [] (c ∷ cells) even = absurd (omega arith)
  unset at (hit ∷ hits) [] even = absurd (omega arith)
  unset at (true ∷ hits) (c ∷ cells) even = ap (λ more. c ∷ more) (unset (at + 1) hits cells (omega arith))
  unset at (false ∷ hits) (c ∷ cells) even = ap (λ more. c ∷ more) (unset at hits cells (omega arith))

  module _ (hits : List Bool) (n : ℕ) (long : length hits ≡ n) where
    hits_even : (b : Pairs) → IsColumn n b → length hits ≡ length (tails_of b)
    hits_even b is = long ∙ sym (length-tails b ∙ is.cells)

    tails_set : (set : Option NewCells) (b : Pairs) → IsColumn n b → tails_of (set_column set hits b) ≡ set_cells set 0 hits (tails_of b)
    tails_set None b is = sym (unset 0 hits (tails_of b) (hits_even b is))
    tails_set (Some set) b is = tails_numbered (set_cells (Some set) 0 hits (tails_of b))

    column_set : (set : Option NewCells) (b : Pairs) → IsColumn n b → IsColumn n (set_column set hits b)
    column_set None b is = is
    column_set (Some set) b is =
        numbered_is_column n (set_cells (Some set) 0 hits (tails_of b)) (length_set (Some set) 0 hits (tails_of b) (hits_even b is) ∙ length-tails b ∙ is.cells)

    rows_set : (columns : List Column) (stored : List Pairs) → length columns ≡ length stored → AllByRecursion (IsColumn n) stored
        → rows_beside n (columns_set sets hits columns stored) ≡ set_rows sets columns 0 hits (rows_beside n stored)
    rows_set [] [] same all = sym (nothing_set n 0 hits long)
    rows_set [] (b ∷ stored) same all = absurd (omega arith)
    rows_set (column ∷ columns) [] same all = absurd (omega arith)
    rows_set (column ∷ columns) (b ∷ stored) same all =
        ap (λ cells. before_rows cells (rows_beside n (columns_set sets hits columns stored))) (tails_set (set_of sets column) b all.0)
        ∙ ap (before_rows (set_cells (set_of sets column) 0 hits (tails_of b))) (rows_set columns stored (omega arith) all.1)
        ∙ before_set column columns 0 hits (tails_of b) (rows_beside n stored) (length_rows n stored all.1 ∙ sym (length-tails b ∙ all.0.cells))

    all_set : (columns : List Column) (stored : List Pairs) → length columns ≡ length stored → AllByRecursion (IsColumn n) stored → AllByRecursion (IsColumn n) (columns_set sets hits columns stored)
    all_set [] stored same all = tt
    all_set (column ∷ columns) [] same all = tt
    all_set (column ∷ columns) (b ∷ stored) same all = (column_set (set_of sets column) b all.0, all_set columns stored (omega arith) all.1)

    length_columns_set : (columns : List Column) (stored : List Pairs) → length columns ≡ length stored → length (columns_set sets hits columns stored) ≡ length stored
    length_columns_set [] [] same = refl
    length_columns_set [] (b ∷ stored) same = absurd (omega arith)
    length_columns_set (column ∷ columns) [] same = absurd (omega arith)
    length_columns_set (column ∷ columns) (b ∷ stored) same = ap suc (length_columns_set columns stored (omega arith))

    module _ (columns : List Column) (stored : List Pairs) (versions : List ℕ) (same : length columns ≡ length stored) (are : AreColumns n stored versions) (cs : List Pairs) (vs : List ℕ)
        (all : cs ≡ columns_set sets hits columns stored) (beside : vs ≡ versions) where
      pub set_are : AreColumns n cs vs
      set_are = record {
        even = subst (λ (x : List Pairs). AllByRecursion (IsColumn n) x) (sym all) (all_set columns stored same are.even);
        beside = ap length beside ∙ are.beside ∙ sym (length_columns_set columns stored same) ∙ sym (ap length all);
      }

      pub set_kept : kept_from n cs vs ≡ record { width = length stored; rows = set_rows sets columns 0 hits (rows_beside n stored); versions = versions }
      set_kept =
          ap (λ (x : List Pairs). kept_from n x vs) all ∙ ap (kept_from n (columns_set sets hits columns stored)) beside
          ∙ ap (λ w. record { width = w; rows = rows_beside n (columns_set sets hits columns stored); versions = versions }) (length_columns_set columns stored same)
          ∙ ap (λ (x : List (List Cell)). record { width = length stored; rows = x; versions = versions }) (rows_set columns stored same are.even)
