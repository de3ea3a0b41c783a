-- Rows that a statement makes fit the columns of their table.
use Rattle.std.proofs.Common.{◌≡◌, ℕ, suc, ◌+◌, ◌==◌, List, [], ◌∷◌, ◌++◌, map, filter, length, zip, Bool, true, false, not, cond, Option, Some, None, refl, ap, sym, subst, ◌∙◌, arith}
use Rattle.std.specs.Prelude.{bytes_eq, find, is_none, slice_index_or, filter_map}
use Rattle.std.specs.List.{list_any, list_all, position_or_len, cons_option}
use Rattle.std.specs.Option.{option_to_list}
use Rattle.std.proofs.lemmas.Bool.{and_parts, and_from, or_parts, not-true, not-false, eqb-true}
use Rattle.cell_core.specs.declared.cell.Cell.{Cell}
use Rattle.cell_core.specs.declared.cell.Cell.TheVariants as cell
use Rattle.cell_core.specs.declared.table.Column.{Column}
use Rattle.cell_core.specs.declared.table.Table.{Table}
use Rattle.cell_core.specs.Kinds.{kind_of, agrees, is_of_kind}
use Rattle.sql_tree.specs.Tree.{ExprTree}
use Rattle.sql_definitions.specs.Check.{column_named, targets, is_misfit_row, is_misfit_set, own_source}
use Rattle.sql_definitions.specs.Effect.{placed, own_table, set_cell, updated_row}
use Rattle.sql_definitions.specs.Kinds.{kind_of_expr, is_misfit}
use Rattle.sql_definitions.specs.Valid.{column_names, fits_columns, is_valid_column, are_valid_columns}
use Rattle.cell_core.specs.Tables.{names_differ}
use Rattle.sql_kinds.proofs.NameLemmas.{same_name, still_named, first_named, none_left}
use Rattle.sql_kinds.proofs.CellLemmas.{cell_agrees, value_fits}

shorter : (a b : ℕ) → suc a ≡ suc b → a ≡ b
shorter a b e = grind arith

longer : (a : ℕ) → suc a ≡ 0 → a ≡ suc a
longer a e = grind arith

-- ## Columns

pub columns_differ : (columns : List Column) → are_valid_columns columns ≡ true → names_differ (column_names columns) ≡ true
columns_differ columns valid = (and_parts _ _ valid).1

pub columns_valid : (columns : List Column) → are_valid_columns columns ≡ true → list_all is_valid_column columns ≡ true
columns_valid columns valid = (and_parts _ _ (and_parts _ _ valid).0).1

-- the default of a column that is found
pub default_fits : (columns : List Column) (column : Column) (name : List ℕ) → list_all is_valid_column columns ≡ true → column_named columns name ≡ Some column
    → is_of_kind (Some column.kind) column.default ≡ true
default_fits [] column name valid found = cc
default_fits (first ∷ columns) column name valid found =
    elim (bytes_eq first.name name) as (λ b. cond b (Some first) (column_named columns name) ≡ Some column → is_of_kind (Some column.kind) column.default ≡ true) [
      | true ↦ λ is. let same : first ≡ column = cc in subst (λ (c : Column). is_of_kind (Some c.kind) c.default ≡ true) same (and_parts _ _ (and_parts _ _ valid).0).1
      | false ↦ λ is. default_fits columns column name (and_parts _ _ valid).1 is
    ] found

-- a row with the default of a column that is added
pub fits_more : (columns : List Column) (row : List Cell) (column : Column) → is_of_kind (Some column.kind) column.default ≡ true → fits_columns columns row ≡ true
    → fits_columns (columns ++ column ∷ []) (row ++ column.default ∷ []) ≡ true
fits_more [] [] column default fits = and_from _ _ default refl
fits_more [] (c ∷ row) column default fits = cc
fits_more (first ∷ columns) [] column default fits = cc
fits_more (first ∷ columns) (c ∷ row) column default fits =
    let parts : (is_of_kind (Some first.kind) c ≡ true) × (fits_columns columns row ≡ true) = and_parts _ _ fits in
    and_from _ _ parts.0 (fits_more columns row column default parts.1)

-- ## INSERT

-- a row of as many cells, none of another kind than its column
whole_row : (columns : List Column) (row : List Cell) → length row ≡ length columns → is_misfit_row columns row ≡ false → fits_columns columns row ≡ true
whole_row [] [] e fits = refl
whole_row [] (c ∷ row) e fits = absurd (omega (arith, e))
whole_row (column ∷ columns) [] e fits = absurd (omega (arith, e))
whole_row (column ∷ columns) (c ∷ row) e fits =
    let parts : (not (agrees (kind_of c) (Some column.kind)) ≡ false) × (is_misfit_row columns row ≡ false) = or_parts _ _ fits in
    and_from _ _ (cell_agrees column.kind c (not-false _ parts.0)) (whole_row columns row (shorter (length row) (length columns) e) parts.1)

-- cells that are made for each column
made_row : (f : Column → Cell) (columns : List Column) → names_differ (column_names columns) ≡ true
    → ((column : Column) → column_named columns column.name ≡ Some column → is_of_kind (Some column.kind) (f column) ≡ true)
    → fits_columns columns (map f columns) ≡ true
made_row f [] differ fits = refl
made_row f (column ∷ columns) differ fits =
    let parts : (not (list_any (bytes_eq column.name) (column_names columns)) ≡ true) × (names_differ (column_names columns) ≡ true) = and_parts _ _ differ in
    and_from _ _ (fits column (first_named column columns))
    (made_row f columns parts.1 (λ other found. fits other (still_named column columns other (not-true _ parts.0) found)))

-- the place of a name after another one
behind : (b : Bool) (c other : Cell) (row : List Cell) (n : ℕ) → slice_index_or (c ∷ row) (cond (not b) (1 + n) 0) other ≡ cond b c (slice_index_or row n other)
behind true c other row n = refl
behind false c other row n = ap (λ k. slice_index_or (c ∷ row) k other) (one_more n)
  where
    one_more : (n : ℕ) → 1 + n ≡ suc n
    one_more n = grind arith

-- the value that is placed in a column
module _ (columns : List Column) (column : Column) (found : column_named columns column.name ≡ Some column) (default_fits : is_of_kind (Some column.kind) column.default ≡ true) where
  abbrev value_at : List (List ℕ) → List Cell → Cell
  value_at listed row = slice_index_or row (position_or_len (bytes_eq column.name) listed) column.default

  -- a value beside its own column's name, or beside another one
  placed_here : (name : List ℕ) (listed : List (List ℕ)) (c : Cell) (row : List Cell) (target : Column) → column_named columns name ≡ Some target
      → agrees (kind_of c) (Some target.kind) ≡ true → is_of_kind (Some column.kind) (value_at listed row) ≡ true
      → is_of_kind (Some column.kind) (value_at (name ∷ listed) (c ∷ row)) ≡ true
  placed_here name listed c row target is agreed rest =
      ap (λ x. is_of_kind (Some column.kind) x) (behind (bytes_eq column.name name) c column.default row (position_or_len (bytes_eq column.name) listed))
      ∙ elim (bytes_eq column.name name) as (λ b. bytes_eq column.name name ≡ b → is_of_kind (Some column.kind) (cond b c (value_at listed row)) ≡ true) [
        | true ↦ λ same. subst (λ (x : Column). is_of_kind (Some x.kind) c ≡ true)
            (same_column target column (sym is ∙ ap (column_named columns) (sym (same_name column.name name same)) ∙ found))
            (cell_agrees target.kind c agreed)
        | false ↦ λ other. rest
      ] refl
    where
      same_column : (a b : Column) → Some a ≡ Some b → a ≡ b
      same_column a b h = cc

  placed_cell : (listed : List (List ℕ)) (row : List Cell) → filter (λ name. is_none (column_named columns name)) listed ≡ []
      → length row ≡ length (filter_map (column_named columns) listed) → is_misfit_row (filter_map (column_named columns) listed) row ≡ false
      → is_of_kind (Some column.kind) (value_at listed row) ≡ true
  placed_cell [] [] known e fits = default_fits
  placed_cell [] (c ∷ row) known e fits = absurd (omega (arith, e))
  placed_cell (name ∷ listed) [] known e fits = default_fits
  placed_cell (name ∷ listed) (c ∷ row) known e fits =
      let out : (is_none (column_named columns name) ≡ false) × (filter (λ n. is_none (column_named columns n)) listed ≡ []) =
      none_left (is_none (column_named columns name)) name (filter (λ n. is_none (column_named columns n)) listed) known in
      let target : (x : Column) × (column_named columns name ≡ Some x) = some_of (column_named columns name) out.0 in
      let all : filter_map (column_named columns) (name ∷ listed) ≡ target.0 ∷ filter_map (column_named columns) listed =
      ap (λ (o : Option Column). cons_option o (filter_map (column_named columns) listed)) target.1 in
      let parts : (not (agrees (kind_of c) (Some target.0.kind)) ≡ false) × (is_misfit_row (filter_map (column_named columns) listed) row ≡ false) =
      or_parts (not (agrees (kind_of c) (Some target.0.kind))) (is_misfit_row (filter_map (column_named columns) listed) row) (sym (ap (λ ts. is_misfit_row ts (c ∷ row)) all) ∙ fits) in
      placed_here name listed c row target.0 target.1 (not-false (agrees (kind_of c) (Some target.0.kind)) parts.0)
      (placed_cell listed row out.1 (shorter (length row) (length (filter_map (column_named columns) listed)) (e ∙ ap length all)) parts.1)
    where
      some_of : (o : Option Column) → is_none o ≡ false → (x : Column) × (o ≡ Some x)
      some_of None h = cc
      some_of (Some x) h = (x, refl)

is_listed : (name : List ℕ) (listed : List (List ℕ)) → (length (name ∷ listed) == 0) ≡ false
is_listed name listed = grind arith

-- the row that a row of VALUES makes
pub placed_fits : (columns : List Column) (listed : List (List ℕ)) (row : List Cell) → are_valid_columns columns ≡ true
    → filter (λ name. is_none (column_named columns name)) listed ≡ []
    → (length row == length (targets columns listed)) ≡ true → is_misfit_row (targets columns listed) row ≡ false
    → fits_columns columns (placed columns listed row) ≡ true
placed_fits columns [] row valid known count fits = whole_row columns row (eqb-true (length row) (length columns) count) fits
placed_fits columns (name ∷ listed) row valid known count fits =
    ap (λ b. fits_columns columns (cond b row (map (λ (column : Column). slice_index_or row (position_or_len (bytes_eq column.name) (name ∷ listed)) column.default) columns))) (is_listed name listed)
    ∙ made_row (λ (column : Column). slice_index_or row (position_or_len (bytes_eq column.name) (name ∷ listed)) column.default) columns (columns_differ columns valid)
    (λ column found. placed_cell columns column found (default_fits columns column column.name (columns_valid columns valid) found) (name ∷ listed) row known (eqb-true (length row) (length all) (ap (λ ts. length row == length ts) targets_are ∙ count))
    (ap (λ ts. is_misfit_row ts row) targets_are ∙ fits))
  where
    all : List Column
    all = filter_map (column_named columns) (name ∷ listed)

    targets_are : filter_map (column_named columns) (name ∷ listed) ≡ targets columns (name ∷ listed)
    targets_are = ap (λ b. cond b columns (filter_map (column_named columns) (name ∷ listed))) (sym (is_listed name listed))

-- ## UPDATE

-- cells that are made for each column from a cell that fits it
changed_row : (f : Column → Cell → Cell) (columns : List Column) (row : List Cell) → names_differ (column_names columns) ≡ true → fits_columns columns row ≡ true
    → ((column : Column) (c : Cell) → column_named columns column.name ≡ Some column → is_of_kind (Some column.kind) c ≡ true → is_of_kind (Some column.kind) (f column c) ≡ true)
    → fits_columns columns (map (λ (at : Column × Cell). f at.0 at.1) (zip columns row)) ≡ true
changed_row f [] [] differ fits keeps = refl
changed_row f [] (c ∷ row) differ fits keeps = cc
changed_row f (column ∷ columns) [] differ fits keeps = cc
changed_row f (column ∷ columns) (c ∷ row) differ fits keeps =
    let names : (not (list_any (bytes_eq column.name) (column_names columns)) ≡ true) × (names_differ (column_names columns) ≡ true) = and_parts _ _ differ in
    let cells : (is_of_kind (Some column.kind) c ≡ true) × (fits_columns columns row ≡ true) = and_parts _ _ fits in
    and_from _ _ (keeps column c (first_named column columns) cells.0)
    (changed_row f columns row names.1 cells.1 (λ other d found. keeps other d (still_named column columns other (not-true _ names.0) found)))

module _ (table : Table) (row : List Cell) (fits : fits_columns table.columns row ≡ true) (column : Column) (c : Cell)
    (found : column_named table.columns column.name ≡ Some column) (fits_cell : is_of_kind (Some column.kind) c ≡ true) where
  -- the cell that a column gets
  pub set_fits : (sets : List (List ℕ × ExprTree)) → list_any (is_misfit_set (own_table table) table.columns) sets ≡ false
      → is_of_kind (Some column.kind) (set_cell (own_table table) row (find (λ (set : List ℕ × ExprTree). bytes_eq set.0 column.name) sets) c) ≡ true
  set_fits [] e = fits_cell
  set_fits (set ∷ sets) e =
      elim (bytes_eq set.0 column.name) as (λ b. bytes_eq set.0 column.name ≡ b
      → is_of_kind (Some column.kind) (set_cell (own_table table) row (cond b (Some set) (find (λ (s : List ℕ × ExprTree). bytes_eq s.0 column.name) sets)) c) ≡ true) [
        | true ↦ λ same. value_fits (own_source (record { table = table.name; columns = table.columns })) row fits column.kind set.1 (agreed same)
        | false ↦ λ other. set_fits sets (or_parts _ _ e).1
      ] refl
    where
      misfits : Option Column → Bool
      misfits o = list_any (λ (x : Column). not (agrees (kind_of_expr (own_table table) set.1) (Some x.kind))) (option_to_list o)

      fitting : misfits (column_named table.columns set.0) ≡ false
      fitting = (or_parts (is_misfit (own_table table) set.1) (misfits (column_named table.columns set.0))
          (or_parts (is_misfit_set (own_table table) table.columns set) (list_any (is_misfit_set (own_table table) table.columns) sets) e).0).1

      agreed : bytes_eq set.0 column.name ≡ true → agrees (kind_of_expr (own_table table) set.1) (Some column.kind) ≡ true
      agreed same = not-false (agrees (kind_of_expr (own_table table) set.1) (Some column.kind))
          (or_parts (not (agrees (kind_of_expr (own_table table) set.1) (Some column.kind))) false
          (sym (ap misfits (ap (column_named table.columns) (same_name set.0 column.name same) ∙ found)) ∙ fitting)).0

pub updated_fits : (table : Table) (sets : List (List ℕ × ExprTree)) → names_differ (column_names table.columns) ≡ true
    → list_any (is_misfit_set (own_table table) table.columns) sets ≡ false
    → (row : List Cell) → fits_columns table.columns row ≡ true → fits_columns table.columns (updated_row sets table row) ≡ true
updated_fits table sets differ e row fits =
    changed_row (λ column c. set_cell (own_table table) row (find (λ (set : List ℕ × ExprTree). bytes_eq set.0 column.name) sets) c) table.columns row differ fits
    (λ column c found fits_cell. set_fits table row fits column c found fits_cell sets e)
