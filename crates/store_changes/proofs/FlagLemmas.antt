-- Rows that go or get new cells, by their places and by flags.
use Rattle.std.proofs.Common.{◌≡◌, ℕ, zero, suc, ◌+◌, ◌-◌, ◌≤◌, ◌<◌, ◌==◌, List, [], ◌∷◌, ◌++◌, length, map, filter, Bool, true, false, not, ◌&&◌, ◌||◌, cond, nat_lt, Option, Some, None, refl, ap, sym, ◌∙◌, arith, append_assoc, length-append}
use Rattle.std.specs.Prelude.{bytes_eq, slice_index_or, unwrap_or, zip}
use Rattle.std.specs.List.{list_any, list_all, enumerate_from}
use Rattle.std.specs.Map.{lookup}
use Rattle.std.specs.Option.{option_map_or}
use Rattle.std.proofs.lemmas.Bool.{and_parts}
use Rattle.cell_core.specs.declared.cell.Cell.{Cell}
use Rattle.cell_core.specs.declared.cell.Cell.TheVariants.{Nil}
use Rattle.cell_core.specs.declared.table.Column.{Column}
use Rattle.cell_core.specs.Relations.{column_cells}
use Rattle.cell_core.specs.declared.table.Db.{Db}
use Rattle.cell_core.specs.Tables.{row_count}
use Rattle.table_store.specs.Changes.{columns_of, rows_of}
use Rattle.table_columns.specs.Changed.{NewCells, new_cell, set_of, set_row, set_rows, unflagged}
use Rattle.change_plans.specs.Decisions.{rises, row_with, rows_with, rows_without}
use Rattle.store_changes.specs.Rewrites.{are_placed, flags_from, is_first, left_behind, sets_from}
use Rattle.store_changes.proofs.NamedLemmas.{count_rows}

-- ## Places that rise

is_equal : (a b : ℕ) → (a == b) ≡ true → a ≡ b
is_equal a b e = grind arith

not_equal : (a b : ℕ) → a < b → (a == b) ≡ false
not_equal a b few = grind arith

above : (from place : ℕ) → not (nat_lt place from) ≡ true → from ≤ place
above from place e = grind arith

beyond : (at place : ℕ) → not (nat_lt place at) ≡ true → (place == at) ≡ false → at < place
beyond at place e f = grind arith

-- the first place, and the places after it
pub record AreBehind (from count place : ℕ) (places : List ℕ) : Type 0 where
  pub from_it : not (nat_lt place from) ≡ true
  pub others : rises (place + 1) count places ≡ true

behind_of : (from count place : ℕ) (places : List ℕ) → rises from count (place ∷ places) ≡ true → AreBehind from count place places
behind_of from count place places e =
    let both = and_parts (not (nat_lt place from) && nat_lt place count) (rises (place + 1) count places) e in
    record { from_it = (and_parts (not (nat_lt place from)) (nat_lt place count) both.0).0; others = both.1 }

abbrev is_listed : List ℕ → ℕ → Bool
is_listed places at = list_any (λ place. place == at) places

-- what is below all places isn't among them
none_below : (from count at : ℕ) (places : List ℕ) → rises from count places ≡ true → at < from → is_listed places at ≡ false
none_below from count at [] e few = refl
none_below from count at (place ∷ places) e few =
    let are = behind_of from count place places e in
    let up = above from place are.from_it in
    ap (λ b. b || is_listed places at) (other place at (omega (arith, up, few))) ∙ none_below (place + 1) count at places are.others (omega (arith, up, few))
  where
    other : (a b : ℕ) → b < a → (a == b) ≡ false
    other a b few = grind arith

-- the same places rise from the next one on, where they lie beyond it
rises_on : (at place count : ℕ) (places : List ℕ) → rises at count (place ∷ places) ≡ true → at < place → rises (at + 1) count (place ∷ places) ≡ true
rises_on at place count places e up = ap (λ b. b && nat_lt place count && rises (place + 1) count places) (still at place up ∙ sym (behind_of at count place places e).from_it) ∙ e
  where
    still : (at place : ℕ) → at < place → not (nat_lt place (at + 1)) ≡ true
    still at place up = grind arith

-- the flag of the next row, and the later ones
pub next_flag : (at count : ℕ) (places : List ℕ) → at < count → flags_from at places (count - at) ≡ is_first at places ∷ flags_from (at + 1) (left_behind at places) (count - (at + 1))
next_flag at count places few = ap (flags_from at places) (one_less at count few)
  where
    one_less : (at count : ℕ) → at < count → count - at ≡ suc (count - (at + 1))
    one_less at count few = omega (arith, few)

-- ## Rows beside their places

-- a change by places alone, from a place on
map_same : {X Y : Type 0} (f g : ℕ × X → Y) (from : ℕ) → ((at : ℕ) (x : X) → from ≤ at → f (at, x) ≡ g (at, x)) → (xs : List X) → map f (enumerate_from from xs) ≡ map g (enumerate_from from xs)
map_same f g from same [] = refl
map_same f g from same (x ∷ xs) =
    ap (λ y. y ∷ map f (enumerate_from (from + 1) xs)) (same from x (omega arith))
    ∙ ap (λ ys. g (from, x) ∷ ys) (map_same f g (from + 1) (λ at y up. same at y (omega (arith, up))) xs)

filter_same : {X : Type 0} (f g : ℕ → Bool) (from : ℕ) → ((at : ℕ) → from ≤ at → f at ≡ g at) → (xs : List X)
    → filter (λ (x : ℕ × X). not (f x.0)) (enumerate_from from xs) ≡ filter (λ (x : ℕ × X). not (g x.0)) (enumerate_from from xs)
filter_same f g from same [] = refl
filter_same {X} f g from same (x ∷ xs) =
    ap (λ b. cond (not b) ((from, x) ∷ filter (λ (y : ℕ × X). not (f y.0)) (enumerate_from (from + 1) xs)) (filter (λ (y : ℕ × X). not (f y.0)) (enumerate_from (from + 1) xs))) (same from (omega arith))
    ∙ ap (λ (ys : List (ℕ × X)). cond (not (g from)) ((from, x) ∷ ys) ys) (filter_same f g (from + 1) (λ at up. same at (omega (arith, up))) xs)

-- a place that lies before what follows
listed_after : (place at : ℕ) (places : List ℕ) → place < at → is_listed (place ∷ places) at ≡ is_listed places at
listed_after place at places few = ap (λ b. b || is_listed places at) (not_equal place at few)

-- ## Rows that go

abbrev unlisted : {X : Type 0} → List ℕ → ℕ → List X → List X
unlisted {X} places from rows = map (λ (at : ℕ × X). at.1) (filter (λ (at : ℕ × X). not (is_listed places at.0)) (enumerate_from from rows))

removed_from : {X : Type 0} (at count : ℕ) (places : List ℕ) (rows : List X) → rises at count places ≡ true → unflagged (flags_from at places (length rows)) rows ≡ unlisted places at rows
removed_from at count places [] e = refl
removed_from at count [] (row ∷ rows) e = ap (λ rs. row ∷ rs) (removed_from (at + 1) count [] rows refl)
removed_from {X} at count (place ∷ places) (row ∷ rows) e = by_first (λ ps up. removed_from (at + 1) count ps rows up) (place == at) refl
  where
    are : AreBehind at count place places
    are = behind_of at count place places e

    by_first : ((ps : List ℕ) → rises (at + 1) count ps ≡ true → unflagged (flags_from (at + 1) ps (length rows)) rows ≡ unlisted ps (at + 1) rows)
        → (b : Bool) → (place == at) ≡ b → unflagged (flags_from at (place ∷ places) (suc (length rows))) (row ∷ rows) ≡ unlisted (place ∷ places) at (row ∷ rows)
    by_first rest true f =
        ap (λ b. unflagged (b ∷ flags_from (at + 1) (cond b places (place ∷ places)) (length rows)) (row ∷ rows)) f
        ∙ rest places (ap (λ n. rises (n + 1) count places) (sym (is_equal place at f)) ∙ are.others)
        ∙ ap (λ (rs : List (ℕ × X)). map (λ (x : ℕ × X). x.1) rs)
        (sym (filter_same (is_listed (place ∷ places)) (is_listed places) (at + 1) (λ n up. let is = is_equal place at f in listed_after place n places (omega (arith, up, is))) rows))
        ∙ ap (λ b. map (λ (x : ℕ × X). x.1) (cond (not (b || is_listed places at)) ((at, row) ∷ filter (λ (x : ℕ × X). not (is_listed (place ∷ places) x.0)) (enumerate_from (at + 1) rows)) (filter (λ (x : ℕ × X). not (is_listed (place ∷ places) x.0)) (enumerate_from (at + 1) rows)))) (sym f)
    by_first rest false f =
        let up = beyond at place are.from_it f in
        let none : is_listed (place ∷ places) at ≡ false = ap (λ b. b || is_listed places at) f ∙ none_below (place + 1) count at places are.others (omega (arith, up)) in
        ap (λ b. unflagged (b ∷ flags_from (at + 1) (cond b places (place ∷ places)) (length rows)) (row ∷ rows)) f
        ∙ ap (λ rs. row ∷ rs) (rest (place ∷ places) (rises_on at place count places e up))
        ∙ ap (λ b. map (λ (x : ℕ × X). x.1) (cond (not b) ((at, row) ∷ filter (λ (x : ℕ × X). not (is_listed (place ∷ places) x.0)) (enumerate_from (at + 1) rows)) (filter (λ (x : ℕ × X). not (is_listed (place ∷ places) x.0)) (enumerate_from (at + 1) rows)))) (sym none)

-- the rows without a flag are those whose places aren't listed
pub removed : (places : List ℕ) (rows : List (List Cell)) → rises 0 (length rows) places ≡ true → unflagged (flags_from 0 places (length rows)) rows ≡ rows_without places rows
removed places rows e = removed_from 0 (length rows) places rows e

-- ## Rows that get new cells

cell_at : (place : ℕ) (before : List (List Cell)) (row : List Cell) (behind : List (List Cell)) (x : Cell) → slice_index_or (column_cells place (before ++ row ∷ behind)) (length before) x ≡ slice_index_or row place Nil
cell_at place [] row behind x = refl
cell_at place (first ∷ before) row behind x = cell_at place before row behind x

at_seam : (before : List Cell) (cell : Cell) (behind : List Cell) → slice_index_or (before ++ cell ∷ behind) (length before) Nil ≡ cell
at_seam [] cell behind = refl
at_seam (first ∷ before) cell behind = at_seam before cell behind

long_one : (before : List Cell) (cell : Cell) → length (before ++ cell ∷ []) ≡ length before + 1
long_one before cell = length-append before (cell ∷ [])

-- the cell that a column gets from the row of new cells at a place
cell_set : (column : Column) (names : List (List ℕ)) (before rest : List Cell) (done behind : List (List Cell)) (cell : Cell) → length rest ≡ length names
    → new_cell (set_of (sets_from (length before) names (done ++ (before ++ rest) ∷ behind)) column) (length done) cell ≡ unwrap_or (lookup (λ name. bytes_eq name column.name) (zip names rest)) cell
cell_set column [] before rest done behind cell e = nothing rest
  where
    nothing : (rest : List Cell) → cell ≡ unwrap_or (lookup (λ name. bytes_eq name column.name) (zip [] rest)) cell
    nothing rest = refl
cell_set column (name ∷ names) before [] done behind cell e = absurd (omega arith)
cell_set column (name ∷ names) before (new ∷ rest) done behind cell e =
    elim (bytes_eq name column.name) as (λ b. new_cell (cond b (Some (name, column_cells (length before) (done ++ (before ++ new ∷ rest) ∷ behind))) (set_of (sets_from (length before + 1) names (done ++ (before ++ new ∷ rest) ∷ behind)) column)) (length done) cell
    ≡ unwrap_or (cond b (Some new) (lookup (λ n. bytes_eq n column.name) (zip names rest))) cell) [
      | true ↦ cell_at (length before) done (before ++ new ∷ rest) behind cell ∙ at_seam before new rest
      | false ↦
          ap (λ n. new_cell (set_of (sets_from n names (done ++ (before ++ new ∷ rest) ∷ behind)) column) (length done) cell) (sym (long_one before new))
          ∙ ap (λ (row : List Cell). new_cell (set_of (sets_from (length (before ++ new ∷ [])) names (done ++ row ∷ behind)) column) (length done) cell) (sym (append_assoc before (new ∷ []) rest))
          ∙ cell_set column names (before ++ new ∷ []) rest done behind cell (omega arith)
    ]

map_each : {X Y : Type 0} (f g : X → Y) → ((x : X) → f x ≡ g x) → (xs : List X) → map f xs ≡ map g xs
map_each f g same [] = refl
map_each f g same (x ∷ xs) = ap (λ y. y ∷ map f xs) (same x) ∙ ap (λ ys. g x ∷ ys) (map_each f g same xs)

-- a row that gets the row of new cells at a place
row_set : (columns : List Column) (names : List (List ℕ)) (done behind : List (List Cell)) (new row : List Cell) → length new ≡ length names
    → set_row (sets_from 0 names (done ++ new ∷ behind)) columns (length done) row ≡ row_with columns names new row
row_set columns names done behind new row e = map_each
    (λ (c : Column × Cell). new_cell (set_of (sets_from 0 names (done ++ new ∷ behind)) c.0) (length done) c.1)
    (λ (c : Column × Cell). unwrap_or (lookup (λ name. bytes_eq name c.0.name) (zip names new)) c.1)
    (λ c. cell_set c.0 names [] new done behind c.1 e) (zip columns row)

-- a place that isn't listed has no new cells
none_new : (from count at : ℕ) (places : List ℕ) (cells : List (List Cell)) → rises from count places ≡ true → at < from → lookup (λ place. place == at) (zip places cells) ≡ None
none_new from count at [] cells e few = refl
none_new from count at (place ∷ places) [] e few = refl
none_new from count at (place ∷ places) (new ∷ cells) e few =
    let are = behind_of from count place places e in
    let up = above from place are.from_it in
    ap (λ b. cond b (Some new) (lookup (λ place. place == at) (zip places cells))) (other place at (omega (arith, up, few))) ∙ none_new (place + 1) count at places cells are.others (omega (arith, up, few))
  where
    other : (a b : ℕ) → b < a → (a == b) ≡ false
    other a b few = grind arith

module _ (columns : List Column) (names : List (List ℕ)) where
  abbrev is_wide : List Cell → Bool
  is_wide row = length row == length names

  -- a row with its new cells, where its place has some
  abbrev with_new : List ℕ → List (List Cell) → ℕ × List Cell → List Cell
  with_new places cells at = option_map_or (λ new. row_with columns names new at.1) (lookup (λ place. place == at.0) (zip places cells)) at.1

  new_after : (place at : ℕ) (places : List ℕ) (new : List Cell) (cells : List (List Cell)) (row : List Cell) → place < at → with_new (place ∷ places) (new ∷ cells) (at, row) ≡ with_new places cells (at, row)
  new_after place at places new cells row few =
      ap (λ b. option_map_or (λ new. row_with columns names new row) (cond b (Some new) (lookup (λ p. p == at) (zip places cells))) row) (not_equal place at few)

  set_from : (done cells : List (List Cell)) (at count : ℕ) (places : List ℕ) (rows : List (List Cell)) → rises at count places ≡ true → length cells ≡ length places → list_all is_wide cells ≡ true
      → set_rows (sets_from 0 names (done ++ cells)) columns (length done) (flags_from at places (length rows)) rows ≡ map (with_new places cells) (enumerate_from at rows)
  set_from done cells at count places [] e even wide = refl
  set_from done cells at count [] (row ∷ rows) e even wide =
      ap (λ rs. row ∷ rs) (set_from done cells (at + 1) count [] rows refl even wide)
  set_from done [] at count (place ∷ places) (row ∷ rows) e even wide = absurd (omega arith)
  set_from done (new ∷ cells) at count (place ∷ places) (row ∷ rows) e even wide =
      by_first (place == at) refl
      (λ up. set_from (done ++ new ∷ []) cells (at + 1) count places rows up (omega arith) (and_parts (is_wide new) (list_all is_wide cells) wide).1)
      (λ up. set_from done (new ∷ cells) (at + 1) count (place ∷ places) rows up even wide)
    where
      are : AreBehind at count place places
      are = behind_of at count place places e

      all : List NewCells
      all = sets_from 0 names (done ++ new ∷ cells)

      long : is_wide new ≡ true → length new ≡ length names
      long w = is_equal (length new) (length names) w

      by_first : (b : Bool) → (place == at) ≡ b
          → (rises (at + 1) count places ≡ true → set_rows (sets_from 0 names ((done ++ new ∷ []) ++ cells)) columns (length (done ++ new ∷ [])) (flags_from (at + 1) places (length rows)) rows ≡ map (with_new places cells) (enumerate_from (at + 1) rows))
          → (rises (at + 1) count (place ∷ places) ≡ true → set_rows all columns (length done) (flags_from (at + 1) (place ∷ places) (length rows)) rows ≡ map (with_new (place ∷ places) (new ∷ cells)) (enumerate_from (at + 1) rows))
          → set_rows all columns (length done) (flags_from at (place ∷ places) (suc (length rows))) (row ∷ rows) ≡ map (with_new (place ∷ places) (new ∷ cells)) (enumerate_from at (row ∷ rows))
      by_first true f here later =
          let is = is_equal place at f in
          ap (λ b. set_rows all columns (length done) (b ∷ flags_from (at + 1) (cond b places (place ∷ places)) (length rows)) (row ∷ rows)) f
          ∙ ap (λ (r : List Cell). r ∷ set_rows all columns (length done + 1) (flags_from (at + 1) places (length rows)) rows)
          (row_set columns names done cells new row (long (and_parts (is_wide new) (list_all is_wide cells) wide).0))
          ∙ ap (λ (rs : List (List Cell)). row_with columns names new row ∷ rs)
          (ap (λ n. set_rows all columns n (flags_from (at + 1) places (length rows)) rows) (sym (length-append done (new ∷ [])))
          ∙ ap (λ (cs : List (List Cell)). set_rows (sets_from 0 names cs) columns (length (done ++ new ∷ [])) (flags_from (at + 1) places (length rows)) rows) (sym (append_assoc done (new ∷ []) cells))
          ∙ here (ap (λ n. rises (n + 1) count places) (sym is) ∙ are.others)
          ∙ sym (map_same (with_new (place ∷ places) (new ∷ cells)) (with_new places cells) (at + 1) (λ n r up. new_after place n places new cells r (omega (arith, up, is))) rows))
          ∙ ap (λ b. option_map_or (λ new. row_with columns names new row) (cond b (Some new) (lookup (λ p. p == at) (zip places cells))) row ∷ map (with_new (place ∷ places) (new ∷ cells)) (enumerate_from (at + 1) rows)) (sym f)
      by_first false f here later =
          let up = beyond at place are.from_it f in
          let none = none_new (place + 1) count at places cells are.others (omega (arith, up)) in
          ap (λ b. set_rows all columns (length done) (b ∷ flags_from (at + 1) (cond b places (place ∷ places)) (length rows)) (row ∷ rows)) f
          ∙ ap (λ (rs : List (List Cell)). row ∷ rs) (later (rises_on at place count places e up))
          ∙ ap (λ (o : Option (List Cell)). option_map_or (λ new. row_with columns names new row) o row ∷ map (with_new (place ∷ places) (new ∷ cells)) (enumerate_from (at + 1) rows)) (sym none)
          ∙ ap (λ b. option_map_or (λ new. row_with columns names new row) (cond b (Some new) (lookup (λ p. p == at) (zip places cells))) row ∷ map (with_new (place ∷ places) (new ∷ cells)) (enumerate_from (at + 1) rows)) (sym f)

  -- the flagged rows get the new cells of their places
  pub rows_set : (places : List ℕ) (cells rows : List (List Cell)) → rises 0 (length rows) places ≡ true → length cells ≡ length places → list_all is_wide cells ≡ true
      → set_rows (sets_from 0 names cells) columns 0 (flags_from 0 places (length rows)) rows ≡ rows_with columns names places cells rows
  rows_set places cells rows e even wide = set_from [] cells 0 (length rows) places rows e even wide

-- ## Flags and sets that were made

pub flags_long : (at count : ℕ) (places : List ℕ) → length (flags_from at places count) ≡ count
flags_long at zero places = refl
flags_long at (suc count) places = ap suc (flags_long (at + 1) count (left_behind at places))

pub sets_named : (place : ℕ) (names : List (List ℕ)) (cells : List (List Cell)) → map (λ (set : NewCells). set.0) (sets_from place names cells) ≡ names
sets_named place [] cells = refl
sets_named place (name ∷ names) cells = ap (λ (ns : List (List ℕ)). name ∷ ns) (sets_named (place + 1) names cells)

pub removes_is : (name places : List ℕ) (db : Db) (flags : List Bool) → flags ≡ flags_from 0 places (row_count name db) → rises 0 (row_count name db) places ≡ true
    → unflagged flags (rows_of name db) ≡ rows_without places (rows_of name db)
removes_is name places db flags are up =
    ap (λ (fs : List Bool). unflagged fs (rows_of name db)) (are ∙ ap (flags_from 0 places) (count_rows name db))
    ∙ removed places (rows_of name db) (ap (λ n. rises 0 n places) (sym (count_rows name db)) ∙ up)

pub sets_is : (name : List ℕ) (names : List (List ℕ)) (places : List ℕ) (cells : List (List Cell)) (db : Db) (flags : List Bool) (sets : List NewCells) → flags ≡ flags_from 0 places (row_count name db)
    → sets ≡ sets_from 0 names cells → are_placed (row_count name db) names places cells ≡ true
    → set_rows sets (columns_of name db) 0 flags (rows_of name db) ≡ rows_with (columns_of name db) names places cells (rows_of name db)
sets_is name names places cells db flags sets are given placed =
    let both = and_parts _ _ placed in
    let first = and_parts _ _ both.0 in
    (λ i. set_rows (given i) (columns_of name db) 0 ((are ∙ ap (flags_from 0 places) (count_rows name db)) i) (rows_of name db))
    ∙ rows_set (columns_of name db) names places cells (rows_of name db) (ap (λ n. rises 0 n places) (sym (count_rows name db)) ∙ first.0) (is_equal _ _ first.1) both.1
