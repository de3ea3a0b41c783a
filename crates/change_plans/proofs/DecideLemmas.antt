-- What is decided from the rows of a plan leaves of a table what SQL says.
use Rattle.std.proofs.Common.{◌≡◌, ℕ, List, [], ◌∷◌, ◌++◌, length, map, filter, zip, drop, Bool, true, false, not, ◌&&◌, ◌||◌, ◌==◌, cond, Option, Some, None, refl, ap, sym, ◌∙◌}
use Rattle.std.specs.Prelude.{Ok, bytes_eq, find, is_none, unwrap_or}
use Rattle.std.specs.List.{list_any, enumerate_from}
use Rattle.std.specs.Map.{lookup}
use Rattle.std.specs.Option.{option_map_or}
use Rattle.std.proofs.lemmas.Bool.{or_parts}
use Rattle.std.proofs.lemmas.List.{length-map}
use Rattle.cell_core.specs.declared.cell.Cell.{Cell}
use Rattle.cell_core.specs.declared.cell.Cell.TheVariants.{Nil}
use Rattle.cell_core.specs.declared.table.Column.{Column}
use Rattle.cell_core.specs.declared.table.Table.{Table}
use Rattle.pick_laws.proofs.ListLemmas.{map_after, map_agree, any_map, any_same}
use Rattle.sql_tree.specs.Tree.{ExprTree, CondTree, StmtTree}
use Rattle.sql_tree.specs.Tree.StmtTree.{CreateTable, DropTable, AlterTable, InsertInto, DeleteFrom, UpdateTable, Select, ExplainSelect}
use Rattle.sql_definitions.specs.declared.refusal.Refusal.TheVariants.{TextTooLong, NullStored, Overflow}
use Rattle.sql_definitions.specs.Check.{refused_if}
use Rattle.sql_definitions.specs.Values.{value, cell_over, constant_overflows}
use Rattle.sql_definitions.specs.Kept.{cond_overflows}
use Rattle.sql_definitions.specs.Effect.{Change, own_table, is_hit, unless_refused, deleted, updated, updated_row, set_cell, is_too_long, is_null_refused, is_too_long_set, is_null_set, overflows_in, is_any_set}
use Rattle.rows_to_mal.specs.Rows.{condition_of}
use Rattle.rows_to_mal.specs.Writes.{is_write}
use Rattle.change_plans.specs.declared.decided.Decided.{Decided}
use Rattle.change_plans.specs.declared.decided.Decided.TheVariants.{Refused, Gone, Set}
use Rattle.change_plans.specs.Hits.{sets_of, change_of, hit_rows, new_cells, written, overflows_on, rows_written}
use Rattle.change_plans.specs.Decisions.{rows_without, row_with, rows_with, left_by, place_of, is_refused_there, is_row_refused, is_any_refused, decided_update, decided_by}
use Rattle.change_plans.proofs.ListedLemmas.{rows_listed, others_are, found_are}

-- ## Lists

zip_maps : {X Y Z : Type 0} (f : X → Y) (g : X → Z) (xs : List X) → zip (map f xs) (map g xs) ≡ map (λ x. (f x, g x)) xs
zip_maps f g [] = refl
zip_maps f g (x ∷ xs) = ap (λ r. (f x, g x) ∷ r) (zip_maps f g xs)

-- tests that are alike where a third one fails
any_alike : {X : Type 0} (f t u : X → Bool) → ((x : X) → f x ≡ false → t x ≡ u x) → (xs : List X) → list_any f xs ≡ false → list_any t xs ≡ list_any u xs
any_alike f t u h [] e = refl
any_alike f t u h (x ∷ xs) e =
    let parts = or_parts (f x) (list_any f xs) e in
    ap (λ b. b || list_any t xs) (h x parts.0) ∙ ap (λ b. u x || b) (any_alike f t u h xs parts.1)

same_outcome : (xs ys : List (List Cell)) (m n : ℕ) → xs ≡ ys → m ≡ n → (let left : Change = Ok (xs, m) in left) ≡ Ok (ys, n)
same_outcome xs ys m n e f = ap (λ (rows : List (List Cell)). let left : Change = Ok (rows, m) in left) e ∙ ap (λ (k : ℕ). let left : Change = Ok (ys, k) in left) f

module _ (table : Table) (sets : List (List ℕ × ExprTree)) (condition : Option CondTree) where
  abbrev pub hit : List Cell → Bool
  hit = is_hit condition table

  abbrev pub hits : List (ℕ × List Cell)
  hits = hit_rows condition table

  abbrev pub names : List (List ℕ)
  names = map (λ (set : List ℕ × ExprTree). set.0) sets

  abbrev pub places : List ℕ
  places = map (λ (at : ℕ × List Cell). at.0) hits

  -- the new cells of the rows that are hit
  abbrev pub cells : List (List Cell)
  cells = map (λ (at : ℕ × List Cell). new_cells sets table at.1) hits

  abbrev pub rows_given : List (List Cell)
  rows_given = map (written sets table) hits

  pub places_are : map place_of rows_given ≡ places
  places_are = map_after place_of (written sets table) hits

  pub cells_are : map (drop 1) rows_given ≡ cells
  cells_are = map_after (drop 1) (written sets table) hits

  -- how many rows are hit
  count_is : length places ≡ length (filter hit table.rows)
  count_is =
      length-map hits (λ (at : ℕ × List Cell). at.0)
      ∙ sym (length-map hits (λ (at : ℕ × List Cell). at.1))
      ∙ ap (λ (rows : List (List Cell)). length rows) (rows_listed hit 0 table.rows)

  cond_fits : overflows_on sets condition table ≡ false → cond_overflows condition ≡ false
  cond_fits e =
      (or_parts (list_any constant_overflows (map (λ (set : List ℕ × ExprTree). set.1) sets)) (cond_overflows condition)
      (or_parts (list_any constant_overflows (map (λ (set : List ℕ × ExprTree). set.1) sets) || cond_overflows condition) (is_any_set (overflows_in table) sets (filter hit table.rows)) e).0).1

  -- ## DELETE

  gone_are : cond_overflows condition ≡ false → left_by (Gone (map place_of rows_given)) table ≡ deleted condition table
  gone_are e =
      ap (λ ps. left_by (Gone ps) table) places_are
      ∙ same_outcome (rows_without places table.rows) (filter (λ row. not (hit row)) table.rows) (length places) (length (filter hit table.rows)) (others_are hit 0 table.rows) count_is
      ∙ ap (λ b. unless_refused (refused_if b Overflow) (filter (λ row. not (hit row)) table.rows, length (filter hit table.rows))) (sym e)

  -- ## Refusals of UPDATE

  long_in : (row : List Cell) (ss : List (List ℕ × ExprTree)) → list_any (is_too_long_set table row) ss ≡ is_row_refused is_too_long table.columns (map (λ (set : List ℕ × ExprTree). set.0) ss) (new_cells ss table row)
  long_in row [] = refl
  long_in row (set ∷ ss) = ap (λ b. is_too_long_set table row set || b) (long_in row ss)

  null_there : (name : List ℕ) (o : Option Cell) → is_none o ≡ false
      → list_any (λ (column : Column). bytes_eq column.name name && option_map_or (is_null_refused column) o false) table.columns ≡ is_refused_there is_null_refused table.columns (name, unwrap_or o Nil)
  null_there name None e = cc
  null_there name (Some cell) e = refl

  null_in : (row : List Cell) (ss : List (List ℕ × ExprTree)) → list_any (overflows_in table row) ss ≡ false
      → list_any (is_null_set table row) ss ≡ is_row_refused is_null_refused table.columns (map (λ (set : List ℕ × ExprTree). set.0) ss) (new_cells ss table row)
  null_in row [] e = refl
  null_in row (set ∷ ss) e =
      let parts = or_parts (overflows_in table row set) (list_any (overflows_in table row) ss) e in
      ap (λ b. b || list_any (is_null_set table row) ss) (null_there set.0 (value (own_table table) (row ∷ []) set.1) parts.0)
      ∙ ap (λ b. is_refused_there is_null_refused table.columns (set.0, cell_over (own_table table) (row ∷ []) set.1) || b) (null_in row ss parts.1)

  -- a test of the hit rows is one of the rows with their places
  any_hit : (test : List Cell → List ℕ × ExprTree → Bool) → is_any_set test sets (filter hit table.rows) ≡ list_any (λ (at : ℕ × List Cell). list_any (test at.1) sets) hits
  any_hit test = ap (is_any_set test sets) (sym (rows_listed hit 0 table.rows)) ∙ sym (any_map (λ row. list_any (test row) sets) (λ (at : ℕ × List Cell). at.1) hits)

  long_is : is_any_set (is_too_long_set table) sets (filter hit table.rows) ≡ is_any_refused is_too_long table.columns names cells
  long_is =
      any_hit (is_too_long_set table)
      ∙ any_same (λ (at : ℕ × List Cell). list_any (is_too_long_set table at.1) sets) (λ (at : ℕ × List Cell). is_row_refused is_too_long table.columns names (new_cells sets table at.1)) (λ at. long_in at.1 sets) hits
      ∙ any_map (is_row_refused is_too_long table.columns names) (λ (at : ℕ × List Cell). new_cells sets table at.1) hits

  null_is : is_any_set (overflows_in table) sets (filter hit table.rows) ≡ false → is_any_set (is_null_set table) sets (filter hit table.rows) ≡ is_any_refused is_null_refused table.columns names cells
  null_is e =
      any_hit (is_null_set table)
      ∙ any_alike (λ (at : ℕ × List Cell). list_any (overflows_in table at.1) sets) (λ (at : ℕ × List Cell). list_any (is_null_set table at.1) sets) (λ (at : ℕ × List Cell). is_row_refused is_null_refused table.columns names (new_cells sets table at.1))
      (λ at f. null_in at.1 sets f) hits (sym (any_hit (overflows_in table)) ∙ e)
      ∙ any_map (is_row_refused is_null_refused table.columns names) (λ (at : ℕ × List Cell). new_cells sets table at.1) hits

  -- ## Rows of UPDATE

  cell_is : (row : List Cell) (column : Column) (old : Cell) (ss : List (List ℕ × ExprTree))
      → unwrap_or (lookup (λ name. bytes_eq name column.name) (zip (map (λ (set : List ℕ × ExprTree). set.0) ss) (new_cells ss table row))) old
      ≡ set_cell (own_table table) row (find (λ (set : List ℕ × ExprTree). bytes_eq set.0 column.name) ss) old
  cell_is row column old [] = refl
  cell_is row column old (set ∷ ss) = elim (bytes_eq set.0 column.name) as (λ b. unwrap_or (cond b (Some (cell_over (own_table table) (row ∷ []) set.1)) (lookup (λ name. bytes_eq name column.name) (zip (map (λ (set : List ℕ × ExprTree). set.0) ss) (new_cells ss table row)))) old
      ≡ set_cell (own_table table) row (cond b (Some set) (find (λ (set : List ℕ × ExprTree). bytes_eq set.0 column.name) ss)) old) [
        | true ↦ refl
        | false ↦ cell_is row column old ss
      ]

  row_is : (row : List Cell) → row_with table.columns names (new_cells sets table row) row ≡ updated_row sets table row
  row_is row = map_agree (λ (at : Column × Cell). unwrap_or (lookup (λ name. bytes_eq name at.0.name) (zip names (new_cells sets table row))) at.1)
      (λ (at : Column × Cell). set_cell (own_table table) row (find (λ (set : List ℕ × ExprTree). bytes_eq set.0 at.0.name) sets) at.1) (λ at. cell_is row at.0 at.1 sets) (zip table.columns row)

  -- a row with what is found for it
  abbrev row_found : Option (List Cell) → List Cell → List Cell
  row_found o row = option_map_or (λ new. row_with table.columns names new row) o row

  found_is : (row : List Cell) (b : Bool) → row_found (cond b (Some (new_cells sets table row)) None) row ≡ cond b (updated_row sets table row) row
  found_is row true = row_is row
  found_is row false = refl

  rows_are : rows_with table.columns names places cells table.rows ≡ map (λ row. cond (hit row) (updated_row sets table row) row) table.rows
  rows_are =
      ap (λ es. map (λ (at : ℕ × List Cell). row_found (lookup (λ place. place == at.0) es) at.1) (enumerate_from 0 table.rows)) (zip_maps (λ (at : ℕ × List Cell). at.0) (λ (at : ℕ × List Cell). new_cells sets table at.1) hits)
      ∙ found_are hit (new_cells sets table) row_found 0 table.rows
      ∙ map_agree (λ row. row_found (cond (hit row) (Some (new_cells sets table row)) None) row) (λ row. cond (hit row) (updated_row sets table row) row) (λ row. found_is row (hit row)) table.rows

  -- ## UPDATE

  abbrev decided_if : Bool → Bool → Decided
  decided_if long null = cond long (Refused TextTooLong) (cond null (Refused NullStored) (Set names places cells))

  abbrev changed_if : Bool → Bool → Bool → Change
  changed_if long null over =
      unless_refused (refused_if long TextTooLong ++ refused_if null NullStored ++ refused_if over Overflow)
      (map (λ row. cond (hit row) (updated_row sets table row) row) table.rows, length (filter hit table.rows))

  by_refusals : (long null : Bool) → left_by (decided_if long null) table ≡ changed_if long null false
  by_refusals true null = refl
  by_refusals false true = refl
  by_refusals false false = same_outcome (rows_with table.columns names places cells table.rows) (map (λ row. cond (hit row) (updated_row sets table row) row) table.rows) (length places) (length (filter hit table.rows)) rows_are count_is

  set_are : overflows_on sets condition table ≡ false → left_by (decided_update table.columns names (map place_of rows_given) (map (drop 1) rows_given)) table ≡ updated sets condition table
  set_are e =
      ap (λ ps. left_by (decided_update table.columns names ps (map (drop 1) rows_given)) table) places_are
      ∙ ap (λ cs. left_by (decided_update table.columns names places cs) table) cells_are
      ∙ by_refusals (is_any_refused is_too_long table.columns names cells) (is_any_refused is_null_refused table.columns names cells)
      ∙ ap (λ b. changed_if b (is_any_refused is_null_refused table.columns names cells) false) (sym long_is)
      ∙ ap (λ b. changed_if (is_any_set (is_too_long_set table) sets (filter hit table.rows)) b false) (sym (null_is (or_parts _ _ e).1))
      ∙ ap (changed_if (is_any_set (is_too_long_set table) sets (filter hit table.rows)) (is_any_set (is_null_set table) sets (filter hit table.rows))) (sym e)

  -- what is known where the plan has these rows
  pub record Given (rows : List (List Cell)) : Type 0 where
    pub fits : overflows_on sets condition table ≡ false
    pub are : rows_given ≡ rows

  pub given : (rows : List (List Cell)) → rows_written sets condition table ≡ Some rows → Given rows
  given rows e = by_case (overflows_on sets condition table) refl e
    where
      by_case : (b : Bool) → overflows_on sets condition table ≡ b → cond b None (Some rows_given) ≡ Some rows → Given rows
      by_case true f g = cc
      by_case false f g = record { fits = f; are = cc }

-- what the rows of a plan decide leaves of the table what SQL says of the statement
pub decisions_are_meant : (stmt : StmtTree) (table : Table) (rows : List (List Cell)) → is_write stmt ≡ true → rows_written (sets_of stmt) (condition_of stmt) table ≡ Some rows
    → left_by (decided_by stmt table.columns rows) table ≡ change_of stmt table
decisions_are_meant (DeleteFrom name condition) table rows w e =
    let g = given table [] condition rows e in
    ap (λ rs. left_by (Gone (map place_of rs)) table) (sym g.are) ∙ gone_are table [] condition (cond_fits table [] condition g.fits)
decisions_are_meant (UpdateTable name sets condition) table rows w e =
    let g = given table sets condition rows e in
    ap (λ rs. left_by (decided_by (UpdateTable name sets condition) table.columns rs) table) (sym g.are) ∙ set_are table sets condition g.fits
decisions_are_meant (CreateTable name columns) table rows w e = cc
decisions_are_meant (DropTable name) table rows w e = cc
decisions_are_meant (AlterTable name column) table rows w e = cc
decisions_are_meant (InsertInto name listed more) table rows w e = cc
decisions_are_meant (Select query) table rows w e = cc
decisions_are_meant (ExplainSelect query) table rows w e = cc
