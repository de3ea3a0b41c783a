-- Plans are what INSERT, DELETE and UPDATE mean.
use Rattle.std.proofs.Common.{◌≡◌, ℕ, ◌+◌, List, [], ◌∷◌, ◌++◌, map, filter, length, Bool, true, false, not, ◌&&◌, ◌||◌, if◌then◌else◌, cond, refl, ap, sym, ◌∙◌, Option, Some, None}
use Rattle.std.specs.Prelude.{codes, ◌==◌, nat_lt, slice_get, Ok, Err}
use Rattle.std.specs.List.{list_any}
use Rattle.std.proofs.lemmas.List.{length-map, map-id}
use Rattle.cell_core.specs.declared.cell.Cell.{Cell}
use Rattle.cell_core.specs.declared.table.Column.{Column}
use Rattle.cell_core.specs.declared.table.Table.{Table}
use Rattle.sql_tree.specs.Tree.{ExprTree, CondTree}
use Rattle.sql_definitions.specs.declared.refusal.Refusal.{Refusal}
use Rattle.sql_definitions.specs.declared.refusal.Refusal.TheVariants.{TextTooLong, NullStored, Overflow, Limit}
use Rattle.sql_definitions.specs.Check.{refused_if, targets}
use Rattle.sql_definitions.specs.Kept.{cond_overflows}
use Rattle.sql_definitions.specs.Effect.{Change, unless_refused, is_hit, deleted, updated, updated_row, inserted, placed, is_too_long_row, is_null_row, is_too_long_set, is_null_set, overflows_in, is_any_set, row_limit}
use Rattle.sql_changes.specs.declared.fate.Fate.{Fate}
use Rattle.sql_changes.specs.declared.fate.Fate.TheVariants.{Stays, Goes, Becomes}
use Rattle.sql_changes.specs.declared.plan.Work.TheVariants.{Settles}
use Rattle.sql_changes.specs.declared.plan.PlannedChange.TheVariants.{Refused, Accepted}
use Rattle.sql_changes.specs.Added.{added_rows, added_to, by_name}
use Rattle.sql_changes.specs.declared.insert.AddedRows.{AddedRows}
use Rattle.sql_changes.specs.Plans.{change_of}
use Rattle.sql_changes.specs.Faults.{in_turn}
use Rattle.sql_changes.specs.Parts.{is_true_of, deleted_fate, updated_fate, constants_overflow, update_refusal, insert_refusal}
use Rattle.sql_changes.proofs.RefusalLemmas.{first_is, third_not, refused_as, accepted_as}
use Rattle.sql_changes.proofs.FateLemmas.{gone, become, touched_hits}

-- an accepted change, by the rows that it leaves and how many it touches
abbrev accepted_with : List (List Cell) → ℕ → Change
accepted_with rows n = Ok (rows, n)

both_same : (rows others : List (List Cell)) (n m : ℕ) → rows ≡ others → n ≡ m → accepted_with rows n ≡ accepted_with others m
both_same rows others n m e f = ap (λ l. accepted_with l n) e ∙ ap (λ k. accepted_with others k) f

-- ## Refusals in their order

not_middle : (a b c : Bool) → (a || b || c) ≡ false → b ≡ false
not_middle true b c e = cc
not_middle false true c e = cc
not_middle false false c e = refl

-- ## Hits

hits_by : (o : Bool) (true_of : List Cell → Bool) (rows : List (List Cell)) → o ≡ false → filter true_of rows ≡ filter (λ row. not o && true_of row) rows
hits_by true true_of rows e = cc
hits_by false true_of rows e = refl

no_hits_by : (o : Bool) (true_of : List Cell → Bool) (rows : List (List Cell)) → o ≡ true → [] ≡ filter (λ row. not o && true_of row) rows
no_hits_by o true_of [] e = refl
no_hits_by true true_of (row ∷ rows) e = no_hits_by true true_of rows e
no_hits_by false true_of (row ∷ rows) e = cc

-- where the condition doesn't overflow, the hits are the rows of which it is true
pub hits_are : (c : Option CondTree) (table : Table) → cond_overflows c ≡ false → filter (is_true_of c table) table.rows ≡ filter (is_hit c table) table.rows
hits_are c table e = hits_by (cond_overflows c) (is_true_of c table) table.rows e

-- and where it does, there are none
pub no_hits : (c : Option CondTree) (table : Table) → cond_overflows c ≡ true → [] ≡ filter (is_hit c table) table.rows
no_hits c table e = no_hits_by (cond_overflows c) (is_true_of c table) table.rows e

-- ## DELETE

deleted_by : (o : Bool) (hit : List Cell → Bool) (rows : List (List Cell)) → o ≡ false
    → change_of (Accepted (Settles (map (λ row. cond (hit row) Goes Stays) rows))) rows
    ≡ unless_refused (refused_if o Overflow) (filter (λ row. not (not o && hit row)) rows, length (filter (λ row. not o && hit row) rows))
deleted_by true hit rows e = cc
deleted_by false hit rows e = both_same _ _ _ _ (gone hit rows) (touched_hits hit (λ row. Goes) (λ row. refl) rows)

pub deleted_is : (c : Option CondTree) (table : Table) (fates : List Fate) → cond_overflows c ≡ false → fates ≡ map (deleted_fate c table) table.rows
    → change_of (Accepted (Settles fates)) table.rows ≡ deleted c table
deleted_is c table fates fits e =
    ap (λ (l : List Fate). change_of (Accepted (Settles l)) table.rows) e ∙ deleted_by (cond_overflows c) (is_true_of c table) table.rows fits

deleted_not_by : (o : Bool) (outcome : List (List Cell) × ℕ) → o ≡ true → unless_refused (Overflow ∷ []) outcome ≡ unless_refused (refused_if o Overflow) outcome
deleted_not_by true outcome e = refl
deleted_not_by false outcome e = cc

pub deleted_not : (c : Option CondTree) (table : Table) → cond_overflows c ≡ true → change_of (Refused Overflow) table.rows ≡ deleted c table
deleted_not c table e = deleted_not_by (cond_overflows c) _ e

-- ## UPDATE

abbrev Updated : List (List ℕ × ExprTree) → Option CondTree → Table → List (List Cell) × ℕ
Updated sets c table = (map (λ row. cond (is_hit c table row) (updated_row sets table row) row) table.rows, length (filter (is_hit c table) table.rows))

abbrev update_list : List (List ℕ × ExprTree) → Option CondTree → Table → List (List Cell) → List Refusal
update_list sets c table rows =
    in_turn (is_any_set (is_too_long_set table) sets rows) TextTooLong (is_any_set (is_null_set table) sets rows) NullStored
    (constants_overflow sets c || is_any_set (overflows_in table) sets rows) Overflow

update_first : (sets : List (List ℕ × ExprTree)) (c : Option CondTree) (table : Table) (rows : List (List Cell)) → rows ≡ filter (is_hit c table) table.rows
    → update_refusal sets c table rows ≡ slice_get (update_list sets c table (filter (is_hit c table) table.rows)) 0
update_first sets c table rows is =
    first_is (is_any_set (is_too_long_set table) sets rows) (is_any_set (is_null_set table) sets rows) (constants_overflow sets c || is_any_set (overflows_in table) sets rows)
    TextTooLong NullStored Overflow
    ∙ ap (λ (l : List (List Cell)). slice_get (update_list sets c table l) 0) is

pub updated_not : (sets : List (List ℕ × ExprTree)) (c : Option CondTree) (table : Table) (rows : List (List Cell)) (found : Refusal)
    → rows ≡ filter (is_hit c table) table.rows → Some found ≡ update_refusal sets c table rows → change_of (Refused found) table.rows ≡ updated sets c table
updated_not sets c table rows found is e = sym (refused_as (update_list sets c table (filter (is_hit c table) table.rows)) (Updated sets c table) found (e ∙ update_first sets c table rows is))

updated_by : (o : Bool) (hit : List Cell → Bool) (new : List Cell → List Cell) (rows : List (List Cell)) → o ≡ false
    → change_of (Accepted (Settles (map (λ row. cond (hit row) (Becomes (new row)) Stays) rows))) rows
    ≡ accepted_with (map (λ row. cond (not o && hit row) (new row) row) rows) (length (filter (λ row. not o && hit row) rows))
updated_by true hit new rows e = cc
updated_by false hit new rows e = both_same _ _ _ _ (become hit new rows) (touched_hits hit (λ row. Becomes (new row)) (λ row. refl) rows)

pub updated_is : (sets : List (List ℕ × ExprTree)) (c : Option CondTree) (table : Table) (rows : List (List Cell)) (fates : List Fate)
    → rows ≡ filter (is_hit c table) table.rows → None ≡ update_refusal sets c table rows → fates ≡ map (updated_fate sets c table) table.rows
    → change_of (Accepted (Settles fates)) table.rows ≡ updated sets c table
updated_is sets c table rows fates is none e =
    let fits : cond_overflows c ≡ false = not_middle _ (cond_overflows c) _ (third_not _ _ _ TextTooLong NullStored Overflow none) in
    ap (λ (l : List Fate). change_of (Accepted (Settles l)) table.rows) e
    ∙ updated_by (cond_overflows c) (is_true_of c table) (updated_row sets table) table.rows fits
    ∙ sym (accepted_as (update_list sets c table (filter (is_hit c table) table.rows)) (Updated sets c table) (none ∙ update_first sets c table rows is))

-- ## INSERT

abbrev insert_list : List Column → List (List Cell) → List (List Cell) → List Column → ℕ → List Refusal
insert_list found rows more columns count =
    in_turn (list_any (is_too_long_row found) rows) TextTooLong (list_any (is_null_row columns) more) NullStored (nat_lt row_limit (count + length rows)) (Limit (codes "rows"))

module _ (listed : List (List ℕ)) (rows : List (List Cell)) (columns : List Column) (count : ℕ) where
  abbrev placed_here : List (List Cell)
  placed_here = map (placed columns listed) rows

  abbrev refusals_here : List Refusal
  refusals_here = insert_list (targets columns listed) rows placed_here columns count

  -- what an INSERT leaves of a table with these columns and so many rows
  inserted_here : (table : Table) → table.columns ≡ columns → length table.rows ≡ count → inserted listed rows table ≡ unless_refused refusals_here (table.rows ++ placed_here, length rows)
  inserted_here table e f =
      ap (λ (cs : List Column). unless_refused (insert_list (targets cs listed) rows (map (placed cs listed) rows) cs (length table.rows)) (table.rows ++ map (placed cs listed) rows, length rows)) e
      ∙ ap (λ n. unless_refused (insert_list (targets columns listed) rows placed_here columns n) (table.rows ++ placed_here, length rows)) f

  insert_first : (found : List Column) (more : List (List Cell)) → found ≡ targets columns listed → more ≡ placed_here → insert_refusal found rows more columns count ≡ slice_get refusals_here 0
  insert_first found more is m =
      first_is (list_any (is_too_long_row found) rows) (list_any (is_null_row columns) more) (nat_lt row_limit (count + length rows)) TextTooLong NullStored (Limit (codes "rows"))
      ∙ ap (λ (l : List Column). slice_get (insert_list l rows more columns count) 0) is
      ∙ ap (λ (l : List (List Cell)). slice_get (insert_list (targets columns listed) rows l columns count) 0) m

  pub inserted_not : (found : List Column) (more : List (List Cell)) (refusal : Refusal) → found ≡ targets columns listed → more ≡ placed_here → Some refusal ≡ insert_refusal found rows more columns count
      → (table : Table) → table.columns ≡ columns → length table.rows ≡ count → added_to table (Err refusal) ≡ inserted listed rows table
  inserted_not found more refusal is m e table f g =
      sym (inserted_here table f g ∙ refused_as refusals_here (table.rows ++ placed_here, length rows) refusal (e ∙ insert_first found more is m))

  pub inserted_is : (found : List Column) (added : AddedRows) → found ≡ targets columns listed → added_rows added ≡ placed_here → None ≡ insert_refusal found rows (added_rows added) columns count
      → (table : Table) → table.columns ≡ columns → length table.rows ≡ count → added_to table (Ok added) ≡ inserted listed rows table
  inserted_is found added is m none table f g =
      both_same _ _ _ _ (ap (λ l. table.rows ++ l) m) (ap (λ (l : List (List Cell)). length l) m ∙ length-map rows (placed columns listed))
      ∙ sym (inserted_here table f g ∙ accepted_as refusals_here (table.rows ++ placed_here, length rows) (none ∙ insert_first found (added_rows added) is m))

-- where no columns are listed each row is placed as it is, and else by the names of the columns
rows_by : (b : Bool) (by : List Cell → List Cell) (rows : List (List Cell)) → map (λ row. if b then row else by row) rows ≡ (if b then rows else map by rows)
rows_by true by rows = map-id rows
rows_by false by rows = refl

pub placed_are : (columns : List Column) (listed : List (List ℕ)) (rows : List (List Cell)) → map (placed columns listed) rows ≡ (if length listed == 0 then rows else map (by_name columns listed) rows)
placed_are columns listed rows = rows_by (length listed == 0) (by_name columns listed) rows
