-- The places that are decided on exist, in order.
use Rattle.std.proofs.Common.{◌≡◌, ℕ, suc, ◌+◌, ◌<◌, ◌≤◌, ◌==◌, List, [], ◌∷◌, length, map, filter, drop, Bool, true, false, not, ◌&&◌, cond, nat_lt, Option, refl, ap, sym, ◌∙◌, arith}
use Rattle.std.specs.List.{list_all, enumerate_from}
use Rattle.std.proofs.lemmas.Bool.{and_from}
use Rattle.std.proofs.lemmas.List.{length-map}
use Rattle.cell_core.specs.declared.cell.Cell.{Cell}
use Rattle.cell_core.specs.declared.table.Table.{Table}
use Rattle.sql_tree.specs.Tree.{ExprTree, CondTree}
use Rattle.sql_tree.specs.Tree.StmtTree.{CreateTable, DropTable, AlterTable, InsertInto, DeleteFrom, UpdateTable, Select, ExplainSelect}
use Rattle.sql_definitions.specs.declared.refusal.Refusal.TheVariants.{TextTooLong, NullStored}
use Rattle.sql_definitions.specs.Effect.{is_hit, is_too_long, is_null_refused}
use Rattle.change_plans.specs.declared.decided.Decided.TheVariants.{Refused, Set}
use Rattle.change_plans.specs.Hits.{hit_rows, new_cells}
use Rattle.change_plans.specs.Decisions.{rises, is_in_place, is_any_refused, place_of, decided_update, decided_by}
use Rattle.change_plans.specs.Laws.{DecisionsAreInPlace}
use Rattle.change_plans.proofs.ListedLemmas.{listed_places}
use Rattle.change_plans.proofs.DecideLemmas.{given, names, places, cells, rows_given, places_are, cells_are}

-- ## Numbers

is_same : (a b : ℕ) → a ≡ b → (a == b) ≡ true
is_same a b e = grind arith

not_before : (j k : ℕ) → j ≤ k → not (nat_lt k j) ≡ true
not_before j k few = grind arith

is_below : (k n : ℕ) → k < n → nat_lt k n ≡ true
is_below k n few = grind arith

-- the places of elements that pass
places_rise : {R : Type 0} (hit : R → Bool) (j k n : ℕ) (rows : List R) → j ≤ k → k + length rows ≤ n → rises j n (listed_places hit k rows) ≡ true
places_rise hit j k n [] few room = refl
places_rise {R} hit j k n (row ∷ rows) few room = elim (hit row) as (λ b. rises j n (map (λ (at : ℕ × R). at.0) (cond b ((k, row) ∷ filter (λ (at : ℕ × R). hit at.1) (enumerate_from (k + 1) rows)) (filter (λ (at : ℕ × R). hit at.1) (enumerate_from (k + 1) rows)))) ≡ true) [
  | true ↦ and_from (not (nat_lt k j) && nat_lt k n) (rises (k + 1) n (listed_places hit (k + 1) rows))
      (and_from (not (nat_lt k j)) (nat_lt k n) (not_before j k few) (is_below k n (room_here k n (length rows) room)))
      (places_rise hit (k + 1) (k + 1) n rows (omega arith) (room_on k n (length rows) room))
  | false ↦ places_rise hit j (k + 1) n rows (omega arith) (room_on k n (length rows) room)
]
  where
    room_here : (k n l : ℕ) → k + suc l ≤ n → k < n
    room_here k n l room = omega arith

    room_on : (k n l : ℕ) → k + suc l ≤ n → k + 1 + l ≤ n
    room_on k n l room = omega arith

all_of : {X Y : Type 0} (p : Y → Bool) (f : X → Y) → ((x : X) → p (f x) ≡ true) → (xs : List X) → list_all p (map f xs) ≡ true
all_of p f h [] = refl
all_of p f h (x ∷ xs) = and_from (p (f x)) (list_all p (map f xs)) (h x) (all_of p f h xs)

module _ (table : Table) (sets : List (List ℕ × ExprTree)) (condition : Option CondTree) where
  hits_rise : rises 0 (length table.rows) (places table sets condition) ≡ true
  hits_rise = places_rise (is_hit condition table) 0 0 (length table.rows) table.rows (omega arith) (omega arith)

  one_each : (length (cells table sets condition) == length (places table sets condition)) ≡ true
  one_each =
      is_same _ _
      (length-map (hit_rows condition table) (λ (at : ℕ × List Cell). new_cells sets table at.1) ∙ sym (length-map (hit_rows condition table) (λ (at : ℕ × List Cell). at.0)))

  all_set : list_all (λ (row : List Cell). length row == length (names table sets condition)) (cells table sets condition) ≡ true
  all_set = all_of (λ (row : List Cell). length row == length (names table sets condition)) (λ (at : ℕ × List Cell). new_cells sets table at.1)
      (λ at. is_same _ _ (length-map sets _ ∙ sym (length-map sets _))) (hit_rows condition table)

  set_there : is_in_place (Set (names table sets condition) (places table sets condition) (cells table sets condition)) table ≡ true
  set_there = and_from _ _ (and_from _ _ hits_rise one_each) all_set

  by_refusals : (long null : Bool) → is_in_place (cond long (Refused TextTooLong) (cond null (Refused NullStored) (Set (names table sets condition) (places table sets condition) (cells table sets condition)))) table ≡ true
  by_refusals true null = refl
  by_refusals false true = refl
  by_refusals false false = set_there

pub decisions_are_in_place : DecisionsAreInPlace
decisions_are_in_place (DeleteFrom name condition) table rows w e =
    let g = given table [] condition rows e in
    ap (λ rs. rises 0 (length table.rows) (map place_of rs)) (sym g.are) ∙ ap (rises 0 (length table.rows)) (places_are table [] condition) ∙ hits_rise table [] condition
decisions_are_in_place (UpdateTable name sets condition) table rows w e =
    let g = given table sets condition rows e in
    ap (λ rs. is_in_place (decided_by (UpdateTable name sets condition) table.columns rs) table) (sym g.are)
    ∙ ap (λ ps. is_in_place (decided_update table.columns (names table sets condition) ps (map (drop 1) (rows_given table sets condition))) table) (places_are table sets condition)
    ∙ ap (λ cs. is_in_place (decided_update table.columns (names table sets condition) (places table sets condition) cs) table) (cells_are table sets condition)
    ∙ by_refusals table sets condition (is_any_refused is_too_long table.columns (names table sets condition) (cells table sets condition)) (is_any_refused is_null_refused table.columns (names table sets condition) (cells table sets condition))
decisions_are_in_place (CreateTable name columns) table rows w e = cc
decisions_are_in_place (DropTable name) table rows w e = cc
decisions_are_in_place (AlterTable name column) table rows w e = cc
decisions_are_in_place (InsertInto name listed more) table rows w e = cc
decisions_are_in_place (Select query) table rows w e = cc
decisions_are_in_place (ExplainSelect query) table rows w e = cc
