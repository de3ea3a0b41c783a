-- What the fates of a DELETE or an UPDATE leave of rows.
use Rattle.std.proofs.Common.{◌≡◌, suc, List, [], ◌∷◌, ◌++◌, map, filter, length, Bool, true, false, not, cond, drop, refl, ap, sym, ◌∙◌, arith, append-nil}
use Rattle.std.specs.Option.{option_to_list}
use Rattle.std.specs.List.{count_by}
use Rattle.std.proofs.lemmas.List.Sums.{length-filter}
use Rattle.cell_core.specs.declared.cell.Cell.{Cell}
use Rattle.sql_changes.specs.declared.fate.Fate.{Fate}
use Rattle.sql_changes.specs.declared.fate.Fate.TheVariants.{Stays, Goes, Becomes}
use Rattle.sql_changes.specs.Fates.{is_touched, left_of, settled}

-- ## Rows that go

gone_here : (b : Bool) (row : List Cell) (xs ys : List (List Cell)) → xs ≡ ys
    → option_to_list (left_of (cond b Goes Stays) row) ++ xs ≡ cond (not b) (row ∷ ys) ys
gone_here true row xs ys e = e
gone_here false row xs ys e = ap (λ l. row ∷ l) e

-- the rows that don't go are those that are left
pub gone : (hit : List Cell → Bool) (rows : List (List Cell))
    → settled (map (λ row. cond (hit row) Goes Stays) rows) rows ≡ filter (λ row. not (hit row)) rows
gone hit [] = refl
gone hit (row ∷ rows) = gone_here (hit row) row _ _ (gone hit rows)

-- ## Rows that become others

changed_here : (b : Bool) (row other : List Cell) (xs ys : List (List Cell)) → xs ≡ ys
    → option_to_list (left_of (cond b (Becomes other) Stays) row) ++ xs ≡ cond b other row ∷ ys
changed_here true row other xs ys e = ap (λ l. other ∷ l) e
changed_here false row other xs ys e = ap (λ l. row ∷ l) e

-- each row that becomes another one is replaced by it
pub become : (hit : List Cell → Bool) (new : List Cell → List Cell) (rows : List (List Cell))
    → settled (map (λ row. cond (hit row) (Becomes (new row)) Stays) rows) rows ≡ map (λ row. cond (hit row) (new row) row) rows
become hit new [] = refl
become hit new (row ∷ rows) = changed_here (hit row) row (new row) _ _ (become hit new rows)

-- ## How many

touched_here : (b : Bool) (fate : Fate) (row : List Cell) (xs : List Fate) (ys : List (List Cell)) → is_touched fate ≡ true → length xs ≡ length ys
    → length (cond (is_touched (cond b fate Stays)) (cond b fate Stays ∷ xs) xs) ≡ length (cond b (row ∷ ys) ys)
touched_here true fate row xs ys is e = ap (λ t. length (cond t (fate ∷ xs) xs)) is ∙ ap (λ n. suc n) e
touched_here false fate row xs ys is e = e

touched_all : (hit : List Cell → Bool) (fate : List Cell → Fate) → ((row : List Cell) → is_touched (fate row) ≡ true) → (rows : List (List Cell))
    → length (filter is_touched (map (λ row. cond (hit row) (fate row) Stays) rows)) ≡ length (filter hit rows)
touched_all hit fate is [] = refl
touched_all hit fate is (row ∷ rows) = touched_here (hit row) (fate row) row _ _ (is row) (touched_all hit fate is rows)

-- the rows that are touched are those that are hit
pub touched_hits : (hit : List Cell → Bool) (fate : List Cell → Fate) → ((row : List Cell) → is_touched (fate row) ≡ true) → (rows : List (List Cell))
    → count_by is_touched (map (λ row. cond (hit row) (fate row) Stays) rows) ≡ length (filter hit rows)
touched_hits hit fate is rows =
    sym (length-filter is_touched (map (λ row. cond (hit row) (fate row) Stays) rows)) ∙ touched_all hit fate is rows

-- ## The last row

no_rest : (rows rest : List (List Cell)) → rows ≡ rest → rest ≡ drop 1 rows → rows ≡ []
no_rest [] rest e f = refl
no_rest (row ∷ rows) rest e f =
    let same : length (row ∷ rows) ≡ length rows = ap (λ (l : List (List Cell)). length l) (e ∙ f) in absurd (omega arith)

nothing_left : (fates : List Fate) → settled fates [] ≡ []
nothing_left [] = refl
nothing_left (fate ∷ fates) = refl

-- where no row is ahead, what is kept is all that is left
pub all_settled : (fates : List Fate) (rows rest kept all : List (List Cell)) → rows ≡ rest → rest ≡ drop 1 rows
    → kept ++ settled fates rows ≡ all → kept ≡ all
all_settled fates rows rest kept all e f made =
    sym (append-nil kept) ∙ ap (λ l. kept ++ l) (sym (nothing_left fates))
    ∙ ap (λ (l : List (List Cell)). kept ++ settled fates l) (sym (no_rest rows rest e f)) ∙ made
