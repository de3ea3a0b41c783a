-- A plan is what the function returns, and what it leaves.
use Rattle.std.proofs.Common.{◌≡◌, ℕ, zero, suc, ◌+◌, ◌-◌, ◌≤◌, List, [], ◌∷◌, Bool, true, false, not, ◌&&◌, ◌||◌, cond, Option, Some, None, inl, inr, refl, ap, sym, ◌∙◌, subst, arith, length}
use Rattle.std.specs.Prelude.{filter, ◌==◌, count_by, sum_by}
use Rattle.std.specs.Cmp.{first_so, second_so}
use Rattle.std.proofs.lemmas.Bool.Decides.{Decides-eqb}
use Rattle.std.proofs.lemmas.List.Sums.{sum_by-cons}
use Rattle.score_hook.specs.declared.stats.Stats.{Stats}
use Rattle.score_hook.specs.declared.stats.Score.{Score}
use Rattle.subsume.proofs.Members.{In, in_from_contains, contains_from_in, filter_in}
use Rattle.subsume.proofs.LeastFirst.{first_in}
use Rattle.evict_admit.specs.declared.plan.Row.{Row}
use Rattle.evict_admit.specs.Evictions.{GivesUp, is_parent, can_go, goes_before, is_enough, next_of, without}
use Rattle.evict_admit.specs.Runs.{Run, run_step, run_of, given_up, is_one_of, left, row_bytes, LeavesWhole, RunsAreFunctions}
use Rattle.evict_admit.proofs.Plans.{none_left, shorter}

module _ {X : Type 0} where
  keep_all : (p : X → Bool) (xs : List X) → ((x : X) → p x ≡ true) → filter p xs ≡ xs
  keep_all p [] h = refl
  keep_all p (x ∷ xs) h = ap (λ b. cond b (x ∷ filter p xs) (filter p xs)) (h x) ∙ ap (λ ys. x ∷ ys) (keep_all p xs h)

  filter_twice : (p q r : X → Bool) (xs : List X) → ((x : X) → r x ≡ (q x && p x)) → filter r xs ≡ filter p (filter q xs)
  filter_twice p q r [] h = refl
  filter_twice p q r (x ∷ xs) h = ap (λ b. cond b (x ∷ filter r xs) (filter r xs)) (h x) ∙ elim (q x) as (λ b. cond (b && p x) (x ∷ filter r xs) (filter r xs) ≡ filter p (cond b (x ∷ filter q xs) (filter q xs))) [
    | true ↦ ap (λ ys. cond (p x) (x ∷ ys) ys) (filter_twice p q r xs h)
    | false ↦ filter_twice p q r xs h
  ]

  sum_keeps : (f : X → ℕ) (p : X → Bool) (xs : List X) → sum_by f (filter p xs) ≤ sum_by f xs
  sum_keeps f p [] = omega arith
  sum_keeps f p (x ∷ xs) =
      let rest = sum_keeps f p xs in
      let all = sum_by-cons f x xs in
      elim (p x) as (λ b. sum_by f (cond b (x ∷ filter p xs) (filter p xs)) ≤ sum_by f (x ∷ xs)) [
        | true ↦ let one = sum_by-cons f x (filter p xs) in omega (arith, rest, all, one)
        | false ↦ omega (arith, rest, all)
      ]

-- what goes next is one of the rows, and may go
next_in : (score : Stats → Score) (rows : List Row) (row : Row) → next_of score rows ≡ Some row → In row rows × (can_go rows row ≡ true)
next_in score rows row e = filter_in (can_go rows) rows row (first_in (goes_before score) (filter (can_go rows) rows) row e)

-- ## The run is the function

abbrev one_more : ℕ → Run → Run
one_more id r = (id ∷ r.0, r.1)

gives_is : (ids : List ℕ) (n : ℕ) (score : Stats → Score) (rows : List Row) (bytes places : ℕ) (enough : Bool) → length rows ≤ n → GivesUp score rows bytes places ids enough → run_of n score rows bytes places ≡ (ids, enough)
gives_is [] zero score rows bytes places enough few known = ap (λ b. ([], b)) (sym known.0)
gives_is [] (suc n) score rows bytes places enough few known =
    ends (is_enough bytes places) (next_of score rows) (λ (row : Row). run_of n score (without row.id rows) (bytes - row.bytes) (places - 1)) enough known.0 known.1
  where
    ends : (b : Bool) (o : Option Row) (more : Row → Run) (enough : Bool) → enough ≡ b → (enough ≡ false → o ≡ None) → run_step b o more ≡ ([], enough)
    ends true o more enough e h = ap (λ b. ([], b)) (sym e)
    ends false o more enough e h = ap (λ o. run_step false o more) (h e) ∙ ap (λ b. ([], b)) (sym e)
gives_is (id ∷ ids) zero score rows bytes places enough few known =
    let none : next_of score rows ≡ None = none_left score rows few in
    let some : next_of score rows ≡ Some known.1.0 = known.1.1 in cc
gives_is (id ∷ ids) (suc n) score rows bytes places enough few known =
    let row = known.1.0 in
    let more : Row → Run = λ (row : Row). run_of n score (without row.id rows) (bytes - row.bytes) (places - 1) in
    let here = (next_in score rows row known.1.1).0 in
    let fewer : length (without row.id rows) + 1 ≤ length rows = shorter rows row (here) in
    let few_left : length (without id rows) ≤ n = subst (λ i. length (without i rows) ≤ n) known.1.2 (omega arith) in
    let rest : run_of n score (without id rows) (bytes - row.bytes) (places - 1) ≡ (ids, enough) = gives_is ids n score (without id rows) (bytes - row.bytes) (places - 1) enough few_left known.1.3 in
    let rest_row : more row ≡ (ids, enough) = ap (λ i. run_of n score (without i rows) (bytes - row.bytes) (places - 1)) known.1.2 ∙ rest in
    ap (λ b. run_step b (next_of score rows) more) known.0
    ∙ ap (λ o. run_step false o more) known.1.1
    ∙ ap (one_more row.id) rest_row
    ∙ ap (λ i. one_more i (ids, enough)) known.1.2

-- a plan that gives up these ids is the answer of the function
given_up_is : (ids : List ℕ) (score : Stats → Score) (rows : List Row) (bytes places : ℕ) (enough : Bool) → GivesUp score rows bytes places ids enough → given_up score rows bytes places ≡ (ids, enough)
given_up_is ids score rows bytes places enough known = gives_is ids (length rows) score rows bytes places enough (omega arith) known

-- the function's answer is a run
runs_step : (score : Stats → Score) (rows : List Row) (bytes places : ℕ) (more : Row → Run) → (b : Bool) → is_enough bytes places ≡ b → (o : Option Row) → next_of score rows ≡ o
    → ((row : Row) → o ≡ Some row → GivesUp score (without row.id rows) (bytes - row.bytes) (places - 1) (more row).0 (more row).1)
    → GivesUp score rows bytes places (run_step b o more).0 (run_step b o more).1
runs_step score rows bytes places more true e o is rest = (sym e, λ h. let wrong : true ≡ false = h in cc)
runs_step score rows bytes places more false e None is rest = (sym e, λ _. is)
runs_step score rows bytes places more false e (Some row) is rest = (e, (row, is, refl, rest row refl))

run_gives : (n : ℕ) (score : Stats → Score) (rows : List Row) (bytes places : ℕ) → length rows ≤ n → GivesUp score rows bytes places (run_of n score rows bytes places).0 (run_of n score rows bytes places).1
run_gives zero score rows bytes places few = (refl, λ _. none_left score rows few)
run_gives (suc n) score rows bytes places few =
    runs_step score rows bytes places (λ (row : Row). run_of n score (without row.id rows) (bytes - row.bytes) (places - 1)) (is_enough bytes places) refl (next_of score rows) refl
    (λ row is. let fewer : length (without row.id rows) + 1 ≤ length rows = shorter rows row (next_in score rows row is).0 in
    run_gives n score (without row.id rows) (bytes - row.bytes) (places - 1) (omega arith))

-- ## What is left

left_none : (rows : List Row) → left [] rows ≡ rows
left_none rows = keep_all (λ (row : Row). not (is_one_of [] row.id)) rows (λ row. refl)

left_more : (id : ℕ) (ids : List ℕ) (rows : List Row) → left (id ∷ ids) rows ≡ left ids (without id rows)
left_more id ids rows = filter_twice (λ (row : Row). not (is_one_of ids row.id)) (λ (row : Row). not (row.id == id)) (λ (row : Row). not (is_one_of (id ∷ ids) row.id)) rows (λ row. nor (row.id == id) (is_one_of ids row.id))
  where
    nor : (a b : Bool) → not (a || b) ≡ (not a && not b)
    nor true b = refl
    nor false b = refl

without_in : (rows : List Row) (row : Row) → In row rows → row.bytes + row_bytes (without row.id rows) ≤ row_bytes rows
without_in [] row h = absurd h
without_in (x ∷ xs) row (inl e) =
    let here : (x.id == row.id) ≡ true = (Decides-eqb x.id row.id).1 (ap (λ (r : Row). r.id) (sym e)) in
    let same : row_bytes (without row.id (x ∷ xs)) ≡ row_bytes (without row.id xs) = ap (λ b. row_bytes (cond (not b) (x ∷ without row.id xs) (without row.id xs))) here in
    let rest = sum_keeps (λ (r : Row). r.bytes) (λ (r : Row). not (r.id == row.id)) xs in
    let all = sum_by-cons (λ (r : Row). r.bytes) x xs in
    let is : row.bytes ≡ x.bytes = ap (λ (r : Row). r.bytes) e in
    omega (arith, same, rest, all, is)
without_in (x ∷ xs) row (inr h) =
    let rest = without_in xs row h in
    let all = sum_by-cons (λ (r : Row). r.bytes) x xs in
    elim (x.id == row.id) as (λ b. row.bytes + row_bytes (cond (not b) (x ∷ without row.id xs) (without row.id xs)) ≤ row_bytes (x ∷ xs)) [
      | true ↦ omega (arith, rest, all)
      | false ↦ let one = sum_by-cons (λ (r : Row). r.bytes) x (without row.id xs) in omega (arith, rest, all, one)
    ]

enough_is : (bytes places : ℕ) → is_enough bytes places ≡ true → (bytes ≡ 0) × (places ≡ 0)
enough_is bytes places e = ((Decides-eqb bytes 0).0 (first_so (bytes == 0) (places == 0) e), (Decides-eqb places 0).0 (second_so (bytes == 0) (places == 0) e))

-- where it is enough, so many bytes and places are freed
frees : (ids : List ℕ) (score : Stats → Score) (rows : List Row) (bytes places : ℕ) → GivesUp score rows bytes places ids true → (bytes + row_bytes (left ids rows) ≤ row_bytes rows) × (places + length (left ids rows) ≤ length rows)
frees [] score rows bytes places known =
    let none = enough_is bytes places (sym known.0) in
    let all = left_none rows in
    let b = ap row_bytes all in
    let l = ap (λ (rs : List Row). length rs) all in
    (omega (arith, none.0, b), omega (arith, none.1, l))
frees (id ∷ ids) score rows bytes places known =
    let row = known.1.0 in
    let here = (next_in score rows row known.1.1).0 in
    let rest = frees ids score (without id rows) (bytes - row.bytes) (places - 1) known.1.3 in
    let one : row.bytes + row_bytes (without id rows) ≤ row_bytes rows = subst (λ i. row.bytes + row_bytes (without i rows) ≤ row_bytes rows) known.1.2 (without_in rows row here) in
    let fewer : length (without id rows) + 1 ≤ length rows = subst (λ i. length (without i rows) + 1 ≤ length rows) known.1.2 (shorter rows row (here)) in
    let more = left_more id ids rows in
    let b = ap row_bytes more in
    let l = ap (λ (rs : List Row). length rs) more in
    (omega (arith, rest.0, one, b), omega (arith, rest.1, fewer, l))

-- ## No row that is left has lost a parent

abbrev counted : Bool → ℕ
counted b = cond b 1 0

none_counted : (p : Row → Bool) (rows : List Row) (row : Row) → count_by p rows ≡ 0 → In row rows → p row ≡ false
none_counted p [] row e h = absurd h
none_counted p (x ∷ xs) row e (inl is) = ap p is ∙ zero_so (p x) (let all = sum_by-cons (λ r. counted (p r)) x xs in omega (arith, e, all))
  where
    zero_so : (b : Bool) → counted b ≡ 0 → b ≡ false
    zero_so true e = cc
    zero_so false e = refl
none_counted p (x ∷ xs) row e (inr h) = none_counted p xs row (let all = sum_by-cons (λ r. counted (p r)) x xs in omega (arith, e, all)) h

keeps_parents : (ids : List ℕ) (score : Stats → Score) (rows : List Row) (bytes places : ℕ) (enough : Bool) → GivesUp score rows bytes places ids enough → (row : Row) → In row (left ids rows) → (id : ℕ) → In id ids → is_parent id row ≡ false
keeps_parents [] score rows bytes places enough known row h id i = absurd i
keeps_parents (first ∷ ids) score rows bytes places enough known row h id i =
    let gone = known.1.0 in
    let later : In row (left ids (without first rows)) = subst (λ rs. In row rs) (left_more first ids rows) h in
    let among : In row rows = (filter_in (λ (r : Row). not (is_one_of (first ∷ ids) r.id)) rows row h).0 in
    let free = second_so gone.free (count_by (is_parent gone.id) rows == 0) (next_in score rows gone known.1.1).1 in
    let childless : count_by (is_parent gone.id) rows ≡ 0 = (Decides-eqb (count_by (is_parent gone.id) rows) 0).0 free in
    elim i [
      | inl e ↦ ap (λ n. is_parent n row) (e ∙ sym known.1.2) ∙ none_counted (is_parent gone.id) rows row childless among
      | inr more ↦ keeps_parents ids score (without first rows) (bytes - gone.bytes) (places - 1) enough known.1.3 row later id more
    ]

-- what is given up was free
were_free : (ids : List ℕ) (score : Stats → Score) (rows : List Row) (bytes places : ℕ) (enough : Bool) → GivesUp score rows bytes places ids enough → (id : ℕ) → In id ids → (row : Row) × In row rows × (row.id ≡ id) × (row.free ≡ true)
were_free [] score rows bytes places enough known id i = absurd i
were_free (first ∷ ids) score rows bytes places enough known id i =
    let gone = known.1.0 in
    let next = next_in score rows gone known.1.1 in
    elim i [
      | inl e ↦ (gone, next.0, known.1.2 ∙ sym e, first_so gone.free (count_by (is_parent gone.id) rows == 0) next.1)
      | inr more ↦ let h = were_free ids score (without first rows) (bytes - gone.bytes) (places - 1) enough known.1.3 id more in
          (h.0, (filter_in (λ (r : Row). not (r.id == first)) rows h.0 h.1).0, h.2, h.3)
    ]

-- ## The law

run_is : (score : Stats → Score) (rows : List Row) (bytes places : ℕ) (ids : List ℕ) (enough : Bool) → given_up score rows bytes places ≡ (ids, enough) → GivesUp score rows bytes places ids enough
run_is score rows bytes places ids enough e = subst (λ (r : Run). GivesUp score rows bytes places r.0 r.1) e (run_gives (length rows) score rows bytes places (omega arith))

whole : (score : Stats → Score) (rows : List Row) (bytes places : ℕ) (ids : List ℕ) (enough : Bool) → GivesUp score rows bytes places ids enough → LeavesWhole rows bytes places ids enough
whole score rows bytes places ids enough known = record {
  bytes_freed = λ e. (frees ids score rows bytes places (subst (GivesUp score rows bytes places ids) e known)).0;
  places_freed = λ e. (frees ids score rows bytes places (subst (GivesUp score rows bytes places ids) e known)).1;
  keeps_parents = λ row i id j. keeps_parents ids score rows bytes places enough known row (in_from_contains (left ids rows) row i) id (in_from_contains ids id j);
  were_free = λ id j. let h = were_free ids score rows bytes places enough known id (in_from_contains ids id j) in (h.0, contains_from_in rows h.0 h.1, h.2, h.3);
}

pub runs_are_functions_hold : RunsAreFunctions
runs_are_functions_hold score rows bytes places ids enough =
    ((given_up_is ids score rows bytes places enough, run_is score rows bytes places ids enough), whole score rows bytes places ids enough)
