-- What the log has noted of a query's results, and its ids, by their numbers.
use Rattle.std.proofs.Common.{◌≡◌, ◌≢◌, ℕ, zero, suc, ◌+◌, ◌≤◌, ◌<◌, List, [], ◌∷◌, map, take, drop, length, Bool, true, false, cond, Option, Some, None, refl, ap, sym, ◌∙◌, subst, arith}
use Rattle.std.specs.Prelude.{◌==◌, IsSome, is_some, slice_get, slice_index_or, slice_set}
use Rattle.std.specs.List.{AllByRecursion, range_with_len}
use Rattle.std.proofs.lemmas.Bool.{eq-eqb, eqb-false, eqb-true, ne_eqb}
use Rattle.std.proofs.lemmas.List.{get_or-set_other, get_or-set_same}
use Rattle.std.proofs.lemmas.Option.{get_or_from_slice_get, same_Some, slice_get-get_or, slice_get_within}
use Rattle.cell_core.specs.declared.operator.Instr.{Instr}
use Rattle.cell_core.specs.declared.operator.Value.{Value}
use Rattle.cell_core.specs.declared.operator.Value.TheVariants.{Bat}
use Rattle.cell_core.specs.Pairs.{Pairs}
use Rattle.bat_core.specs.declared.shared.Obj.{Obj}
use Rattle.mal_meaning.specs.declared.plan.Plan.{Plan}
use Rattle.mal_meaning.specs.Meaning.{plan_values}
use Rattle.recycle_mark.specs.Marks.{marks_of}
use Rattle.pool_policy.specs.Keeps.{Face}
use Rattle.pool_policy.specs.Worths.{worth}
use Rattle.query_keys.specs.Keys.{AreIdsOf}
use Rattle.query_run.specs.declared.step.RunningQuery.{RunningQuery}
use Rattle.query_run.specs.Queries.{HasAsked, HasGained, HasMark, IsAt, IsUnderWay, has_result, id_at, result_at, was_asked}
use Rattle.query_run.specs.Steps.{IsOpened}
use Rattle.query_run.proofs.ResultLemmas.{gained_else, gained_here}
use Rattle.session_run.specs.Progress.{Asked, Got, Has, Unasked, id_of, ids_before, noted}
use Rattle.session_run.specs.Kept.{AreNoted, IsNoted}

-- ## Lists

-- the element at a place comes first after what is dropped
pub dropped : {X : Type 0} (xs : List X) (n : ℕ) (x : X) → slice_get xs n ≡ Some x → drop n xs ≡ x ∷ drop (suc n) xs
dropped [] zero x here = cc
dropped [] (suc n) x here = cc
dropped (y ∷ ys) zero x here = (let same : y ≡ x = same_Some y x here in ap (λ z. z ∷ ys) same)
dropped (y ∷ ys) (suc n) x here = dropped ys n x here

pub dropped_all : {X : Type 0} (xs : List X) (n : ℕ) → length xs ≤ n → drop n xs ≡ []
dropped_all [] zero few = refl
dropped_all [] (suc n) few = refl
dropped_all (y ∷ ys) zero few = grind arith
dropped_all (y ∷ ys) (suc n) few = dropped_all ys n (grind arith)

-- there is an element at each place
pub some_at : {X : Type 0} (xs : List X) (n : ℕ) → n < length xs → (x : X) × (slice_get xs n ≡ Some x)
some_at [] n inside = absurd (let no : ⊥ = omega (arith, inside) in no)
some_at (x ∷ xs) zero inside = (x, refl)
some_at (x ∷ xs) (suc n) inside = some_at xs n (omega (arith, inside))

pub length_taken : {X : Type 0} (xs : List X) (n : ℕ) → n ≤ length xs → length (take n xs) ≡ n
length_taken xs zero within = refl
length_taken [] (suc n) within = absurd (let no : ⊥ = omega (arith, within) in no)
length_taken (x ∷ xs) (suc n) within = ap suc (length_taken xs n (omega (arith, within)))

-- ## Ids

ids_at : (given : List Face) (ids : List ℕ) (values : List (Option Value)) → AreIdsOf given ids values → (n : ℕ) → AreIdsOf given (take n ids) values
ids_at given ids values are zero = tt
ids_at given [] values are (suc n) = tt
ids_at given (id ∷ ids) [] are (suc n) = absurd are
ids_at given (id ∷ ids) (value ∷ values) are (suc n) = (are.0, ids_at given ids values are.1 n)

-- those of a front
pub ids_front : (given : List Face) (ids : List ℕ) (values : List (Option Value)) (n : ℕ) → AreIdsOf given ids values → AreIdsOf given (take n ids) values
ids_front given ids values n are = ids_at given ids values are n

-- one of them is another
pub ids_set : (given : List Face) (ids : List ℕ) (values : List (Option Value)) (n id : ℕ) (pairs : Pairs) → AreIdsOf given ids values → slice_get values n ≡ Some (Some (Bat pairs)) → (0 < id → worth given id ≡ Some pairs) → AreIdsOf given (slice_set ids n id) values
ids_set given [] values n id pairs are there one = tt
ids_set given (i ∷ ids) [] n id pairs are there one = absurd are
ids_set given (i ∷ ids) (v ∷ values) zero id pairs are there one = (λ above. (pairs, same_Some v (Some (Bat pairs)) there, one above), are.1)
ids_set given (i ∷ ids) (v ∷ values) (suc n) id pairs are there one = (are.0, ids_set given ids values n id pairs are.1 there one)

-- none of them
pub ids_none : (given : List Face) (ids : List ℕ) (values : List (Option Value)) → length ids ≤ length values → ((n : ℕ) → slice_index_or ids n 0 ≡ 0) → AreIdsOf given ids values
ids_none given [] values few none = tt
ids_none given (id ∷ ids) [] few none = absurd (let no : ⊥ = omega (arith, few) in no)
ids_none given (id ∷ ids) (v ∷ values) few none = (λ above. absurd (let first = none 0 in let no : ⊥ = omega (arith, above, first) in no), ids_none given ids values (omega (arith, few)) (λ n. none (suc n)))

-- ## What is noted

module _ (results : ℕ → Got) (q : RunningQuery) (are : AreNoted results q) (under : IsUnderWay q) where
  id_noted : (n : ℕ) (mark : Bool) → HasMark q n mark → id_of (results n) ≡ id_at q n
  id_noted n false marked = ap id_of (are n false marked) ∙ sym (under.plain n marked)
  id_noted n true marked = go (has_result q n) refl (was_asked q n) (are n true marked)
    where
      go : (there : Bool) → has_result q n ≡ there → (asked : Bool) → IsNoted (results n) true there (id_at q n) asked → id_of (results n) ≡ id_at q n
      go true is asked got = ap id_of got
      go false is true got = ap id_of got.1 ∙ sym (under.bare n is)
      go false is false got = ap id_of got ∙ sym (under.bare n is)

  ids_noted_from : (n k : ℕ) → length (marks_of q.plan) ≡ length q.ids.items → k + n ≤ length q.ids.items → map (λ m. id_of (results m)) (range_with_len k n) ≡ take n (drop k q.ids.items)
  ids_noted_from zero k many within = refl
  ids_noted_from (suc n) k many within =
      let inside : k < length q.ids.items = omega (arith, within) in
      let mark = some_at (marks_of q.plan) k (omega (arith, inside, many)) in
      let here : slice_get q.ids.items k ≡ Some (id_at q k) = slice_get-get_or q.ids.items k 0 inside in
      let one : suc k ≡ k + 1 = omega arith in
      (λ i. id_noted k mark.0 mark.1 i ∷ ids_noted_from n (k + 1) many (omega (arith, within)) i)
      ∙ ap (λ j. id_at q k ∷ take n (drop j q.ids.items)) (sym one)
      ∙ ap (take (suc n)) (sym (dropped q.ids.items k (id_at q k) here))

  -- the ids before an instruction are those of the query
  pub ids_noted : (n : ℕ) → length (marks_of q.plan) ≡ length q.ids.items → n ≤ length q.ids.items → ids_before results n ≡ take n q.ids.items
  ids_noted n many within = ids_noted_from n 0 many (omega (arith, within))

-- a result that is there, or that is asked for in vain
module _ (results : ℕ → Got) (q to : RunningQuery) (n : ℕ) (instr : Instr) (at : IsAt q n instr) (under : IsUnderWay q) (are : AreNoted results q) where
  inside : n < length q.plan.instrs
  inside = slice_get_within q.plan.instrs n instr at.here

  pub noted_gained : (result : Obj) (id work : ℕ) → HasGained q n result id work to → AreNoted (noted n (Has id) results) to
  noted_gained result id work g m mark is = go (m == n) refl
    where
      marked : HasMark q m mark
      marked = ap (λ pl. slice_get (marks_of pl) m) (sym g.plan_is) ∙ is

      in_values : n < length q.values.items
      in_values = let many = under.values in let low = inside in omega (arith, many, low)

      in_ids : n < length q.ids.items
      in_ids = let many = under.ids in let low = inside in omega (arith, many, low)

      go : (b : Bool) → (m == n) ≡ b → IsNoted (cond b (Has id) (results m)) mark (has_result to m) (id_at to m) (was_asked to m)
      go true same =
          let place : m ≡ n = eqb-true m n same in
          let there : has_result to m ≡ true = ap is_some (ap (result_at to) place ∙ gained_here q to n result id work g in_values) in
          let its_id : id_at to m ≡ id = ap (id_at to) place ∙ ap (λ ids. slice_index_or ids n 0) g.ids_are ∙ get_or-set_same q.ids.items n id 0 in_ids in
          let is_marked : mark ≡ true = same_Some mark true (sym marked ∙ ap (slice_get (marks_of q.plan)) place ∙ at.marked) in
          subst (λ k. IsNoted (Has id) k (has_result to m) (id_at to m) (was_asked to m)) (sym is_marked)
          (subst (λ b. IsNoted (Has id) true b (id_at to m) (was_asked to m)) (sym there) (ap Has (sym its_id)))
      go false same =
          let apart = eqb-false m n same in
          let there : has_result to m ≡ has_result q m = ap is_some (gained_else q to n result id work g in_values m apart) in
          let its_id : id_at to m ≡ id_at q m = ap (λ ids. slice_index_or ids m 0) g.ids_are ∙ get_or-set_other q.ids.items n m id 0 apart in
          let was : was_asked to m ≡ was_asked q m = ap (λ bs. slice_index_or bs m false) g.asked_are in
          subst (λ b. IsNoted (results m) mark b (id_at to m) (was_asked to m)) (sym there) (subst (λ i. IsNoted (results m) mark (has_result q m) i (was_asked to m)) (sym its_id) (subst (IsNoted (results m) mark (has_result q m) (id_at q m)) (sym was) (are m mark marked)))

  pub noted_asked : (place : ℕ) → HasAsked q n to → AreNoted (noted n (Asked place) results) to
  noted_asked place g m mark is = go (m == n) refl
    where
      marked : HasMark q m mark
      marked = ap (λ pl. slice_get (marks_of pl) m) (sym g.plan_is) ∙ is

      there : has_result to m ≡ has_result q m
      there = ap (λ vs. is_some (slice_index_or vs m None)) g.values_are

      in_asked : n < length q.asked.items
      in_asked = let many = under.asked in let low = inside in omega (arith, many, low)

      go : (b : Bool) → (m == n) ≡ b → IsNoted (cond b (Asked place) (results m)) mark (has_result to m) (id_at to m) (was_asked to m)
      go true same =
          let here : m ≡ n = eqb-true m n same in
          let open_ : has_result to m ≡ false = there ∙ ap (has_result q) here ∙ at.open_ in
          let asked : was_asked to m ≡ true = ap (was_asked to) here ∙ ap (λ bs. slice_index_or bs n false) g.asked_are ∙ get_or-set_same q.asked.items n true false in_asked in
          let is_marked : mark ≡ true = same_Some mark true (sym marked ∙ ap (slice_get (marks_of q.plan)) here ∙ at.marked) in
          subst (λ k. IsNoted (Asked place) k (has_result to m) (id_at to m) (was_asked to m)) (sym is_marked)
          (subst (λ b. IsNoted (Asked place) true b (id_at to m) (was_asked to m)) (sym open_) (subst (IsNoted (Asked place) true false (id_at to m)) (sym asked) (place, refl)))
      go false same =
          let apart = eqb-false m n same in
          let its_id : id_at to m ≡ id_at q m = ap (λ ids. slice_index_or ids m 0) g.ids_are in
          let was : was_asked to m ≡ was_asked q m = ap (λ bs. slice_index_or bs m false) g.asked_are ∙ get_or-set_other q.asked.items n m true false apart in
          subst (λ b. IsNoted (results m) mark b (id_at to m) (was_asked to m)) (sym there) (subst (λ i. IsNoted (results m) mark (has_result q m) i (was_asked to m)) (sym its_id) (subst (IsNoted (results m) mark (has_result q m) (id_at q m)) (sym was) (are m mark marked)))

-- a query that has room for its results
pub noted_opened : (results : ℕ → Got) (q to : RunningQuery) → IsOpened q to → ((n : ℕ) → results n ≡ Unasked) → AreNoted results to
noted_opened results q to o none n false is = none n
noted_opened results q to o none n true is =
    subst (λ b. IsNoted (results n) true b (id_at to n) (was_asked to n)) (sym (o.none n)) (subst (IsNoted (results n) true false (id_at to n)) (sym (o.unasked n)) (none n))
