-- The run at the end of a write always frees enough: of the fresh rows the youngest has no child.
use Rattle.std.proofs.Common.{◌≡◌, ℕ, zero, suc, ◌+◌, ◌-◌, ◌≤◌, ◌<◌, List, [], ◌∷◌, Bool, true, false, not, ◌&&◌, ◌||◌, cond, Some, None, inl, inr, refl, ap, sym, ◌∙◌, subst, arith}
use Rattle.std.specs.Prelude.{filter, fold, ◌==◌, if◌then◌else◌, count_by, sum_by}
use Rattle.std.specs.List.{list_any}
use Rattle.std.specs.Option.{option_map_or}
use Rattle.std.proofs.lemmas.Bool.Decides.{Decides-eqb}
use Rattle.std.proofs.lemmas.List.Sums.{sum_by-cons}
use Rattle.score_hook.specs.declared.stats.Stats.{Stats}
use Rattle.score_hook.specs.declared.stats.Score.{Score}
use Rattle.cell_core.specs.Sorted.{first_by}
use Rattle.evict_admit.specs.declared.plan.Row.{Row}
use Rattle.evict_admit.specs.Evictions.{GivesUp, is_parent, can_go, goes_before, is_enough, next_of, without}
use Rattle.subsume.proofs.Members.{In, filter_in, in_filter}
use Rattle.subsume.proofs.LeastFirst.{first_in}

-- what goes next is one of the rows
next_in : (score : Stats → Score) (rows : List Row) (row : Row) → next_of score rows ≡ Some row → In row rows × (can_go rows row ≡ true)
next_in score rows row e = filter_in (can_go rows) rows row (first_in (goes_before score) (filter (can_go rows) rows) row e)

abbrev one_if : Bool → ℕ
one_if b = cond b 1 0

module _ (fresh : Row → Bool) where
  -- ids rise, a child is younger than its parent, fresh rows are free, and their children are fresh
  abbrev pub Up : ℕ → List Row → Type 0
  Up low [] = Unit {0}
  Up low (r ∷ rs) = (low ≤ r.id) × Up (r.id + 1) rs

  pub record IsFamily (rows : List Row) : Type 0 where
    pub up : Up 0 rows
    pub older : (a b : Row) → In a rows → In b rows → is_parent a.id b ≡ true → a.id < b.id
    pub free : (r : Row) → In r rows → fresh r ≡ true → r.free ≡ true
    pub heirs : (a b : Row) → In a rows → In b rows → fresh a ≡ true → is_parent a.id b ≡ true → fresh b ≡ true

  ids_over : (low : ℕ) (rows : List Row) (r : Row) → Up low rows → In r rows → low ≤ r.id
  ids_over low [] r up i = absurd i
  ids_over low (x ∷ xs) r up (inl e) = let same = ap (λ (y : Row). y.id) e in omega (arith, same, up.0)
  ids_over low (x ∷ xs) r up (inr i) = let more = ids_over (x.id + 1) xs r up.1 i in omega (arith, more, up.0)

  -- the youngest of the fresh rows
  youngest : (low : ℕ) (rows : List Row) → Up low rows → (r : Row) → In r rows → fresh r ≡ true → (x : Row) × In x rows × (fresh x ≡ true) × ((y : Row) → In y rows → fresh y ≡ true → y.id ≤ x.id)
  youngest low [] up r i f = absurd i
  youngest low (x ∷ xs) up r i f = go (list_any fresh xs) refl (λ y j g. youngest (x.id + 1) xs up.1 y j g)
    where
      some : (ys : List Row) → list_any fresh ys ≡ true → (y : Row) × In y ys × (fresh y ≡ true)
      some [] e = cc
      some (y ∷ ys) e = elim (fresh y) as (λ b. fresh y ≡ b → (b || list_any fresh ys) ≡ true → (z : Row) × In z (y ∷ ys) × (fresh z ≡ true)) [
        | true ↦ λ is _. (y, inl refl, is)
        | false ↦ λ _ more. let h = some ys more in (h.0, inr h.1, h.2)
      ] refl e

      none : (ys : List Row) (y : Row) → list_any fresh ys ≡ false → In y ys → fresh y ≡ true → ⊥
      none [] y e j g = j
      none (z ∷ zs) y e j g = elim (fresh z) as (λ b. fresh z ≡ b → (b || list_any fresh zs) ≡ false → ⊥) [
        | true ↦ λ is bad. cc
        | false ↦ λ is rest. elim j [ inl same ↦ (let wrong : true ≡ false = sym g ∙ ap fresh same ∙ is in cc) | inr more ↦ none zs y rest more g ]
      ] refl e

      go : (b : Bool) → list_any fresh xs ≡ b → ((y : Row) → In y xs → fresh y ≡ true → (z : Row) × In z xs × (fresh z ≡ true) × ((w : Row) → In w xs → fresh w ≡ true → w.id ≤ z.id)) → (z : Row) × In z (x ∷ xs) × (fresh z ≡ true) × ((w : Row) → In w (x ∷ xs) → fresh w ≡ true → w.id ≤ z.id)
      go true e rest =
          let s = some xs e in
          let h = rest s.0 s.1 s.2 in
          let over = ids_over (x.id + 1) xs h.0 up.1 h.1 in
          (h.0, inr h.1, h.2, λ w j g. elim j [ inl same ↦ (let is = ap (λ (y : Row). y.id) same in omega (arith, is, over)) | inr more ↦ h.3 w more g ])
      go false e rest = elim i [
        | inl same ↦ (x, inl refl, ap fresh (sym same) ∙ f, λ w j g. elim j [ inl is ↦ (let n = ap (λ (y : Row). y.id) is in omega (arith, n)) | inr more ↦ absurd (none xs w e more g) ])
        | inr more ↦ absurd (none xs r e more f)
      ]

  no_child : (p : Row → Bool) (rows : List Row) → ((r : Row) → In r rows → p r ≡ false) → count_by p rows ≡ 0
  no_child p [] h = refl
  no_child p (r ∷ rs) h =
      let all = sum_by-cons (λ (x : Row). one_if (p x)) r rs in
      let rest = no_child p rs (λ x i. h x (inr i)) in
      let one = ap one_if (h r (inl refl)) in omega (arith, all, rest, one)

  first_some : (before : Row → Row → Bool) (rs : List Row) (best : Row) → fold (λ best x. Some (option_map_or (λ b. if before x b then x else b) best x)) (Some best) rs ≡ None → ⊥
  first_some before [] best e = cc
  first_some before (r ∷ rs) best e = first_some before rs (if before r best then r else best) e

  none_first : (before : Row → Row → Bool) (rs : List Row) (x : Row) → In x rs → first_by before rs ≡ None → ⊥
  none_first before [] x i e = i
  none_first before (r ∷ rs) x i e = first_some before rs r e

  -- where a fresh row is left, some row can go
  can_go_on : (score : Stats → Score) (rows : List Row) (r : Row) → IsFamily rows → In r rows → fresh r ≡ true → next_of score rows ≡ None → ⊥
  can_go_on score rows r known i f none =
      let x = youngest 0 rows known.up r i f in
      let not_parent : (y : Row) → In y rows → (b : Bool) → is_parent x.0.id y ≡ b → b ≡ false = λ y j b e. elim b as (λ c. is_parent x.0.id y ≡ c → c ≡ false) [
        | true ↦ λ h. let young = known.older x.0 y x.1 j h in let bound = x.3 y j (known.heirs x.0 y x.1 j x.2 h) in absurd (omega (arith, young, bound))
        | false ↦ λ h. refl
      ] e in
      let childless : count_by (is_parent x.0.id) rows ≡ 0 = no_child (is_parent x.0.id) rows (λ y j. not_parent y j (is_parent x.0.id y) refl) in
      let goes : can_go rows x.0 ≡ true = ap (λ b. b && count_by (is_parent x.0.id) rows == 0) (known.free x.0 x.1 x.2) ∙ (Decides-eqb (count_by (is_parent x.0.id) rows) 0).1 childless in
      none_first (goes_before score) (filter (can_go rows) rows) x.0 (in_filter (can_go rows) rows x.0 x.1 goes) none

  abbrev pub fresh_bytes : List Row → ℕ
  fresh_bytes rows = sum_by (λ (r : Row). if fresh r then r.bytes else 0) rows

  some_fresh : (rows : List Row) → 0 < fresh_bytes rows → (r : Row) × In r rows × (fresh r ≡ true)
  some_fresh [] low = absurd (omega arith)
  some_fresh (r ∷ rs) low =
      let all = sum_by-cons (λ (x : Row). if fresh x then x.bytes else 0) r rs in
      elim (fresh r) as (λ b. fresh r ≡ b → fresh_bytes (r ∷ rs) ≡ (if b then r.bytes else 0) + fresh_bytes rs → (x : Row) × In x (r ∷ rs) × (fresh x ≡ true)) [
        | true ↦ λ e _. (r, inl refl, e)
        | false ↦ λ e same. let more = some_fresh rs (omega arith) in (more.0, inr more.1, more.2)
      ] refl all

  up_lower : (low from : ℕ) (rows : List Row) → low ≤ from → Up from rows → Up low rows
  up_lower low from [] le h = tt
  up_lower low from (r ∷ rs) le h = (omega (arith, h.0), h.1)

  up_filter : (p : Row → Bool) (low : ℕ) (rows : List Row) → Up low rows → Up low (filter p rows)
  up_filter p low [] h = tt
  up_filter p low (r ∷ rs) h = elim (p r) as (λ b. Up low (cond b (r ∷ filter p rs) (filter p rs))) [
    | true ↦ (h.0, up_filter p (r.id + 1) rs h.1)
    | false ↦ up_lower low (r.id + 1) (filter p rs) (omega (arith, h.0)) (up_filter p (r.id + 1) rs h.1)
  ]

  family_left : (p : Row → Bool) (rows : List Row) → IsFamily rows → IsFamily (filter p rows)
  family_left p rows known = record {
    up = up_filter p 0 rows known.up;
    older = λ a b i j h. known.older a b (filter_in p rows a i).0 (filter_in p rows b j).0 h;
    free = λ r i f. known.free r (filter_in p rows r i).0 f;
    heirs = λ a b i j f h. known.heirs a b (filter_in p rows a i).0 (filter_in p rows b j).0 f h;
  }

  stay : (id low : ℕ) (rows : List Row) → id < low → Up low rows → without id rows ≡ rows
  stay id low [] less h = refl
  stay id low (r ∷ rs) less h =
      let other : (r.id == id) ≡ false = elim (r.id == id) as (λ b. (r.id == id) ≡ b → b ≡ false) [ true ↦ λ e. absurd (let same = (Decides-eqb r.id id).0 e in omega (arith, same, h.0)) | false ↦ λ _. refl ] refl in
      ap (λ b. cond (not b) (r ∷ without id rs) (without id rs)) other ∙ ap (λ xs. r ∷ xs) (stay id (r.id + 1) rs (omega (arith, h.0)) h.1)

  less_by : (low : ℕ) (rows : List Row) (row : Row) → Up low rows → In row rows → fresh_bytes rows ≤ fresh_bytes (without row.id rows) + row.bytes
  less_by low [] row up i = absurd i
  less_by low (x ∷ xs) row up (inl e) =
      let here : (x.id == row.id) ≡ true = (Decides-eqb x.id row.id).1 (ap (λ (r : Row). r.id) (sym e)) in
      let id : row.id ≡ x.id = ap (λ (r : Row). r.id) e in
      let gone : fresh_bytes (without row.id (x ∷ xs)) ≡ fresh_bytes xs = ap (λ b. fresh_bytes (cond (not b) (x ∷ without row.id xs) (without row.id xs))) here ∙ ap fresh_bytes (stay row.id (x.id + 1) xs (omega (arith, id)) up.1) in
      let all = sum_by-cons (λ (r : Row). if fresh r then r.bytes else 0) x xs in
      let one : (if fresh x then x.bytes else 0) ≤ x.bytes = elim (fresh x) as (λ b. (if b then x.bytes else 0) ≤ x.bytes) [ true ↦ omega arith | false ↦ omega arith ] in
      let bytes : row.bytes ≡ x.bytes = ap (λ (r : Row). r.bytes) e in
      omega (arith, gone, all, one, bytes)
  less_by low (x ∷ xs) row up (inr i) =
      let over = ids_over (x.id + 1) xs row up.1 i in
      let other : (x.id == row.id) ≡ false = elim (x.id == row.id) as (λ b. (x.id == row.id) ≡ b → b ≡ false) [ true ↦ λ e. absurd (let same = (Decides-eqb x.id row.id).0 e in omega (arith, same, over)) | false ↦ λ _. refl ] refl in
      let kept : fresh_bytes (without row.id (x ∷ xs)) ≡ fresh_bytes (x ∷ without row.id xs) = ap (λ b. fresh_bytes (cond (not b) (x ∷ without row.id xs) (without row.id xs))) other in
      let all = sum_by-cons (λ (r : Row). if fresh r then r.bytes else 0) x xs in
      let left = sum_by-cons (λ (r : Row). if fresh r then r.bytes else 0) x (without row.id xs) in
      let rest = less_by (x.id + 1) xs row up.1 i in
      omega (arith, kept, all, left, rest)

  -- the run always frees what the fresh rows have
  pub write_run_ends : (ids : List ℕ) (score : Stats → Score) (rows : List Row) (bytes : ℕ) (enough : Bool) → IsFamily rows → bytes ≤ fresh_bytes rows → GivesUp score rows bytes 0 ids enough → enough ≡ true
  write_run_ends [] score rows bytes enough known less run = go enough refl
    where
      go : (b : Bool) → enough ≡ b → b ≡ true
      go true e = refl
      go false e =
          let none = run.1 e in
          let some : 0 < bytes = above bytes (sym run.0 ∙ e) in
          let f = some_fresh rows (omega arith) in
          absurd (can_go_on score rows f.0 known f.1 f.2 none)
        where
          above : (n : ℕ) → is_enough n 0 ≡ false → 0 < n
          above zero h = cc
          above (suc n) h = omega arith
  write_run_ends (id ∷ ids) score rows bytes enough known less run =
      let row = run.1.0 in
      let i = (next_in score rows row run.1.1).0 in
      let fewer : fresh_bytes rows ≤ fresh_bytes (without id rows) + row.bytes = subst (λ n. fresh_bytes rows ≤ fresh_bytes (without n rows) + row.bytes) run.1.2 (less_by 0 rows row known.up i) in
      write_run_ends ids score (without id rows) (bytes - row.bytes) enough (family_left (λ (r : Row). not (r.id == id)) rows known) (omega (arith, less, fewer)) run.1.3
