-- Which row leads once one row more is read, and what a mark shows.
use Rattle.std.proofs.Common.{◌≡◌, ℕ, suc, ◌+◌, ◌%◌, ◌<◌, List, [], ◌∷◌, Bool, true, false, true≢false, ◌&&◌, cond, Option, Some, None, length, drop, refl, ap, sym, ◌∙◌, subst, arith, add-one, drop-cons}
use Rattle.std.proofs.Math.Seq.{drop-length}
use Rattle.std.specs.Prelude.{◌==◌, filter, count_by, if◌then◌else◌, IfSome}
use Rattle.std.proofs.lemmas.List.Sums.{sum_by-cons}
use Rattle.score_hook.specs.declared.stats.Stats.{Stats}
use Rattle.score_hook.specs.declared.stats.Score.{Score}
use Rattle.score_hook.specs.Scores.{IsSmall}
use Rattle.evict_admit.specs.declared.plan.Row.{Row}
use Rattle.evict_admit.specs.declared.leading.Leader.{Leader}
use Rattle.evict_admit.specs.Boards.{comes_before, contender_for, no_row, one_if, row_at}
use Rattle.evict_admit.specs.Evictions.{can_go, goes_before, is_parent, next_of}
use Rattle.evict_admit.specs.Leading.{AreMarked, IsLeader, comes_first, first_beside, leading_row, mark_at}

-- ## Children

none_counted : (id : ℕ) (rows : List Row) → ((p : ℕ) → p < length rows → is_parent id (row_at rows p) ≡ false) → count_by (is_parent id) rows ≡ 0
none_counted id [] h = refl
none_counted id (row ∷ rows) h =
    let all : count_by (is_parent id) (row ∷ rows) ≡ one_if (is_parent id row) + count_by (is_parent id) rows = sum_by-cons (λ r. one_if (is_parent id r)) row rows in
    let here : one_if (is_parent id row) ≡ 0 = ap one_if (h 0 (omega arith)) in
    let more : count_by (is_parent id) rows ≡ 0 = none_counted id rows (λ p low. h (suc p) (omega arith)) in
    omega (arith, all, here, more)

-- an id that no row names has no child
pub no_child : (id : ℕ) (rows : List Row) → ((p : ℕ) → p < length rows → is_parent id (row_at rows p) ≡ false) → (count_by (is_parent id) rows == 0) ≡ true
no_child id rows h = ap (λ n. n == 0) (none_counted id rows h)

-- ## Marks

-- an id with no mark has no child
pub unmarked : (rows : List Row) (marks : List ℕ) (id : ℕ) → AreMarked rows marks → mark_at marks (id % 4096) ≡ 0 → (count_by (is_parent id) rows == 0) ≡ true
unmarked rows marks id marked none = no_child id rows (λ p low. go p (is_parent id (row_at rows p)) refl (marked.each p id low))
  where
    go : (p : ℕ) (b : Bool) → is_parent id (row_at rows p) ≡ b → (is_parent id (row_at rows p) ≡ true → 0 < mark_at marks (id % 4096)) → is_parent id (row_at rows p) ≡ false
    go p false is h = is
    go p true is h = let some = h is in absurd (omega (arith, some, none))

-- ## The row that leads

pub none_so : (a b c : Bool) → b ≡ false → ((a && b) && c) ≡ false
none_so true true c never = absurd (true≢false never)
none_so true false c never = refl
none_so false b c never = refl

module _ (score : Stats → Score) (rows : List Row) where
  abbrev pub rest : ℕ → List Row
  rest i = filter (can_go rows) (drop i rows)

  rest_is : (i : ℕ) → i < length rows → rest i ≡ cond (can_go rows (row_at rows i)) (row_at rows i ∷ rest (i + 1)) (rest (i + 1))
  rest_is i low = ap (filter (can_go rows)) (drop-cons rows i no_row low) ∙ ap (λ n. cond (can_go rows (row_at rows i)) (row_at rows i ∷ rest n) (rest n)) (sym (add-one i))

  skipped : (i : ℕ) → i < length rows → can_go rows (row_at rows i) ≡ false → rest i ≡ rest (i + 1)
  skipped i low never = rest_is i low ∙ ap (λ b. cond b (row_at rows i ∷ rest (i + 1)) (rest (i + 1))) never

  taken : (i : ℕ) → i < length rows → can_go rows (row_at rows i) ≡ true → rest i ≡ row_at rows i ∷ rest (i + 1)
  taken i low can = rest_is i low ∙ ap (λ b. cond b (row_at rows i ∷ rest (i + 1)) (rest (i + 1))) can

  module _ (most : ℕ) where
    -- the one that leads is beaten or not, as it is compared
    beaten : (row : Row) (d : Leader) → IsLeader most score rows (Some d) → goes_before score row (row_at rows d.place) ≡ comes_before (contender_for score row) d.contender
    beaten row d is = ap (comes_before (contender_for score row)) (sym (is.compared d refl))

    -- the first row of the leader and of the rows after it is the first row of all
    abbrev pub IsPending : Option Leader → ℕ → Type 0
    IsPending leader i = first_beside score (leading_row rows leader) (rest i) ≡ next_of score rows

    -- a row that can't go, or doesn't go before the one that leads, changes nothing
    pub stays : (i : ℕ) (leader : Option Leader) → i < length rows → IsLeader most score rows leader → (can_go rows (row_at rows i) && comes_first (contender_for score (row_at rows i)) leader) ≡ false → IsPending leader i → IsPending leader (i + 1)
    stays i leader low is late pending = sym (go leader is (can_go rows (row_at rows i)) refl late) ∙ pending
      where
        go : (d : Option Leader) → IsLeader most score rows d → (can : Bool) → can_go rows (row_at rows i) ≡ can → (can && comes_first (contender_for score (row_at rows i)) d) ≡ false
            → first_beside score (leading_row rows d) (rest i) ≡ first_beside score (leading_row rows d) (rest (i + 1))
        go d is false never h = ap (first_beside score (leading_row rows d)) (skipped i low never)
        go None is true can h = cc
        go (Some d) is true can h = ap (first_beside score (Some (row_at rows d.place))) (taken i low can) ∙ ap (λ b. first_beside score (Some (if b then row_at rows i else row_at rows d.place)) (rest (i + 1))) (beaten (row_at rows i) d is ∙ h)

    -- a row that can go, and goes before the one that leads, leads from now on
    pub leads : (i : ℕ) (leader : Option Leader) (next : Leader) → i < length rows → IsLeader most score rows leader → next.place ≡ i → can_go rows (row_at rows i) ≡ true → comes_first (contender_for score (row_at rows i)) leader ≡ true
        → IsPending leader i → IsPending (Some next) (i + 1)
    leads i leader next low is here can first pending = ap (λ p. first_beside score (Some (row_at rows p)) (rest (i + 1))) here ∙ sym (go leader is first) ∙ pending
      where
        go : (d : Option Leader) → IsLeader most score rows d → comes_first (contender_for score (row_at rows i)) d ≡ true → first_beside score (leading_row rows d) (rest i) ≡ first_beside score (Some (row_at rows i)) (rest (i + 1))
        go None is h = ap (first_beside score None) (taken i low can)
        go (Some d) is h = ap (first_beside score (Some (row_at rows d.place))) (taken i low can) ∙ ap (λ b. first_beside score (Some (if b then row_at rows i else row_at rows d.place)) (rest (i + 1))) (beaten (row_at rows i) d is ∙ h)

    pub is_leader : (d : Leader) → d.place < length rows → d.contender ≡ contender_for score (row_at rows d.place) → IsSmall most d.contender.score → IsLeader most score rows (Some d)
    is_leader d low compared small = record {
      place = λ x e. let same : d ≡ x = cc in subst (λ (l : Leader). l.place < length rows) same low;
      compared = λ x e. let same : d ≡ x = cc in subst (λ (l : Leader). l.contender ≡ contender_for score (row_at rows l.place)) same compared;
      small = λ x e. let same : d ≡ x = cc in subst (λ (l : Leader). IsSmall most l.contender.score) same small;
    }

    -- the one that leads at last goes first
    pub leads_all : (i : ℕ) (leader : Option Leader) → i ≡ length rows → IsLeader most score rows leader → IsPending leader i → IfSome leader (λ d. (d.place < length rows) × (next_of score rows ≡ Some (row_at rows d.place)))
    leads_all i None end is pending = tt
    leads_all i (Some d) end is pending = (is.place d refl, sym pending ∙ ap (λ rs. first_beside score (Some (row_at rows d.place)) (filter (can_go rows) rs)) (ap (λ n. drop n rows) end ∙ drop-length rows))
