-- What is kept of each row while a plan is made, and what it says of the rows that are left.
use Rattle.std.proofs.Common.{◌≡◌, ℕ, zero, suc, ◌+◌, ◌-◌, ◌<◌, ◌≤◌, List, [], ◌∷◌, ◌++◌, Bool, true, false, true≢false, not, ◌&&◌, ◌||◌, cond, Option, Some, None, ◌⊎◌, inl, inr, length, map, take, replicate, refl, ap, sym, ◌∙◌, subst, arith, nat_eq, append-nil, append_assoc}
use Rattle.std.specs.Prelude.{◌==◌, filter, count_by, All, slice_index_or}
use Rattle.std.specs.List.{AllByRecursion, IsDistinct}
use Rattle.std.proofs.lemmas.List.{get_or_past, length-map}
use Rattle.std.proofs.lemmas.List.Folds.{list_any-append}
use Rattle.std.proofs.lemmas.List.Sums.{sum_by-cons}
use Rattle.std.proofs.lemmas.Bool.{and_parts}
use Rattle.std.proofs.lemmas.Bool.Decides.{eqb_tells, Decides-eqb, Decides-like, same_from_decides}
use Rattle.score_hook.specs.declared.stats.Stats.{Stats}
use Rattle.score_hook.specs.declared.stats.Score.{Score}
use Rattle.score_hook.specs.Scores.{AreWeights, IsInRange, IsSmall, most_bottom, score_of}
use Rattle.score_hook.proofs.Bounds.{score_small}
use Rattle.score_hook.specs.declared.stats.Evict.{Evict}
use Rattle.score_hook.specs.declared.stats.Evict.TheVariants.{Weighted}
use Rattle.cell_core.specs.Sorted.{first_by}
use Rattle.subsume.proofs.Members.{In, in_at, in_filter, filter_in}
use Rattle.subsume.proofs.LeastFirst.{least_first}
use Rattle.evict_admit.specs.declared.plan.Row.{Row}
use Rattle.evict_admit.specs.declared.contest.Contender.{Contender}
use Rattle.evict_admit.specs.declared.names.Known.{Known}
use Rattle.evict_admit.specs.declared.board.Left.{Left}
use Rattle.evict_admit.specs.Evictions.{is_parent, can_go, goes_before, next_of, without, is_enough, GivesUp}
use Rattle.evict_admit.specs.Boards.{no_row, row_at, left_at, contender_at, contender_for, comes_before, AreSmall, IsKnown, IsNamed, IsSeated, seat_of, winner_at, may_go, is_gone, still, left_of, once_gone, one_if}
use Rattle.evict_admit.proofs.Contests.{is_or_not}
use Rattle.evict_admit.proofs.Firsts.{first_seat, first_before, first_none}
use Rattle.evict_admit.proofs.Orders.{before_total}

-- ## Lists

module _ {X : Type 0} where
  filter_both : (p q : X → Bool) (xs : List X) → filter (λ x. p x && q x) xs ≡ filter q (filter p xs)
  filter_both p q [] = refl
  filter_both p q (x ∷ xs) = elim (p x) as (λ b. filter (λ x. p x && q x) xs ≡ filter q (filter p xs) → cond (b && q x) (x ∷ filter (λ x. p x && q x) xs) (filter (λ x. p x && q x) xs) ≡ filter q (cond b (x ∷ filter p xs) (filter p xs))) [
    | true ↦ λ e. ap (λ zs. cond (q x) (x ∷ zs) zs) e
    | false ↦ λ e. e
  ] (filter_both p q xs)

  -- where no element passes, none is kept
  none_passes : (p : X → Bool) (xs : List X) → ((x : X) → In x xs → p x ≡ false) → filter p xs ≡ []
  none_passes p [] h = refl
  none_passes p (y ∷ ys) h = ap (λ b. cond b (y ∷ filter p ys) (filter p ys)) (h y (inl refl)) ∙ none_passes p ys (λ x i. h x (inr i))

  pub in_index : (xs : List X) (x d : X) → In x xs → (p : ℕ) × (p < length xs) × (x ≡ slice_index_or xs p d)
  in_index [] x d h = absurd h
  in_index (y ∷ ys) x d (inl is) = (0, omega arith, is)
  in_index (y ∷ ys) x d (inr more) = let h = in_index ys x d more in (suc h.0, omega (arith, h.1), h.2)

-- ## Rows that are left

pub still_none : (rows : List Row) → still [] rows ≡ rows
still_none [] = refl
still_none (row ∷ rows) = ap (λ rs. row ∷ rs) (still_none rows)

or_false : (b : Bool) → (b || false) ≡ b
or_false true = refl
or_false false = refl

gone_more : (out : List ℕ) (id : ℕ) (row : Row) → is_gone (out ++ id ∷ []) row ≡ (is_gone out row || row.id == id)
gone_more out id row = list_any-append (λ i. row.id == i) out (id ∷ []) ∙ ap (λ b. is_gone out row || b) (or_false (row.id == id))

pub still_more : (out : List ℕ) (id : ℕ) (rows : List Row) → still (out ++ id ∷ []) rows ≡ without id (still out rows)
still_more out id rows = same rows ∙ filter_both (λ row. not (is_gone out row)) (λ row. not (row.id == id)) rows
  where
    nor : (a b : Bool) → not (a || b) ≡ (not a && not b)
    nor true b = refl
    nor false b = refl

    same : (rs : List Row) → filter (λ row. not (is_gone (out ++ id ∷ []) row)) rs ≡ filter (λ row. not (is_gone out row) && not (row.id == id)) rs
    same [] = refl
    same (row ∷ rs) =
        ap (λ b. cond b (row ∷ filter (λ row. not (is_gone (out ++ id ∷ []) row)) rs) (filter (λ row. not (is_gone (out ++ id ∷ []) row)) rs)) (ap not (gone_more out id row) ∙ nor (is_gone out row) (row.id == id))
        ∙ ap (λ zs. cond (not (is_gone out row) && not (row.id == id)) (row ∷ zs) zs) (same rs)

-- ## One row goes

-- no two rows have one id
abbrev pub AreApart : List Row → Type 0
AreApart [] = Unit {0}
AreApart (row ∷ rows) = ((other : Row) → In other rows → (other.id == row.id) ≡ false) × AreApart rows

pub apart_filter : (p : Row → Bool) (rows : List Row) → AreApart rows → AreApart (filter p rows)
apart_filter p [] h = h
apart_filter p (row ∷ rows) h = elim (p row) as (λ b. AreApart (cond b (row ∷ filter p rows) (filter p rows))) [
  | true ↦ (λ other i. h.0 other (filter_in p rows other i).0, apart_filter p rows h.1)
  | false ↦ apart_filter p rows h.1
]

-- without an id that none has, all stay
all_stay : (id : ℕ) (rows : List Row) → ((other : Row) → In other rows → (other.id == id) ≡ false) → without id rows ≡ rows
all_stay id [] h = refl
all_stay id (row ∷ rows) h = ap (λ b. cond (not b) (row ∷ without id rows) (without id rows)) (h row (inl refl)) ∙ ap (λ rs. row ∷ rs) (all_stay id rows (λ o i. h o (inr i)))

swapped : (a b : ℕ) → (a == b) ≡ (b == a)
swapped a b = same_from_decides (a == b) (b == a) (Decides-eqb a b) (Decides-like (b == a) (λ e. sym e) (λ e. sym e) (Decides-eqb b a))

counts_one : (p : Row → Bool) (rows : List Row) (row : Row) → In row rows → one_if (p row) ≤ count_by p rows
counts_one p [] row h = absurd h
counts_one p (x ∷ xs) row (inl is) = let all : count_by p (x ∷ xs) ≡ one_if (p x) + count_by p xs = sum_by-cons (λ r. one_if (p r)) x xs in let e : one_if (p row) ≡ one_if (p x) = ap (λ y. one_if (p y)) is in omega arith
counts_one p (x ∷ xs) row (inr h) = let all : count_by p (x ∷ xs) ≡ one_if (p x) + count_by p xs = sum_by-cons (λ r. one_if (p r)) x xs in let more = counts_one p xs row h in omega (arith, more)

pub count_without : (p : Row → Bool) (rows : List Row) (gone : Row) → AreApart rows → In gone rows → count_by p rows - one_if (p gone) ≡ count_by p (without gone.id rows)
count_without p [] gone apart h = absurd h
count_without p (x ∷ xs) gone apart (inl is) =
    let here : (x.id == gone.id) ≡ true = (Decides-eqb x.id gone.id).1 (ap (λ (r : Row). r.id) (sym is)) in
    let others : without gone.id xs ≡ xs = all_stay gone.id xs (λ o i. ap (λ (r : Row). o.id == r.id) is ∙ apart.0 o i) in
    let rest : count_by p xs ≡ count_by p (without gone.id (x ∷ xs)) = ap (count_by p) (sym others) ∙ ap (λ b. count_by p (cond (not b) (x ∷ without gone.id xs) (without gone.id xs))) (sym here) in
    let same : one_if (p gone) ≡ one_if (p x) = ap (λ (r : Row). one_if (p r)) is in
    let all : count_by p (x ∷ xs) ≡ one_if (p x) + count_by p xs = sum_by-cons (λ r. one_if (p r)) x xs in
    let less : count_by p (x ∷ xs) - one_if (p gone) ≡ count_by p xs = omega (arith, same) in
    less ∙ rest
count_without p (x ∷ xs) gone apart (inr h) =
    let here : (x.id == gone.id) ≡ false = swapped x.id gone.id ∙ apart.0 gone h in
    let kept : count_by p (without gone.id (x ∷ xs)) ≡ count_by p (x ∷ without gone.id xs) = ap (λ b. count_by p (cond (not b) (x ∷ without gone.id xs) (without gone.id xs))) here in
    let more : count_by p xs - one_if (p gone) ≡ count_by p (without gone.id xs) = count_without p xs gone apart.1 h in
    let one : one_if (p gone) ≤ count_by p xs = counts_one p xs gone h in
    let all : count_by p (x ∷ xs) ≡ one_if (p x) + count_by p xs = sum_by-cons (λ r. one_if (p r)) x xs in
    let left : count_by p (x ∷ without gone.id xs) ≡ one_if (p x) + count_by p (without gone.id xs) = sum_by-cons (λ r. one_if (p r)) x (without gone.id xs) in
    let both : count_by p (x ∷ xs) - one_if (p gone) ≡ count_by p (x ∷ without gone.id xs) = omega (arith, more, one) in
    both ∙ sym kept

shorter_filter : (p : Row → Bool) (rows : List Row) → length (filter p rows) ≤ length rows
shorter_filter p [] = omega arith
shorter_filter p (x ∷ xs) = let h = shorter_filter p xs in elim (p x) as (λ b. length (cond b (x ∷ filter p xs) (filter p xs)) ≤ length (x ∷ xs)) [ true ↦ omega (arith, h) | false ↦ omega (arith, h) ]

pub shorter : (rows : List Row) (gone : Row) → In gone rows → length (without gone.id rows) + 1 ≤ length rows
shorter [] gone h = absurd h
shorter (x ∷ xs) gone (inl is) =
    let here : (x.id == gone.id) ≡ true = (Decides-eqb x.id gone.id).1 (ap (λ (r : Row). r.id) (sym is)) in
    let dropped : length (without gone.id (x ∷ xs)) ≡ length (without gone.id xs) = ap (λ b. length (cond (not b) (x ∷ without gone.id xs) (without gone.id xs))) here in
    let h = shorter_filter (λ row. not (row.id == gone.id)) xs in omega (arith, dropped, h)
shorter (x ∷ xs) gone (inr more) =
    let h : length (without gone.id xs) + 1 ≤ length xs = shorter xs gone more in
    elim (x.id == gone.id) as (λ b. length (cond (not b) (x ∷ without gone.id xs) (without gone.id xs)) + 1 ≤ length (x ∷ xs)) [ true ↦ omega (arith, h) | false ↦ omega (arith, h) ]

-- the state of a row once another has gone
pub once_is : (out : List ℕ) (rows : List Row) (gone row : Row) → AreApart (still out rows) → In gone (still out rows) → once_gone gone row (left_of out rows row) ≡ left_of (out ++ gone.id ∷ []) rows row
once_is out rows gone row apart here =
    let fewer : count_by (is_parent row.id) (still out rows) - one_if (is_parent row.id gone) ≡ count_by (is_parent row.id) (still (out ++ gone.id ∷ []) rows) =
    count_without (is_parent row.id) (still out rows) gone apart here ∙ ap (count_by (is_parent row.id)) (sym (still_more out gone.id rows)) in
    let more : (is_gone out row || row.id == gone.id) ≡ is_gone (out ++ gone.id ∷ []) row = sym (gone_more out gone.id row) in
    λ i. record { children = fewer i; gone = more i }

-- ## What the plan starts with

pub apart_from_distinct : (rows : List Row) → IsDistinct nat_eq (map (λ (row : Row). row.id) rows) → AreApart rows
unfolding IsDistinct
apart_from_distinct [] h = tt
apart_from_distinct (row ∷ rows) h = (λ other i. swapped other.id row.id ∙ among other rows i h.0, apart_from_distinct rows h.1)
  where
    among : (other : Row) (rs : List Row) → In other rs → AllByRecursion (λ id. nat_eq row.id id ≡ false) (map (λ (r : Row). r.id) rs) → (row.id == other.id) ≡ false
    among other [] i all = absurd i
    among other (r ∷ rs) (inl is) all = ap (λ (o : Row). row.id == o.id) is ∙ all.0
    among other (r ∷ rs) (inr more) all = among other rs more all.1

-- no two places have rows with one id
pub apart_by_place : (rows : List Row) → AreApart rows → (p q : ℕ) → p < length rows → q < length rows → (row_at rows p).id ≡ (row_at rows q).id → p ≡ q
apart_by_place [] h p q a b e = absurd (omega arith)
apart_by_place (row ∷ rows) h zero zero a b e = refl
apart_by_place (row ∷ rows) h zero (suc q) a b e = absurd (true≢false (sym ((Decides-eqb (row_at rows q).id row.id).1 (sym e)) ∙ h.0 (row_at rows q) (in_at rows q no_row (omega arith))))
apart_by_place (row ∷ rows) h (suc p) zero a b e = absurd (true≢false (sym ((Decides-eqb (row_at rows p).id row.id).1 e) ∙ h.0 (row_at rows p) (in_at rows p no_row (omega arith))))
apart_by_place (row ∷ rows) h (suc p) (suc q) a b e = ap suc (apart_by_place rows h.1 p q (omega arith) (omega arith) e)

pub apart_from_places : (rows : List Row) → ((p q : ℕ) → p < length rows → q < length rows → (row_at rows p).id ≡ (row_at rows q).id → p ≡ q) → AreApart rows
apart_from_places [] h = tt
apart_from_places (row ∷ rows) h = (
  λ other i.
      let place = in_index rows other no_row i in
      elim (eqb_tells other.id row.id) [
        | inl same ↦ let low = place.1 in let zero_is : 0 ≡ suc place.0 = h 0 (suc place.0) (omega arith) (omega (arith, low)) (sym (ap (λ (r : Row). r.id) (sym place.2) ∙ same.1)) in absurd (omega (arith, zero_is))
        | inr differ ↦ differ.0
      ],
  apart_from_places rows (λ p q a b e. let more : suc p ≡ suc q = h (suc p) (suc q) (omega arith) (omega arith) e in omega (arith, more)),
)

pub apart_known : (known : Known) → IsKnown known → AreApart known.rows.now
apart_known known h = apart_from_places known.rows.now h.apart

-- the scores of a formula can be compared
each_small : (kind : Evict) (weights : List ℕ) (now : ℕ) (rows : List Row) → (kind ≡ Weighted → AreWeights weights) → All (λ (row : Row). IsInRange row.stats now) rows
    → All (λ (c : Contender). IsSmall (most_bottom kind) c.score) (map (contender_for (λ stats. score_of kind weights stats now)) rows)
each_small kind weights now [] ok h k d low = absurd (omega arith)
each_small kind weights now (x ∷ xs) ok h zero d low = score_small kind weights x.stats now ok (h 0 x (omega arith))
each_small kind weights now (x ∷ xs) ok h (suc k) d low = each_small kind weights now xs ok (λ k d low. h (suc k) d (omega arith)) k d (omega arith)

pub all_small : (kind : Evict) (weights : List ℕ) → (kind ≡ Weighted → AreWeights weights) → (now : ℕ) (rows : List Row) → All (λ (row : Row). IsInRange row.stats now) rows
    → AreSmall (map (contender_for (λ stats. score_of kind weights stats now)) rows)
all_small kind weights ok now rows h = (most_bottom kind, each_small kind weights now rows ok h)

-- ## The plan as far as it has come

pub record IsPlanned (score : Stats → Score) (rows : List Row) (need slots : ℕ) (out : List ℕ) (bytes places : ℕ) : Type 0 where
  pub goes_on : (ids : List ℕ) (enough : Bool) → GivesUp score (still out rows) bytes places ids enough → GivesUp score rows need slots (out ++ ids) enough

module _ (score : Stats → Score) (rows : List Row) (need slots : ℕ) where
  pub begins : IsPlanned score rows need slots [] need slots
  begins = record { goes_on = λ ids enough h. subst (λ rs. GivesUp score rs need slots ids enough) (still_none rows) h }

  module _ (out : List ℕ) (bytes places : ℕ) (planned : IsPlanned score rows need slots out bytes places) where
    pub ends : (enough : Bool) → enough ≡ is_enough bytes places → (enough ≡ false → next_of score (still out rows) ≡ None) → GivesUp score rows need slots out enough
    ends enough is none = subst (λ ids. GivesUp score rows need slots ids enough) (append-nil out) (planned.goes_on [] enough (is, none))

    pub grows : (row : Row) (out' : List ℕ) → is_enough bytes places ≡ false → next_of score (still out rows) ≡ Some row → out' ≡ out ++ row.id ∷ [] → IsPlanned score rows need slots out' (bytes - row.bytes) (places - 1)
    grows row out' more next is = subst (λ o. IsPlanned score rows need slots o (bytes - row.bytes) (places - 1)) (sym is) (record {
      goes_on = λ ids enough h.
          subst (λ o. GivesUp score rows need slots o enough) (sym (append_assoc out (row.id ∷ []) ids))
          (planned.goes_on (row.id ∷ ids) enough (more, (row, next, refl, subst (λ rs. GivesUp score rs (bytes - row.bytes) (places - 1) ids enough) (still_more out row.id rows) h)));
    })

-- ## Which goes next

contender_is : (score : Stats → Score) (rows : List Row) (p : ℕ) → p < length rows → contender_at (map (contender_for score) rows) p ≡ contender_for score (row_at rows p)
contender_is score [] p low = absurd (omega arith)
contender_is score (x ∷ xs) zero low = refl
contender_is score (x ∷ xs) (suc p) low = contender_is score xs p (omega arith)

each_some : (most : ℕ) (contenders : List Contender) → All (λ (c : Contender). IsSmall most c.score) contenders → (p : ℕ) → 0 < (contender_at contenders p).score.bottom
each_some most [] h p = let past : contender_at [] p ≡ record { score = record { top = 0; bottom = 1 }; id = 0 } = get_or_past [] p _ (omega arith) in subst (λ (c : Contender). 0 < c.score.bottom) (sym past) (omega arith)
each_some most (x ∷ xs) h zero = let one = (h 0 x (omega arith)).some in omega (arith, one)
each_some most (x ∷ xs) h (suc p) = each_some most xs (λ k d low. h (suc k) d (omega arith)) p

all_some : (contenders : List Contender) → AreSmall contenders → (p : ℕ) → 0 < (contender_at contenders p).score.bottom
all_some contenders h = each_some h.0 contenders h.1

seat_some : (b : Bool) (p : ℕ) → b ≡ true → seat_of b p ≡ Some p
seat_some true p e = refl
seat_some false p e = cc

seat_none : (b : Bool) (p : ℕ) → seat_of b p ≡ None → b ≡ false
seat_none true p e = cc
seat_none false p e = refl

module _ (known : Known) (is_known : IsKnown known) (out : List ℕ) (lefts : List Left) (winners : List (Option ℕ)) (seated : IsSeated known lefts winners)
    (here : (p : ℕ) → p < length known.rows.now → left_at lefts p ≡ left_of out known.rows.now (row_at known.rows.now p)) where
  abbrev ready : ℕ → Bool
  ready p = may_go (row_at known.rows.now p) (left_of out known.rows.now (row_at known.rows.now p))

  seats : (p : ℕ) → p < length known.contenders.now → winner_at winners (length known.contenders.now + p) ≡ seat_of (ready p) p
  seats p low = let under : p < length known.rows.now = omega (arith, is_known.same) in
      ap (λ n. winner_at winners (n + p)) is_known.same ∙ seated.seats p under ∙ ap (λ l. seat_of (may_go (row_at known.rows.now p) l) p) (here p under)

  module _ (w : ℕ) (more : 0 < length known.rows.now) (is : winner_at winners 1 ≡ Some w) where
    chosen : (w < length known.contenders.now) × (ready w ≡ true)
    chosen = first_seat known.contenders.now (all_some known.contenders.now is_known.small) winners seated.whole w ready (omega (arith, is_known.same)) seats is

    pub chosen_low : w < length known.rows.now
    chosen_low = let h = chosen.0 in omega (arith, is_known.same, h)

    -- the row that is chosen is left
    pub chosen_in : In (row_at known.rows.now w) (still out known.rows.now)
    chosen_in = in_filter (λ (row : Row). not (is_gone out row)) known.rows.now (row_at known.rows.now w) (in_at known.rows.now w no_row chosen_low) (and_parts _ _ chosen.1).0

    pub chosen_next : (score : Stats → Score) → known.contenders.now ≡ map (contender_for score) known.rows.now → next_of score (still out known.rows.now) ≡ Some (row_at known.rows.now w)
    chosen_next score scored =
        least_first (goes_before score) (row_at known.rows.now w) (filter (can_go (still out known.rows.now)) (still out known.rows.now)) None
        (inr (in_filter (can_go (still out known.rows.now)) (still out known.rows.now) (row_at known.rows.now w) chosen_in (and_parts _ _ chosen.1).1))
        (λ y e. cc) others
      where
        contender : (p : ℕ) → p < length known.rows.now → contender_at known.contenders.now p ≡ contender_for score (row_at known.rows.now p)
        contender p low = ap (λ cs. contender_at cs p) scored ∙ contender_is score known.rows.now p low

        at_place : (y : Row) (q : ℕ) → q < length known.rows.now → y ≡ row_at known.rows.now q → ready q ≡ true
            → (y ≡ row_at known.rows.now w) ⊎ ((goes_before score (row_at known.rows.now w) y ≡ true) × (goes_before score y (row_at known.rows.now w) ≡ false))
        at_place y q low is_y can = elim (is_or_not q w) [
          | inl same ↦ inl (is_y ∙ ap (row_at known.rows.now) same)
          | inr differ ↦
              let under : q < length known.contenders.now = omega (arith, is_known.same) in
              let after : comes_before (contender_at known.contenders.now q) (contender_at known.contenders.now w) ≡ false =
              first_before known.contenders.now (all_some known.contenders.now is_known.small) winners seated.whole w q is under (seats q under ∙ seat_some (ready q) q can) in
              let late : goes_before score (row_at known.rows.now q) (row_at known.rows.now w) ≡ false = ap (λ c. comes_before c (contender_for score (row_at known.rows.now w))) (sym (contender q low)) ∙ ap (comes_before (contender_at known.contenders.now q)) (sym (contender w chosen_low)) ∙ after in
              let late_y : goes_before score y (row_at known.rows.now w) ≡ false = ap (λ (r : Row). goes_before score r (row_at known.rows.now w)) is_y ∙ late in
              elim (before_total (contender_for score (row_at known.rows.now w)) (contender_for score (row_at known.rows.now q)) (λ e. differ (is_known.apart q w low chosen_low (sym e)))) [
                | inl first ↦ inr (ap (λ (r : Row). goes_before score (row_at known.rows.now w) r) is_y ∙ first, late_y)
                | inr never ↦ absurd (true≢false (sym never ∙ late))
              ]
        ]

        others : (y : Row) → In y (filter (can_go (still out known.rows.now)) (still out known.rows.now))
            → (y ≡ row_at known.rows.now w) ⊎ ((goes_before score (row_at known.rows.now w) y ≡ true) × (goes_before score y (row_at known.rows.now w) ≡ false))
        others y i =
            let left : In y (still out known.rows.now) = (filter_in (can_go (still out known.rows.now)) (still out known.rows.now) y i).0 in
            let can : can_go (still out known.rows.now) y ≡ true = (filter_in (can_go (still out known.rows.now)) (still out known.rows.now) y i).1 in
            let stays : not (is_gone out y) ≡ true = (filter_in (λ (row : Row). not (is_gone out row)) known.rows.now y left).1 in
            let place = in_index known.rows.now y no_row (filter_in (λ (row : Row). not (is_gone out row)) known.rows.now y left).0 in
            let both : may_go y (left_of out known.rows.now y) ≡ true = ap (λ b. b && can_go (still out known.rows.now) y) stays ∙ can in
            at_place y place.0 place.1 place.2 (ap (λ (r : Row). may_go r (left_of out known.rows.now r)) (sym place.2) ∙ both)

  -- where none is chosen, none goes next
  pub none_next : winner_at winners 1 ≡ None → (score : Stats → Score) → next_of score (still out known.rows.now) ≡ None
  none_next is score = ap (first_by (goes_before score)) (none_passes (can_go (still out known.rows.now)) (still out known.rows.now) never)
    where
      never : (y : Row) → In y (still out known.rows.now) → can_go (still out known.rows.now) y ≡ false
      never y left =
          let stays : not (is_gone out y) ≡ true = (filter_in (λ (row : Row). not (is_gone out row)) known.rows.now y left).1 in
          let place = in_index known.rows.now y no_row (filter_in (λ (row : Row). not (is_gone out row)) known.rows.now y left).0 in
          let under : place.0 < length known.contenders.now = let low = place.1 in omega (arith, is_known.same, low) in
          let empty : ready place.0 ≡ false = seat_none (ready place.0) place.0 (sym (seats place.0 under) ∙ first_none known.contenders.now (all_some known.contenders.now is_known.small) winners seated.whole is place.0 under) in
          ap (λ b. b && can_go (still out known.rows.now) y) (sym stays) ∙ ap (λ (r : Row). may_go r (left_of out known.rows.now r)) place.2 ∙ empty

-- where no row is left, none goes next
pub none_left : (score : Stats → Score) (rows : List Row) → length rows ≤ 0 → next_of score rows ≡ None
none_left score [] h = refl
none_left score (row ∷ rows) h = absurd (omega arith)

-- ## What is known at first

pub known_is : (known : Known) (score : Stats → Score) → length known.rows.now ≤ 1024 → All (λ (row : Row). 0 < row.id) known.rows.now → IsNamed known.rows.now known.names.now → length known.hints.now ≡ 4096
    → IsDistinct nat_eq (map (λ (row : Row). row.id) known.rows.now) → AreSmall (map (contender_for score) known.rows.now) → known.contenders.now ≡ map (contender_for score) known.rows.now → IsKnown known
known_is known score few ids named hints distinct small scored = record {
  few = few;
  ids = λ p low. ids p no_row low;
  named = named;
  hints = hints;
  apart = apart_by_place known.rows.now (apart_from_distinct known.rows.now distinct);
  same = ap length scored ∙ length-map known.rows.now (contender_for score);
  small = subst AreSmall (sym scored) small;
}

pub left_first : (rows : List Row) (row : Row) → record { children = count_by (is_parent row.id) rows; gone = false } ≡ left_of [] rows row
left_first rows row = ap (λ (rs : List Row). record { children = count_by (is_parent row.id) rs; gone = false }) (sym (still_none rows))

past_all : {X : Type 0} (p : ℕ) (x : X) → slice_index_or [] p x ≡ x
past_all p x = get_or_past [] p x (omega arith)

pub all_same : {X : Type 0} (n m p : ℕ) (x : X) → slice_index_or (take n (replicate m x)) p x ≡ x
all_same zero m p x = past_all p x
all_same (suc n) zero p x = past_all p x
all_same (suc n) (suc m) zero x = refl
all_same (suc n) (suc m) (suc p) x = all_same n m p x
