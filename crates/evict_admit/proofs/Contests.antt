-- Games and their winners: a whole contest's first is the one that comes first.
use Rattle.std.proofs.Common.{◌≡◌, ◌≢◌, ℕ, ◌+◌, ◌*◌, ◌/◌, ◌<◌, ◌≤◌, List, Bool, true, false, Option, Some, None, ◌⊎◌, inl, inr, length, refl, ap, sym, ◌∙◌, arith, length-set, get_or-set_same, get_or-set_other}
use Rattle.std.specs.Prelude.{if◌then◌else◌, slice_set}
use Rattle.std.specs.Option.{ForSome}
use Rattle.std.proofs.lemmas.Bool.Decides.{eqb_tells}
use Rattle.evict_admit.specs.declared.contest.Contender.{Contender}
use Rattle.evict_admit.specs.Boards.{contender_at, comes_before, sooner_of, seat_of, winner_at, IsContest, IsWhole}

pub is_or_not : (a b : ℕ) → (a ≡ b) ⊎ (a ≢ b)
is_or_not a b = elim (eqb_tells a b) [ inl same ↦ inl same.1 | inr other ↦ inr other.1 ]

-- the sooner of two is one of them
pub sooner_one : (contenders : List Contender) (a b : Option ℕ) → (sooner_of contenders a b ≡ a) ⊎ (sooner_of contenders a b ≡ b)
sooner_one contenders None b = inr refl
sooner_one contenders (Some p) None = inl refl
sooner_one contenders (Some p) (Some q) = elim (comes_before (contender_at contenders q) (contender_at contenders p)) as (λ r. ((if r then Some q else Some p) ≡ Some p) ⊎ ((if r then Some q else Some p) ≡ Some q)) [ true ↦ inr refl | false ↦ inl refl ]

pub sooner_within : (contenders : List Contender) (n : ℕ) (a b : Option ℕ) → ForSome a (λ p. p < n) → ForSome b (λ p. p < n) → ForSome (sooner_of contenders a b) (λ p. p < n)
sooner_within contenders n a b ha hb p is = elim (sooner_one contenders a b) [ inl e ↦ ha p (sym e ∙ is) | inr e ↦ hb p (sym e ∙ is) ]

-- ## One place is written

module _ (contenders : List Contender) (old new : ℕ → Type 0) (t : List (Option ℕ)) (j : ℕ) (r : Option ℕ) where
  record Stands (k : ℕ) : Type 0 where
    pub game : ((k ≡ j) × (r ≡ sooner_of contenders (winner_at t (2 * k)) (winner_at t (2 * k + 1)))) ⊎ (old k × (k ≢ j))
    pub left : 2 * k ≢ j
    pub right : 2 * k + 1 ≢ j

  pub written : (t' : List (Option ℕ)) → t' ≡ slice_set t j r → IsContest old contenders t → j < length t → ForSome r (λ p. p < length contenders)
      → ((k : ℕ) → 0 < k → k < length contenders → new k → (((k ≡ j) × (r ≡ sooner_of contenders (winner_at t (2 * k)) (winner_at t (2 * k + 1)))) ⊎ (old k × (k ≢ j))) × (2 * k ≢ j) × (2 * k + 1 ≢ j))
      → IsContest new contenders t'
  written t' is before low within stands = record {
    size = ap length is ∙ length-set t j r ∙ before.size;
    places = λ k. elim (is_or_not k j) [
      | inl here ↦ λ p e. within p (sym (at_here k here) ∙ e)
      | inr other ↦ λ p e. before.places k p (sym (elsewhere k other) ∙ e)
    ];
    games = λ k some low ok.
        let h = stands k some low ok in
        elim h.0 [
          | inl here ↦ at_here k here.0 ∙ here.1 ∙ sym (below k h.1 h.2)
          | inr there ↦ elsewhere k there.1 ∙ before.games k some low there.0 ∙ sym (below k h.1 h.2)
        ];
  }
    where
      elsewhere : (k : ℕ) → k ≢ j → winner_at t' k ≡ winner_at t k
      elsewhere k other = ap (λ zs. winner_at zs k) is ∙ get_or-set_other t j k r None other

      at_here : (k : ℕ) → k ≡ j → winner_at t' k ≡ r
      at_here k here = ap (λ zs. winner_at zs k) is ∙ ap (λ i. winner_at (slice_set t j r) i) here ∙ get_or-set_same t j r None low

      below : (k : ℕ) → 2 * k ≢ j → 2 * k + 1 ≢ j → sooner_of contenders (winner_at t' (2 * k)) (winner_at t' (2 * k + 1)) ≡ sooner_of contenders (winner_at t (2 * k)) (winner_at t (2 * k + 1))
      below k a b = ap (λ x. sooner_of contenders x (winner_at t' (2 * k + 1))) (elsewhere (2 * k) a) ∙ ap (λ y. sooner_of contenders (winner_at t (2 * k)) y) (elsewhere (2 * k + 1) b)

pub weaker : (contenders : List Contender) (old new : ℕ → Type 0) (t : List (Option ℕ)) → IsContest old contenders t → ((k : ℕ) → 0 < k → k < length contenders → new k → old k) → IsContest new contenders t
weaker contenders old new t h f = record { size = h.size; places = h.places; games = λ k some low ok. h.games k some low (f k some low ok) }

-- a game is played on the way from a seat to the first
pub played_up : (contenders : List Contender) (t t' : List (Option ℕ)) (node : ℕ) → IsContest (λ k. k ≢ node) contenders t → 0 < node → node < length contenders
    → t' ≡ slice_set t node (sooner_of contenders (winner_at t (2 * node)) (winner_at t (2 * node + 1))) → IsContest (λ k. k ≢ node / 2) contenders t'
played_up contenders t t' node h some low is =
    written contenders (λ k. k ≢ node) (λ k. k ≢ node / 2) t node _ t' is h (omega (arith, h.size)) (sooner_within contenders (length contenders) _ _ (h.places (2 * node)) (h.places (2 * node + 1)))
    (λ k some low ok. (
      elim (is_or_not k node) [
        | inl e ↦ inl (e, ap (λ i. sooner_of contenders (winner_at t (2 * i)) (winner_at t (2 * i + 1))) (sym e))
        | inr n ↦ inr (n, n)
      ],
      (λ e. ok (omega arith)),
      (λ e. ok (omega arith)),
    ))

-- games are played from the last to the first
pub played_down : (contenders : List Contender) (t t' : List (Option ℕ)) (node : ℕ) → IsContest (λ k. node + 1 ≤ k) contenders t → 0 < node → node < length contenders
    → t' ≡ slice_set t node (sooner_of contenders (winner_at t (2 * node)) (winner_at t (2 * node + 1))) → IsContest (λ k. node ≤ k) contenders t'
played_down contenders t t' node h some low is =
    written contenders (λ k. node + 1 ≤ k) (λ k. node ≤ k) t node _ t' is h (omega (arith, h.size)) (sooner_within contenders (length contenders) _ _ (h.places (2 * node)) (h.places (2 * node + 1)))
    (λ k some low ok. (
      elim (is_or_not k node) [
        | inl e ↦ inl (e, ap (λ i. sooner_of contenders (winner_at t (2 * i)) (winner_at t (2 * i + 1))) (sym e))
        | inr n ↦ inr (omega arith, n)
      ],
      (λ e. omega arith),
      (λ e. omega arith),
    ))

-- a seat is written, so that the game above it is open
pub seated : (contenders : List Contender) (t t' : List (Option ℕ)) (place : ℕ) (r : Option ℕ) → IsWhole contenders t → place < length contenders → ForSome r (λ p. p < length contenders)
    → t' ≡ slice_set t (length contenders + place) r → IsContest (λ k. k ≢ (length contenders + place) / 2) contenders t'
seated contenders t t' place r h low within is =
    written contenders (λ k. Unit {0}) (λ k. k ≢ (length contenders + place) / 2) t (length contenders + place) r t' is h (omega (arith, h.size)) within
    (λ k some under ok. (inr (tt, (λ e. omega arith)), (λ e. ok (omega arith)), (λ e. ok (omega arith))))

pub seat_within : (b : Bool) (place n : ℕ) → place < n → ForSome (seat_of b place) (λ p. p < n)
seat_within true place n low p is = let e : place ≡ p = cc in omega (arith, e)
seat_within false place n low p is = cc
