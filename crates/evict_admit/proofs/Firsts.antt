-- The first of a whole contest comes before all others that take part.
use Rattle.std.proofs.Common.{◌≡◌, ℕ, zero, suc, ◌+◌, ◌-◌, ◌*◌, ◌/◌, ◌<◌, ◌≤◌, List, Bool, true, false, Option, Some, None, inl, inr, length, refl, ap, sym, ◌∙◌, subst, arith, nat_lt, ltb-true, ltb-false}
use Rattle.std.specs.Prelude.{if◌then◌else◌}
use Rattle.evict_admit.specs.declared.contest.Contender.{Contender}
use Rattle.evict_admit.specs.Boards.{contender_at, comes_before, sooner_of, seat_of, winner_at, IsWhole}
use Rattle.evict_admit.proofs.Contests.{is_or_not, sooner_one}
use Rattle.evict_admit.proofs.Orders.{IsNotAfter, not_after, before_false, not_after_refl, not_after_trans, not_after_before}

module _ (contenders : List Contender) (some : (p : ℕ) → 0 < (contender_at contenders p).score.bottom) where
  -- where the first takes no part, the second doesn't, and else it doesn't come before the first
  abbrev pub NoLater : Option ℕ → Option ℕ → Type 0
  NoLater a None = Unit {0}
  NoLater None (Some q) = ⊥
  NoLater (Some p) (Some q) = IsNotAfter (contender_at contenders p) (contender_at contenders q)

  no_later_refl : (a : Option ℕ) → NoLater a a
  no_later_refl None = tt
  no_later_refl (Some p) = not_after_refl (contender_at contenders p)

  no_later_trans : (a b c : Option ℕ) → NoLater a b → NoLater b c → NoLater a c
  no_later_trans a b None h k = tt
  no_later_trans a None (Some r) h k = absurd k
  no_later_trans None (Some q) (Some r) h k = absurd h
  no_later_trans (Some p) (Some q) (Some r) h k = not_after_trans _ _ _ (some p) (some q) (some r) h k

  sooner_left : (a b : Option ℕ) → NoLater (sooner_of contenders a b) a
  sooner_left None b = tt
  sooner_left (Some p) None = no_later_refl (Some p)
  sooner_left (Some p) (Some q) = go (comes_before (contender_at contenders q) (contender_at contenders p)) refl
    where
      go : (r : Bool) → comes_before (contender_at contenders q) (contender_at contenders p) ≡ r → NoLater (if r then Some q else Some p) (Some p)
      go true e = not_after_before _ _ e
      go false e = no_later_refl (Some p)

  sooner_right : (a b : Option ℕ) → NoLater (sooner_of contenders a b) b
  sooner_right None b = no_later_refl b
  sooner_right (Some p) None = tt
  sooner_right (Some p) (Some q) = go (comes_before (contender_at contenders q) (contender_at contenders p)) refl
    where
      go : (r : Bool) → comes_before (contender_at contenders q) (contender_at contenders p) ≡ r → NoLater (if r then Some q else Some p) (Some q)
      go true e = no_later_refl (Some q)
      go false e = not_after _ _ e

  module _ (t : List (Option ℕ)) (whole : IsWhole contenders t) where
    -- the first is no later than the winner at any place
    first_no_later : (fuel k : ℕ) → k ≤ fuel → 0 < k → k < 2 * length contenders → NoLater (winner_at t 1) (winner_at t k)
    first_no_later zero k most some low = absurd (omega arith)
    first_no_later (suc fuel) k most some low = elim (is_or_not k 1) [
      | inl one ↦ subst (λ i. NoLater (winner_at t 1) (winner_at t i)) (sym one) (no_later_refl (winner_at t 1))
      | inr more ↦
          let up : NoLater (winner_at t 1) (winner_at t (k / 2)) = first_no_later fuel (k / 2) (omega arith) (omega arith) (omega arith) in
          let game : winner_at t (k / 2) ≡ sooner_of contenders (winner_at t (2 * (k / 2))) (winner_at t (2 * (k / 2) + 1)) = whole.games (k / 2) (omega arith) (omega arith) tt in
          let down : NoLater (winner_at t (k / 2)) (winner_at t k) = elim (is_or_not k (2 * (k / 2))) [
            | inl even ↦ subst (λ w. NoLater w (winner_at t k)) (sym game) (subst (λ i. NoLater (sooner_of contenders (winner_at t (2 * (k / 2))) (winner_at t (2 * (k / 2) + 1))) (winner_at t i)) (sym even) (sooner_left _ _))
            | inr odd ↦ let is : k ≡ 2 * (k / 2) + 1 = omega arith in
                subst (λ w. NoLater w (winner_at t k)) (sym game) (subst (λ i. NoLater (sooner_of contenders (winner_at t (2 * (k / 2))) (winner_at t (2 * (k / 2) + 1))) (winner_at t i)) (sym is) (sooner_right _ _))
          ] in no_later_trans (winner_at t 1) (winner_at t (k / 2)) (winner_at t k) up down
    ]

    -- the winner at a place has a seat below it
    seat_below : (fuel k : ℕ) → length contenders ≤ k + fuel → 0 < k → k < 2 * length contenders → (p : ℕ) × (p < length contenders) × (winner_at t k ≡ winner_at t (length contenders + p))
    seat_below zero k most some low = (k - length contenders, omega arith, ap (winner_at t) (omega arith))
    seat_below (suc fuel) k most some low = elim (nat_lt k (length contenders)) as (λ r. nat_lt k (length contenders) ≡ r → (p : ℕ) × (p < length contenders) × (winner_at t k ≡ winner_at t (length contenders + p))) [
      | true ↦ λ e.
          let under = ltb-true k (length contenders) e in
          let game : winner_at t k ≡ sooner_of contenders (winner_at t (2 * k)) (winner_at t (2 * k + 1)) = whole.games k some under tt in
          elim (sooner_one contenders (winner_at t (2 * k)) (winner_at t (2 * k + 1))) [
            | inl left ↦ let h = seat_below fuel (2 * k) (omega arith) (omega arith) (omega arith) in (h.0, h.1, game ∙ left ∙ h.2)
            | inr right ↦ let h = seat_below fuel (2 * k + 1) (omega arith) (omega arith) (omega arith) in (h.0, h.1, game ∙ right ∙ h.2)
          ]
      | false ↦ λ e. let over = ltb-false k (length contenders) e in (k - length contenders, omega arith, ap (winner_at t) (omega arith))
    ] refl

    -- the first has its own seat
    pub first_seat : (w : ℕ) (ready : ℕ → Bool) → 0 < length contenders → ((p : ℕ) → p < length contenders → winner_at t (length contenders + p) ≡ seat_of (ready p) p) → winner_at t 1 ≡ Some w
        → (w < length contenders) × (ready w ≡ true)
    first_seat w ready more seats is =
        let h = seat_below (length contenders) 1 (omega arith) (omega arith) (omega arith) in
        go h.0 h.1 (ready h.0) refl (sym is ∙ h.2 ∙ seats h.0 h.1)
      where
        go : (p : ℕ) → p < length contenders → (b : Bool) → ready p ≡ b → Some w ≡ seat_of b p → (w < length contenders) × (ready w ≡ true)
        go p low false e h = cc
        go p low true e h = let same : w ≡ p = cc in (omega arith, ap ready same ∙ e)

    pub first_none : winner_at t 1 ≡ None → (p : ℕ) → p < length contenders → winner_at t (length contenders + p) ≡ None
    first_none none p low = go (winner_at t (length contenders + p)) (subst (λ w. NoLater w (winner_at t (length contenders + p))) none (first_no_later (length contenders + p) (length contenders + p) (omega arith) (omega arith) (omega arith)))
      where
        go : (o : Option ℕ) → NoLater None o → o ≡ None
        go None h = refl
        go (Some q) h = absurd h

    pub first_before : (w p : ℕ) → winner_at t 1 ≡ Some w → p < length contenders → winner_at t (length contenders + p) ≡ Some p → comes_before (contender_at contenders p) (contender_at contenders w) ≡ false
    first_before w p is low seat =
        before_false (contender_at contenders w) (contender_at contenders p)
        (subst (λ o. NoLater (Some w) o) seat (subst (λ o. NoLater o (winner_at t (length contenders + p))) is (first_no_later (length contenders + p) (length contenders + p) (omega arith) (omega arith) (omega arith))))
