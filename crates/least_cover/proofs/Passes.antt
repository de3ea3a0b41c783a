-- The spans are passed in the order of how far they reach, and each becomes known.
use Rattle.std.proofs.Common.{◌≡◌, ◌≢◌, ℕ, ◌+◌, ◌<◌, ◌≤◌, List, [], true, false, true≢false, Option, Some, None, ◌⊎◌, inl, inr, refl, ap, sym, ◌∙◌, arith, length, get_or-set_same, get_or-set_other}
use Rattle.std.specs.Prelude.{slice_index, slice_set}
use Rattle.std.proofs.lemmas.Bool.Decides.{eqb_tells}
use Rattle.cell_core.specs.declared.cut.Cut.{Cut}
use Rattle.cell_core.specs.declared.cut.Span.{Span}
use Rattle.cell_core.specs.Cuts.{is_cut_below}
use Rattle.subsume.proofs.CutOrder.{cut_order}
use Rattle.least_cover.specs.declared.best.Best.{Best}
use Rattle.least_cover.specs.Covers.{Priced, span_at}
use Rattle.least_cover.specs.Best.{AreSolved, HasPlace, IsOrder, IsQueue, IsReady, IsSolved, Solves, Waits, best_at}
use Rattle.least_cover.proofs.Queues.{nat_less}
use Rattle.least_cover.proofs.Solved.{solved_set}

module _ (spans : List Priced) (target : Span) (order : List ℕ) (ordered : IsOrder spans order) where
  abbrev place_at : ℕ → ℕ
  place_at i = slice_index order i

  abbrev high_at : ℕ → Cut
  high_at p = (span_at spans p).high

  -- the first i places are known, and no others
  pub record IsPassed (bests : List (Option Best)) (queue : List ℕ) (i : ℕ) : Type 0 where
    pub solved : AreSolved spans target bests
    pub in_order : IsQueue bests queue
    pub known : (j : ℕ) → j < i → (best : Best) × (best_at bests (place_at j) ≡ Some best)
    pub done : (p : ℕ) (best : Best) → best_at bests p ≡ Some best → (j : ℕ) × (j < i) × (place_at j ≡ p)
    pub above : (j : ℕ) → j < i → is_cut_below target.low (high_at (place_at j)) ≡ true
    pub waits : (cut : Cut) → ((j : ℕ) → j < i → is_cut_below (high_at (place_at j)) cut ≡ false) → Waits spans bests cut queue

  pub start : (bests : List (Option Best)) (queue : List ℕ) → ((p : ℕ) → best_at bests p ≡ None) → queue ≡ [] → IsPassed bests queue 0
  start bests queue blank empty = record {
    solved = λ p best is. (let wrong : None ≡ Some best = sym (blank p) ∙ is in absurd (cc));
    in_order = record {
      known = λ j low. absurd (let none = ap (λ (xs : List ℕ). length xs) empty in omega (arith, low, none));
      falls = λ j k less low. absurd (let none = ap (λ (xs : List ℕ). length xs) empty in omega (arith, low, none));
    };
    known = λ j low. absurd (omega (arith, low));
    done = λ p best is. (let wrong : None ≡ Some best = sym (blank p) ∙ is in absurd (cc));
    above = λ j low. absurd (omega (arith, low));
    waits = λ cut up p best is. (let wrong : None ≡ Some best = sym (blank p) ∙ is in absurd (cc));
  }

  module _ (bests : List (Option Best)) (queue : List ℕ) (i : ℕ) (passed : IsPassed bests queue i) where
    -- what is known of the cut at which the next span ends
    pub ready_at : i < length order → IsReady spans target bests queue (high_at (place_at i))
    ready_at under = record {
      solved = passed.solved;
      in_order = passed.in_order;
      waits = passed.waits (high_at (place_at i)) (λ j low. ordered.falls j i (omega (arith, low)) under);
      ends = λ p best is. (let there = passed.done p best is in sym (ap (λ k. is_cut_below (high_at k) (high_at (place_at i))) there.2) ∙ ordered.falls there.0 i (let low = there.1 in omega (arith, low)) under);
      reach = λ p low far. (let there = ordered.all p low in elim (nat_less there.0 i) [
        | inl less ↦ (let known = passed.known there.0 less in (known.0, ap (best_at bests) (sym there.2) ∙ known.1))
        | inr past ↦ absurd (true≢false (sym far ∙ sym (ap (λ k. is_cut_below (high_at (place_at i)) (high_at k)) there.2) ∙ ordered.falls i there.0 past there.1))
      ]);
    }

    pub still_unknown : i < length order → best_at bests (place_at i) ≡ None
    still_unknown under = go (best_at bests (place_at i)) refl
      where
        go : (o : Option Best) → best_at bests (place_at i) ≡ o → o ≡ None
        go None e = refl
        go (Some best) e = let there = passed.done (place_at i) best e in absurd (ordered.apart there.0 i there.1 under there.2)

    -- where the rest ends no farther than the target's low, all is known
    module _ (all : (j : ℕ) → i ≤ j → j < length order → is_cut_below target.low (high_at (place_at j)) ≡ false) where
      pub all_known : (p : ℕ) → p < length spans → is_cut_below target.low (high_at p) ≡ true → (best : Best) × (best_at bests p ≡ Some best)
      all_known p low far = let there = ordered.all p low in elim (nat_less there.0 i) [
        | inl less ↦ (let known = passed.known there.0 less in (known.0, ap (best_at bests) (sym there.2) ∙ known.1))
        | inr past ↦ absurd (true≢false (sym far ∙ sym (ap (λ k. is_cut_below target.low (high_at k)) there.2) ∙ all there.0 past there.1))
      ]

      pub all_solved : Solves spans target bests true
      all_solved = (passed.solved, all_known)

      pub ready_low : IsReady spans target bests queue target.low
      ready_low = record {
        solved = passed.solved;
        in_order = passed.in_order;
        waits = passed.waits target.low (λ j low. cut_order.one_way target.low (high_at (place_at j)) (passed.above j low));
        ends = λ p best is. (let there = passed.done p best is in sym (ap (λ k. is_cut_below (high_at k) target.low) there.2) ∙ cut_order.one_way target.low (high_at (place_at there.0)) (passed.above there.0 there.1));
        reach = all_known;
      }

    -- where the next ends no farther than a cut, none of the rest does
    pub rest_short : i < length order → is_cut_below target.low (high_at (place_at i)) ≡ false → (j : ℕ) → i ≤ j → j < length order → is_cut_below target.low (high_at (place_at j)) ≡ false
    rest_short under short j past high = cut_order.chain target.low (high_at (place_at i)) (high_at (place_at j)) short (ordered.falls i j past high)

    -- one more is passed
    module _ (best : Best) (under : i < length order) (same : length bests ≡ length spans) (one : IsSolved spans target (place_at i) best) (up : is_cut_below target.low (high_at (place_at i)) ≡ true)
        (left longer : List ℕ) (left_waits : Waits spans bests (high_at (place_at i)) left)
        (in_queue : IsQueue (slice_set bests (place_at i) (Some best)) longer) (holds : (p : ℕ) → HasPlace left p ⊎ (p ≡ place_at i) → HasPlace longer p) where
      abbrev more : List (Option Best)
      more = slice_set bests (place_at i) (Some best)

      inside : place_at i < length bests
      inside = let low = ordered.within i under in omega (arith, low, same)

      here : best_at more (place_at i) ≡ Some best
      here = get_or-set_same bests (place_at i) (Some best) None inside

      elsewhere : (p : ℕ) → p ≢ place_at i → best_at more p ≡ best_at bests p
      elsewhere p other = get_or-set_other bests (place_at i) p (Some best) None other

      pub one_more : IsPassed more longer (i + 1)
      one_more = record {
        solved = solved_set spans target bests passed.solved (place_at i) best inside one;
        in_order = in_queue;
        known = λ j low. elim (nat_less j i) [
          | inl less ↦ (let known = passed.known j less in (known.0, elsewhere (place_at j) (ordered.apart j i less under) ∙ known.1))
          | inr past ↦ (let same_place : j ≡ i = omega (arith, low, past) in (best, ap (λ k. best_at more (place_at k)) same_place ∙ here))
        ];
        done = λ p b is. elim (eqb_tells p (place_at i)) [
          | inl e ↦ (i, omega arith, sym e.1)
          | inr other ↦ (let there = passed.done p b (sym (elsewhere p other.1) ∙ is) in (there.0, (let low = there.1 in omega (arith, low)), there.2))
        ];
        above = λ j low. elim (nat_less j i) [
          | inl less ↦ passed.above j less
          | inr past ↦ (let same_place : j ≡ i = omega (arith, low, past) in ap (λ k. is_cut_below target.low (high_at (place_at k))) same_place ∙ up)
        ];
        waits = λ cut behind p b is before. elim (eqb_tells p (place_at i)) [
          | inl e ↦ holds p (inr e.1)
          | inr other ↦ holds p (inl (left_waits p b (sym (elsewhere p other.1) ∙ is) (cut_order.chain (high_at (place_at i)) cut (span_at spans p).low (behind i (omega arith)) before)))
        ];
      }
