-- What is known of all spans determines the chain through the target.
use Rattle.std.proofs.Common.{◌≡◌, ℕ, zero, suc, ◌<◌, List, [], ◌∷◌, true, false, ◌&&◌, Option, Some, None, inl, refl, ap, sym, ◌∙◌, arith, length, take, replicate}
use Rattle.std.specs.Prelude.{slice_index_or}
use Rattle.std.specs.List.{list_all, list_any}
use Rattle.std.proofs.lemmas.List.{get_or_past}
use Rattle.cell_core.specs.declared.cut.Span.{Span}
use Rattle.cell_core.specs.Cuts.{is_cut_below, lies_in, covers, stops}
use Rattle.least_cover.specs.declared.best.Best.{Best}
use Rattle.least_cover.specs.Covers.{Priced, span_at, cost_of, IsChosen}
use Rattle.least_cover.specs.Best.{AreNear, IsNearest, Solves, best_at, first_of}
use Rattle.subsume.proofs.CutOrder.{ends}
use Rattle.least_cover.proofs.Covering.{all_spans, uncovered, chain_covers_all}
use Rattle.least_cover.proofs.Solved.{nearest_chosen}

pub empty_uncovered : (spans : List Priced) (target : Span) → is_cut_below target.low target.high ≡ false → covers target (all_spans spans target) ≡ false
empty_uncovered spans target e = ap (λ b. b && list_all (λ stop. list_any (λ s. lies_in s stop) (all_spans spans target)) (stops target (all_spans spans target))) e

module _ (spans : List Priced) (target : Span) (bests : List (Option Best)) (solves : Solves spans target bests true) where
  known : (p : ℕ) → p < length spans → lies_in (span_at spans p) target.low ≡ true → (b : Best) × (best_at bests p ≡ Some b)
  known p low lies = solves.1 p low (ends (span_at spans p) target.low lies)

  pub none_through : AreNear spans bests target.low (length spans) None → covers target (all_spans spans target) ≡ false
  none_through none = uncovered spans target target.low (inl refl) (λ p low. elim (lies_in (span_at spans p) target.low) as (λ r. lies_in (span_at spans p) target.low ≡ r → r ≡ false) [
    | true ↦ λ lies. let b = known p low lies in sym lies ∙ none p b.0 low b.1
    | false ↦ λ _. refl
  ] refl)

  pub chain_through : (w : ℕ) (best : Best) → is_cut_below target.low target.high ≡ true → IsNearest spans bests target.low (length spans) w best
      → (chain : List ℕ) × IsChosen spans target target.low chain × (best.cost ≡ cost_of spans chain)
  chain_through w best some near =
      (w ∷ (solves.0 w best near.known).rest, nearest_chosen spans target bests solves.0 target.low w best some near known, (solves.0 w best near.known).cost)

  pub through_first : (w : ℕ) (best : Best) (some : is_cut_below target.low target.high ≡ true) (near : IsNearest spans bests target.low (length spans) w best)
      → Some w ≡ first_of (chain_through w best some near).0
  unfolding chain_through
  through_first w best some near = refl

  pub some_through : (w : ℕ) (best : Best) → is_cut_below target.low target.high ≡ true → IsNearest spans bests target.low (length spans) w best → covers target (all_spans spans target) ≡ true
  some_through w best some near = let found = chain_through w best some near in chain_covers_all spans target found.0 some found.1.0

past_all : {X : Type 0} (p : ℕ) (x : X) → slice_index_or [] p x ≡ x
past_all p x = get_or_past [] p x (omega arith)

pub all_same : {X : Type 0} (n m p : ℕ) (x : X) → slice_index_or (take n (replicate m x)) p x ≡ x
all_same zero m p x = past_all p x
all_same (suc n) zero p x = past_all p x
all_same (suc n) (suc m) zero x = refl
all_same (suc n) (suc m) (suc p) x = all_same n m p x
