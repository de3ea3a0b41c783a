-- What is known of single spans, and the chain that the nearest begins.
use Rattle.std.proofs.Common.{◌≡◌, ℕ, ◌+◌, ◌<◌, ◌≤◌, List, [], ◌∷◌, true, false, true≢false, Option, Some, None, inl, inr, refl, ap, sym, ◌∙◌, subst, arith, length, get_or-set_same, get_or-set_other}
use Rattle.std.specs.Prelude.{◌*◌, ◌^◌, All, slice_set}
use Rattle.std.specs.Ordering.{nat_cmp, ordering_then, is_lt}
use Rattle.std.specs.declared.cmp.Ordering.{Ordering}
use Rattle.std.specs.declared.cmp.Ordering.TheVariants.{Less, Equal, Greater}
use Rattle.std.specs.Cmp.Lexicographic.{slice_cmp}
use Rattle.std.proofs.lemmas.Cmp.{nat_list_cmp_total}
use Rattle.std.proofs.lemmas.List.MinMax.{ranks_by}
use Rattle.std.proofs.lemmas.Bool.Decides.{eqb_tells}
use Rattle.cell_core.specs.declared.cut.Cut.{Cut}
use Rattle.cell_core.specs.declared.cut.Span.{Span}
use Rattle.cell_core.specs.Cuts.{is_cut_below, lies_in, covers}
use Rattle.least_cover.specs.declared.best.Best.{Best}
use Rattle.least_cover.specs.Covers.{Priced, rows_at, span_at, cost_of, IsChain, comes_before, IsChosen}
use Rattle.least_cover.specs.Best.{AreSolved, AreShort, GoesOn, IsSolved, IsNearest, best_at, best_cmp}
use Rattle.least_cover.proofs.Chains.{chain_order, cost_cons, alike, ended, one_chosen}
use Rattle.subsume.proofs.Orderings.{never_itself, same_number}
use Rattle.subsume.proofs.CutOrder.{ends}
use Rattle.least_cover.proofs.Covering.{all_spans, uncovered, high_stops}

-- a longer comparison is no less, where the shorter is no less, and what is added is none where it counts
longer : (a b c d : Ordering) → is_lt (ordering_then a (ordering_then b c)) ≡ false → (c ≡ Equal → is_lt d ≡ false) → is_lt (ordering_then a (ordering_then b (ordering_then c d))) ≡ false
longer Less b c d h more = h
longer Greater b c d h more = refl
longer Equal Less c d h more = h
longer Equal Greater c d h more = refl
longer Equal Equal Less d h more = h
longer Equal Equal Greater d h more = refl
longer Equal Equal Equal d h more = more refl

module _ (spans : List Priced) (target : Span) where
  -- of two spans whose chains are known, what their comparison says of the chains
  known_order : (i j : ℕ) (a b : Best) (sa : IsSolved spans target i a) (sb : IsSolved spans target j b) → is_lt (best_cmp a i b j) ≡ false → comes_before spans (i ∷ sa.rest) (j ∷ sb.rest) ≡ false
  known_order i j a b sa sb h =
      longer (nat_cmp (cost_of spans (i ∷ sa.rest)) (cost_of spans (j ∷ sb.rest))) (nat_cmp (length (i ∷ sa.rest)) (length (j ∷ sb.rest))) (nat_cmp i j) (slice_cmp nat_cmp sa.rest sb.rest) told later
    where
      told : is_lt (ordering_then (nat_cmp (cost_of spans (i ∷ sa.rest)) (cost_of spans (j ∷ sb.rest))) (ordering_then (nat_cmp (length (i ∷ sa.rest)) (length (j ∷ sb.rest))) (nat_cmp i j))) ≡ false
      told =
          ap (λ n. is_lt (ordering_then (nat_cmp n (cost_of spans (j ∷ sb.rest))) (ordering_then (nat_cmp (length (i ∷ sa.rest)) (length (j ∷ sb.rest))) (nat_cmp i j)))) (sym sa.cost)
          ∙ ap (λ n. is_lt (ordering_then (nat_cmp a.cost n) (ordering_then (nat_cmp (length (i ∷ sa.rest)) (length (j ∷ sb.rest))) (nat_cmp i j)))) (sym sb.cost)
          ∙ ap (λ n. is_lt (ordering_then (nat_cmp a.cost b.cost) (ordering_then (nat_cmp n (length (j ∷ sb.rest))) (nat_cmp i j)))) (sym sa.length)
          ∙ ap (λ n. is_lt (ordering_then (nat_cmp a.cost b.cost) (ordering_then (nat_cmp a.length n) (nat_cmp i j)))) (sym sb.length)
          ∙ h

      later : nat_cmp i j ≡ Equal → is_lt (slice_cmp nat_cmp sa.rest sb.rest) ≡ false
      later e =
          let same : i ≡ j = same_number i j e in
          let back : IsChosen spans target (span_at spans i).high sb.rest = subst (λ k. IsChosen spans target (span_at spans k).high sb.rest) (sym same) sb.chosen in
          let one : sa.rest ≡ sb.rest = one_chosen spans target (span_at spans i).high sa.rest sb.rest sa.chosen back in
          ap (λ (r : List ℕ). is_lt (slice_cmp nat_cmp r sb.rest)) one ∙ never_itself (ranks_by nat_list_cmp_total (λ (r : List ℕ). r)) sb.rest

  module _ (bests : List (Option Best)) (solved : AreSolved spans target bests) where
    -- the nearest span begins the chain that is chosen, where all spans are known that hold the cut
    pub nearest_chosen : (cut : Cut) (w : ℕ) (best : Best) → is_cut_below cut target.high ≡ true → (near : IsNearest spans bests cut (length spans) w best)
        → ((other : ℕ) → other < length spans → lies_in (span_at spans other) cut ≡ true → (b : Best) × (best_at bests other ≡ Some b))
        → IsChosen spans target cut (w ∷ (solved w best near.known).rest)
    nearest_chosen cut w best low near all = ((low, near.low, near.holds, (solved w best near.known).chosen.0), others)
      where
        others : (other : List ℕ) → IsChain spans target cut other → comes_before spans other (w ∷ (solved w best near.known).rest) ≡ false
        others [] h = absurd (true≢false (sym low ∙ h))
        others (k ∷ more) h =
            let b = all k h.1 h.2 in
            let first = alike spans k more (solved k b.0 b.1).rest ((solved k b.0 b.1).chosen.1 more h.3) in
            let second = known_order k w b.0 best (solved k b.0 b.1) (solved w best near.known) (near.first k b.0 h.1 b.1 h.2) in
            (chain_order spans).chain (k ∷ more) (k ∷ (solved k b.0 b.1).rest) (w ∷ (solved w best near.known).rest) first second

-- ## One more span is known

module _ (spans : List Priced) (target : Span) (bests : List (Option Best)) where
  abbrev high_at : ℕ → Cut
  high_at p = (span_at spans p).high

  -- all spans are known that reach farther
  abbrev pub Reaches : ℕ → Type 0
  Reaches place = (p : ℕ) → p < length spans → is_cut_below (high_at place) (high_at p) ≡ true → (b : Best) × (best_at bests p ≡ Some b)

  beyond_known : (place : ℕ) → Reaches place → (other : ℕ) → other < length spans → lies_in (span_at spans other) (high_at place) ≡ true → (b : Best) × (best_at bests other ≡ Some b)
  beyond_known place reach other low lies = reach other low (ends (span_at spans other) (high_at place) lies)

  -- how it goes on is the chain that is chosen
  pub goes_solved : AreSolved spans target bests → (place : ℕ) (best : Best) → Reaches place → GoesOn spans target bests place (Some best) → IsSolved spans target place best
  goes_solved solved place best far (inl h) = record {
    rest = [];
    chosen = ended spans target (high_at place) h.0;
    cost = ap (λ (b : Best). b.cost) h.1 ∙ sym (cost_cons spans place [] ∙ omega arith);
    length = ap (λ (b : Best). b.length) h.1;
    next = ap (λ (b : Best). b.next) h.1;
  }
  goes_solved solved place best far (inr h) =
      let w = h.1.0 in
      let b = h.1.1 in
      let near = h.1.2 in
      let one = solved w b near.known in record {
        rest = w ∷ one.rest;
        chosen = nearest_chosen spans target bests solved (high_at place) w b h.0 near (beyond_known place far);
        cost = ap (λ (b : Best). b.cost) h.1.3 ∙ ap (λ n. rows_at spans place + n) one.cost ∙ sym (cost_cons spans place (w ∷ one.rest));
        length = ap (λ (b : Best). b.length) h.1.3 ∙ (let l = one.length in omega (arith, l));
        next = ap (λ (b : Best). b.next) h.1.3;
      }

  -- where it doesn't go on, the target isn't covered
  pub stuck : (place : ℕ) → place < length spans → is_cut_below target.low (high_at place) ≡ true → Reaches place → GoesOn spans target bests place None → covers target (all_spans spans target) ≡ false
  stuck place low above reach h = uncovered spans target (high_at place) (high_stops spans target place low above h.0) (λ p low. elim (lies_in (span_at spans p) (high_at place)) as (λ r. lies_in (span_at spans p) (high_at place) ≡ r → r ≡ false) [
    | true ↦ λ lies. let b = beyond_known place reach p low lies in sym lies ∙ h.1 p b.0 low b.1
    | false ↦ λ _. refl
  ] refl)

  pub solved_set : AreSolved spans target bests → (place : ℕ) (best : Best) → place < length bests → IsSolved spans target place best → AreSolved spans target (slice_set bests place (Some best))
  solved_set solved place best low one other b is = elim (eqb_tells other place) [
    | inl same ↦
        let there : Some best ≡ Some b = sym (get_or-set_same bests place (Some best) None low) ∙ ap (best_at (slice_set bests place (Some best))) (sym same.1) ∙ is in
        let eq : best ≡ b = cc in
        subst (λ (x : Best). IsSolved spans target other x) eq (subst (λ p. IsSolved spans target p best) (sym same.1) one)
    | inr differ ↦ solved other b (sym (get_or-set_other bests place other (Some best) None differ.1) ∙ is)
  ]

module _ (bests : List (Option Best)) (none : (p : ℕ) → best_at bests p ≡ None) where
  pub blank_short : (most : ℕ) → AreShort most bests
  blank_short most place best is = let wrong : None ≡ Some best = sym (none place) ∙ is in cc

pub blank_solved : (spans : List Priced) (target : Span) (bests : List (Option Best)) → ((p : ℕ) → best_at bests p ≡ None) → AreSolved spans target bests
blank_solved spans target bests none place best is = let wrong : None ≡ Some best = sym (none place) ∙ is in cc

module _ (spans : List Priced) (target : Span) (bests : List (Option Best)) where
  -- the chain that goes on has one span more, and its rows
  one_short : (most place : ℕ) (best : Best) → rows_at spans place < 2 ^ 41 → AreShort most bests → GoesOn spans target bests place (Some best) → (best.length ≤ most + 1) × (best.cost ≤ best.length * 2 ^ 41)
  one_short most place best small short (inl h) =
      let cost : best.cost ≡ rows_at spans place = ap (λ (b : Best). b.cost) h.1 in
      let long : best.length ≡ 1 = ap (λ (b : Best). b.length) h.1 in (omega (arith, long), omega (arith, long, cost, small))
  one_short most place best small short (inr h) =
      let b = h.1.1 in
      let old = short h.1.0 b h.1.2.known in
      let cost : best.cost ≡ rows_at spans place + b.cost = ap (λ (b : Best). b.cost) h.1.3 in
      let long : best.length ≡ b.length + 1 = ap (λ (b : Best). b.length) h.1.3 in
      (omega (arith, long, old.0), omega (arith, long, cost, small, old.1))

  pub short_set : (most place : ℕ) (best : Best) → place < length bests → All (λ (e : Priced). e.0 < 2 ^ 41) spans → place < length spans → AreShort most bests → GoesOn spans target bests place (Some best) → AreShort (most + 1) (slice_set bests place (Some best))
  short_set most place best low rows under short goes other b is = elim (eqb_tells other place) [
    | inl same ↦
        let there : Some best ≡ Some b = sym (get_or-set_same bests place (Some best) None low) ∙ ap (best_at (slice_set bests place (Some best))) (sym same.1) ∙ is in
        let eq : best ≡ b = cc in
        subst (λ (x : Best). (x.length ≤ most + 1) × (x.cost ≤ x.length * 2 ^ 41)) eq (one_short most place best (rows place _ under) short goes)
    | inr differ ↦
        let old = short other b (sym (get_or-set_other bests place other (Some best) None differ.1) ∙ is) in
        (omega (arith, old.0), old.1)
  ]
