-- The last in the queue is the nearest of the spans that hold a cut.
use Rattle.std.proofs.Common.{◌≡◌, ℕ, ◌<◌, ◌≤◌, List, [], ◌∷◌, Bool, true, false, true≢false, Option, Some, None, ◌⊎◌, inl, inr, refl, ap, sym, ◌∙◌, subst, arith, length}
use Rattle.std.specs.Prelude.{slice_index}
use Rattle.std.specs.Option.{option_map_or}
use Rattle.std.specs.Ordering.{is_lt, nat_cmp, ordering_then}
use Rattle.std.specs.declared.cmp.Ordering.TheVariants.{Less, Equal}
use Rattle.std.specs.Cmp.{nat_cmp_is}
use Rattle.std.proofs.lemmas.List.{get_or-take, length-take-le}
use Rattle.cell_core.specs.declared.cut.Cut.{Cut}
use Rattle.cell_core.specs.declared.cut.Span.{Span}
use Rattle.cell_core.specs.Cuts.{is_cut_below, lies_in}
use Rattle.subsume.proofs.CutOrder.{cut_order, up_to_below, begins, ends, holds}
use Rattle.subsume.proofs.Orderings.{never_itself}
use Rattle.least_cover.specs.declared.best.Best.{Best}
use Rattle.least_cover.specs.Covers.{Priced, span_at, cost_of, IsChain, IsChosen}
use Rattle.least_cover.specs.Best.{AreNear, IsFront, IsQueue, IsReady, LastIs, Waits, best_at, best_cmp, is_nearer, key_at}
use Rattle.least_cover.proofs.Chains.{cost_cons, one_chosen, tail_chosen}
use Rattle.least_cover.proofs.Queues.{fewer, known_low, nat_less, nearer_order}

-- one that costs no more and is shorter comes before
shorter_first : (a b : Best) (i j : ℕ) → a.cost ≤ b.cost → a.length < b.length → is_lt (best_cmp a i b j) ≡ true
shorter_first a b i j cheap short = go (nat_less a.cost b.cost)
  where
    length_less : nat_cmp a.length b.length ≡ Less
    length_less = sym (nat_cmp_is a.length b.length Less short)

    go : (a.cost < b.cost) ⊎ (b.cost ≤ a.cost) → is_lt (best_cmp a i b j) ≡ true
    go (inl less) = ap (λ r. is_lt (ordering_then r (ordering_then (nat_cmp a.length b.length) (nat_cmp i j)))) (sym (nat_cmp_is a.cost b.cost Less less))
    go (inr more) =
        let same : a.cost ≡ b.cost = omega (arith, cheap, more) in
        ap (λ r. is_lt (ordering_then r (ordering_then (nat_cmp a.length b.length) (nat_cmp i j)))) (sym (nat_cmp_is a.cost b.cost Equal same))
        ∙ ap (λ r. is_lt (ordering_then r (nat_cmp i j))) length_less

key_is : (bests : List (Option Best)) (p : ℕ) (best : Best) → best_at bests p ≡ Some best → key_at bests p ≡ best
key_is bests p best is = ap (λ (o : Option Best). option_map_or (λ (b : Best). b) o (record { cost = 0; length = 0; next = None })) is

nearer_is : (bests : List (Option Best)) (p q : ℕ) (a b : Best) → best_at bests p ≡ Some a → best_at bests q ≡ Some b → is_nearer bests p q ≡ is_lt (best_cmp a p b q)
nearer_is bests p q a b ia ib = ap (λ (x : Best). is_lt (best_cmp x p (key_at bests q) q)) (key_is bests p a ia) ∙ ap (λ (x : Best). is_lt (best_cmp a p x q)) (key_is bests q b ib)

module _ (spans : List Priced) (target : Span) (bests : List (Option Best)) (old new : List ℕ) (cut : Cut) (last : Option ℕ) (ready : IsReady spans target bests old cut) (front : IsFront spans cut old new last) where
  long : length new ≡ front.count
  long = ap (λ (xs : List ℕ). length xs) front.left ∙ length-take-le front.count old front.few

  pub left_queue : IsQueue bests new
  left_queue = subst (IsQueue bests) (sym front.left) (fewer bests old ready.in_order front.count front.few (sym (ap (λ (xs : List ℕ). length xs) front.left) ∙ long))

  same_at : (i : ℕ) → i < front.count → slice_index new i ≡ slice_index old i
  same_at i low = ap (λ (xs : List ℕ). slice_index xs i) front.left ∙ get_or-take front.count old i 0 low

  -- what waits stays
  pub left_waits : Waits spans bests cut new
  left_waits p best is up =
      let there = ready.waits p best is up in
      elim (nat_less there.0 front.count) [
        | inl low ↦ (there.0, omega (arith, long, low), same_at there.0 low ∙ there.2)
        | inr past ↦ absurd (true≢false (sym (front.gone there.0 past there.1) ∙ ap (λ k. is_cut_below cut (span_at spans k).low) there.2 ∙ up))
      ]

  -- the last one is known
  pub last_known : (place : ℕ) → last ≡ Some place → (best : Best) × (best_at bests place ≡ Some best)
  last_known place e =
      let at_last = subst (LastIs spans cut old front.count) e front.last_is in
      let known = left_queue.known at_last.0 (let count = at_last.1 in omega (arith, long, count)) in
      (known.0, ap (best_at bests) (sym (same_at at_last.0 (let count = at_last.1 in omega (arith, count)) ∙ at_last.2)) ∙ known.1)

  -- the span ends after the cut, and not at it: one that ends at it goes on with another that comes before it
  holds_cut : (p : ℕ) (best : Best) → best_at bests p ≡ Some best → is_cut_below cut target.high ≡ true → ((q : ℕ) (b : Best) → best_at bests q ≡ Some b → is_cut_below cut (span_at spans q).low ≡ false → is_nearer bests q p ≡ false) → is_cut_below cut (span_at spans p).high ≡ true
  holds_cut p best is low first = go (is_cut_below cut (span_at spans p).high) refl
    where
      go : (r : Bool) → is_cut_below cut (span_at spans p).high ≡ r → r ≡ true
      go true e = refl
      go false tie = next (ready.solved p best is).rest refl
        where
          back : is_cut_below (span_at spans p).high cut ≡ false
          back = ready.ends p best is

          below : is_cut_below (span_at spans p).high target.high ≡ true
          below = up_to_below (span_at spans p).high cut target.high tie low

          next : (rest : List ℕ) → (ready.solved p best is).rest ≡ rest → false ≡ true
          next [] e = absurd (true≢false (sym below ∙ subst (IsChain spans target (span_at spans p).high) e (ready.solved p best is).chosen.0))
          next (w ∷ more) e =
              let chosen : IsChosen spans target (span_at spans p).high (w ∷ more) = subst (IsChosen spans target (span_at spans p).high) e (ready.solved p best is).chosen in
              let far : is_cut_below cut (span_at spans w).high ≡ true = up_to_below cut (span_at spans p).high (span_at spans w).high back (ends (span_at spans w) (span_at spans p).high chosen.0.2) in
              let known = ready.reach w chosen.0.1 far in
              let solved = ready.solved w known.0 known.1 in
              let same : solved.rest ≡ more = one_chosen spans target (span_at spans w).high solved.rest more solved.chosen (tail_chosen spans target (span_at spans p).high w more chosen) in
              let cost_w : known.0.cost ≡ cost_of spans (w ∷ more) = solved.cost ∙ ap (λ (r : List ℕ). cost_of spans (w ∷ r)) same in
              let long_w : known.0.length ≡ length (w ∷ more) = solved.length ∙ ap (λ (r : List ℕ). length (w ∷ r)) same in
              let cost_p : best.cost ≡ cost_of spans (p ∷ w ∷ more) = (ready.solved p best is).cost ∙ ap (λ (r : List ℕ). cost_of spans (p ∷ r)) e in
              let long_p : best.length ≡ length (p ∷ w ∷ more) = (ready.solved p best is).length ∙ ap (λ (r : List ℕ). length (p ∷ r)) e in
              let cons = cost_cons spans p (w ∷ more) in
              let nearer : is_nearer bests w p ≡ true = nearer_is bests w p known.0 best known.1 is ∙ shorter_first known.0 best w p (omega (arith, cost_w, cost_p, cons)) (omega (arith, long_w, long_p)) in
              let up : is_cut_below cut (span_at spans w).low ≡ false = cut_order.chain cut (span_at spans p).high (span_at spans w).low tie (begins (span_at spans w) (span_at spans p).high chosen.0.2) in
              absurd (true≢false (sym nearer ∙ first w known.0 known.1 up))

  module _ (low : is_cut_below cut target.high ≡ true) (same : length bests ≡ length spans) where
    -- none is left
    pub none_near : last ≡ None → AreNear spans bests cut (length spans) None
    none_near e other best under is = elim (lies_in (span_at spans other) cut) as (λ r. lies_in (span_at spans other) cut ≡ r → r ≡ false) [
      | true ↦ λ lies.
          let there = left_waits other best is (begins (span_at spans other) cut lies) in
          let none : front.count ≡ 0 = subst (LastIs spans cut old front.count) e front.last_is in
          absurd (let inside = there.1 in omega (arith, long, none, inside))
      | false ↦ λ _. refl
    ] refl

    pub last_near : (place : ℕ) (best : Best) → last ≡ Some place → best_at bests place ≡ Some best → AreNear spans bests cut (length spans) (Some (place, best))
    last_near place best e is = record {
      low = let under = known_low bests place best is in omega (arith, same, under);
      known = is;
      holds = holds (span_at spans place) cut at_last.3 (holds_cut place best is low first);
      first = λ other b under known lies. sym (nearer_is bests other place b best known is) ∙ first other b known (begins (span_at spans other) cut lies);
    }
      where
        at_last : LastIs spans cut old front.count (Some place)
        at_last = subst (LastIs spans cut old front.count) e front.last_is

        place_is : slice_index new at_last.0 ≡ place
        place_is = same_at at_last.0 (let count = at_last.1 in omega (arith, count)) ∙ at_last.2

        first : (q : ℕ) (b : Best) → best_at bests q ≡ Some b → is_cut_below cut (span_at spans q).low ≡ false → is_nearer bests q place ≡ false
        first q b known up =
            let there = left_waits q b known up in
            elim (nat_less there.0 at_last.0) [
              | inl less ↦ ap (λ k. is_nearer bests k place) (sym there.2) ∙ ap (is_nearer bests (slice_index new there.0)) (sym place_is) ∙ left_queue.falls there.0 at_last.0 less (let count = at_last.1 in omega (arith, long, count))
              | inr past ↦
                  let inside = there.1 in
                  let count = at_last.1 in
                  let here : there.0 ≡ at_last.0 = omega (arith, long, inside, count, past) in
                  let self : q ≡ place = sym there.2 ∙ ap (slice_index new) here ∙ place_is in
                  ap (λ k. is_nearer bests k place) self ∙ never_itself (nearer_order bests) place
            ]
