-- The numbers that are written are a certificate.
use Rattle.std.proofs.Common.{◌≡◌, ℕ, zero, suc, ◌+◌, ◌-◌, ◌<◌, ◌≤◌, List, [], ◌∷◌, Bool, true, false, true≢false, ◌&&◌, Option, refl, ap, sym, ◌∙◌, arith, length, map}
use Rattle.std.specs.Prelude.{slice_index, if◌then◌else◌}
use Rattle.std.specs.List.{range_with_len}
use Rattle.std.specs.Option.{option_map_or}
use Rattle.std.proofs.lemmas.List.{length-append, get_or_append_left}
use Rattle.std.proofs.lemmas.List.{get_or-append_right}
use Rattle.std.proofs.lemmas.List.FromFn.{get_or-map-range_with_len, length-map-range_with_len}
use Rattle.cell_core.specs.declared.cut.Cut.{Cut}
use Rattle.cell_core.specs.declared.cut.Span.{Span}
use Rattle.cell_core.specs.Cuts.{is_cut_below, lies_in}
use Rattle.subsume.proofs.CutOrder.{cut_order, up_to_below, begins, ends, holds}
use Rattle.least_cover.specs.declared.best.Best.{Best}
use Rattle.least_cover.specs.Covers.{Priced, rows_at, span_at, cost_of, stop_at, is_stop, end_of, IsChain, IsChosen, IsCertificate}
use Rattle.least_cover.specs.Best.{Solves, best_at, label_for, labels_for}
use Rattle.least_cover.proofs.Chains.{chosen_costs, cost_cons}

module _ (spans : List Priced) (target : Span) where
  abbrev high_at : ℕ → Cut
  high_at p = (span_at spans p).high

  -- from cuts at one place the same chains go on
  same_chains : (a b : Cut) → is_cut_below a b ≡ false → is_cut_below b a ≡ false → (chain : List ℕ) → IsChain spans target a chain → IsChain spans target b chain
  same_chains a b x y [] h = cut_order.chain b a target.high y h
  same_chains a b x y (p ∷ ps) h = (
    up_to_below b a target.high x h.0,
    h.1,
    holds (span_at spans p) b (cut_order.chain b a (span_at spans p).low y (begins (span_at spans p) a h.2)) (up_to_below b a (high_at p) x (ends (span_at spans p) a h.2)),
    h.3,
  )

  module _ (bests : List (Option Best)) (solves : Solves spans target bests true) (cost : ℕ) (whole : List ℕ) (chosen : IsChosen spans target target.low whole) (cost_is : cost ≡ cost_of spans whole) where
    abbrev labels : List ℕ
    labels = labels_for spans target cost bests

    abbrev inner : List ℕ
    inner = map (label_for spans target cost bests) (range_with_len 0 (length spans))

    inner_long : length inner ≡ length spans
    inner_long = length-map-range_with_len (label_for spans target cost bests) 0 (length spans)

    last_label : slice_index labels (suc (length spans)) ≡ cost
    last_label = get_or-append_right inner (cost ∷ []) (length spans) (length spans) 0 inner_long (omega arith) ∙ (let none : length spans - length spans ≡ 0 = omega arith in ap (λ n. slice_index (cost ∷ []) n) none)

    label_at : (p : ℕ) → p < length spans → slice_index labels (suc p) ≡ label_for spans target cost bests p
    label_at p low = get_or_append_left inner (cost ∷ []) 0 p (omega (arith, inner_long, low)) ∙ get_or-map-range_with_len (label_for spans target cost bests) 0 (length spans) p p 0 low (omega arith)

    abbrev within : ℕ → Bool
    within p = is_cut_below target.low (high_at p) && is_cut_below (high_at p) target.high

    -- where the high of a span is no stop, its number is 0
    other_label : (p : ℕ) → is_stop spans target (suc p) ≡ false → label_for spans target cost bests p ≡ 0
    other_label p out = go (is_cut_below target.low (high_at p)) (is_cut_below (high_at p) target.high) refl refl
      where
        go : (a b : Bool) → is_cut_below target.low (high_at p) ≡ a → is_cut_below (high_at p) target.high ≡ b
            → (if a && b then option_map_or (λ (best : Best). cost - (best.cost - rows_at spans p)) (best_at bests p) 0 else 0) ≡ 0
        go true true h k = absurd (true≢false (sym (holds target (high_at p) (cut_order.one_way target.low (high_at p) h) k) ∙ out))
        go true false h k = refl
        go false b h k = refl

    -- the number of an inner stop, and the chain that goes on there
    record IsNumbered (p : ℕ) : Type 0 where
      pub rest : List ℕ
      pub goes : IsChosen spans target (high_at p) rest
      pub label : slice_index labels (suc p) ≡ cost - cost_of spans rest

    numbered : (p : ℕ) → p < length spans → is_cut_below target.low (high_at p) ≡ true → is_cut_below (high_at p) target.high ≡ true → IsNumbered p
    numbered p low above below =
        let known = solves.1 p low above in
        let solved = solves.0 p known.0 known.1 in
        let cons = cost_cons spans p solved.rest in
        let there = solved.cost in
        let left : known.0.cost - rows_at spans p ≡ cost_of spans solved.rest = omega (arith, cons, there) in record {
          rest = solved.rest;
          goes = solved.chosen;
          label = label_at p low
              ∙ ap (λ a. if a && is_cut_below (high_at p) target.high then option_map_or (λ (best : Best). cost - (best.cost - rows_at spans p)) (best_at bests p) 0 else 0) above
              ∙ ap (λ b. if b then option_map_or (λ (best : Best). cost - (best.cost - rows_at spans p)) (best_at bests p) 0 else 0) below
              ∙ ap (λ (o : Option Best). option_map_or (λ (best : Best). cost - (best.cost - rows_at spans p)) o 0) known.1
              ∙ ap (λ n. cost - n) left;
        }

    -- the number of a stop and what any chain from there costs make up the whole cost
    pays : (i : ℕ) → i ≤ length spans → is_stop spans target i ≡ true → (chain : List ℕ) → IsChain spans target (stop_at spans target i) chain → cost ≤ slice_index labels i + cost_of spans chain
    pays zero low stop chain h = let least = chosen_costs spans target target.low whole chain chosen h in omega (arith, least, cost_is)
    pays (suc p) low stop chain h = elim (is_cut_below target.low (high_at p)) as (λ a. is_cut_below target.low (high_at p) ≡ a → cost ≤ slice_index labels (suc p) + cost_of spans chain) [
      | true ↦ λ above.
          let n = numbered p (omega (arith, low)) above (ends target (high_at p) stop) in
          let least = chosen_costs spans target (high_at p) n.rest chain n.goes h in
          let label = n.label in
          omega (arith, least, label)
      | false ↦ λ tie.
          let from_low = same_chains (high_at p) target.low (begins target (high_at p) stop) tie chain h in
          let least = chosen_costs spans target target.low whole chain chosen from_low in
          omega (arith, least, cost_is)
    ] refl

    step : (i p : ℕ) → i ≤ length spans → is_stop spans target i ≡ true → p < length spans → lies_in (span_at spans p) (stop_at spans target i) ≡ true
        → slice_index labels (end_of spans target p) ≤ slice_index labels i + rows_at spans p
    step i p low stop under lies = go (is_cut_below (high_at p) target.high) refl
      where
        far : is_cut_below (stop_at spans target i) (high_at p) ≡ true
        far = ends (span_at spans p) (stop_at spans target i) lies

        above : is_cut_below target.low (high_at p) ≡ true
        above = up_to_below target.low (stop_at spans target i) (high_at p) (begins target (stop_at spans target i) stop) far

        go : (b : Bool) → is_cut_below (high_at p) target.high ≡ b → slice_index labels (if b then suc p else suc (length spans)) ≤ slice_index labels i + rows_at spans p
        go true below =
            let n = numbered p under above below in
            let all = pays i low stop (p ∷ n.rest) (ends target (stop_at spans target i) stop, under, lies, n.goes.0) in
            let cons = cost_cons spans p n.rest in
            let label = n.label in
            omega (arith, all, cons, label)
        go false done =
            let all = pays i low stop (p ∷ []) (ends target (stop_at spans target i) stop, under, lies, done) in
            let cons = cost_cons spans p [] in
            let label = last_label in
            omega (arith, all, cons, label)

    -- the chain that goes on at a stop, from which its number comes
    record GoesOnAt (i : ℕ) : Type 0 where
      rest : List ℕ
      goes : IsChosen spans target (stop_at spans target i) rest
      label : slice_index labels i ≡ cost - cost_of spans rest

    nothing_paid : 0 ≡ cost - cost_of spans whole
    nothing_paid = omega (arith, cost_is)

    goes_on : (i : ℕ) → i ≤ length spans → is_stop spans target i ≡ true → GoesOnAt i
    goes_on zero low stop = record { rest = whole; goes = chosen; label = nothing_paid }
    goes_on (suc p) low stop = elim (is_cut_below target.low (high_at p)) as (λ a. is_cut_below target.low (high_at p) ≡ a → GoesOnAt (suc p)) [
      | true ↦ λ above. let n = numbered p (omega (arith, low)) above (ends target (high_at p) stop) in record { rest = n.rest; goes = n.goes; label = n.label }
      | false ↦ λ tie.
          let level = begins target (high_at p) stop in
          let zero_is = label_at p (omega (arith, low)) ∙ ap (λ a. if a && is_cut_below (high_at p) target.high then option_map_or (λ (best : Best). cost - (best.cost - rows_at spans p)) (best_at bests p) 0 else 0) tie in record {
            rest = whole;
            goes = (same_chains target.low (high_at p) tie level whole chosen.0, λ other h. chosen.1 other (same_chains (high_at p) target.low level tie other h));
            label = zero_is ∙ nothing_paid;
          }
    ] refl

    same_numbers : (i j : ℕ) → i ≤ length spans → j ≤ length spans → is_stop spans target i ≡ true → is_stop spans target j ≡ true
        → is_cut_below (stop_at spans target i) (stop_at spans target j) ≡ false → is_cut_below (stop_at spans target j) (stop_at spans target i) ≡ false
        → slice_index labels i ≡ slice_index labels j
    same_numbers i j i_low j_low i_stop j_stop x y =
        let a = goes_on i i_low i_stop in
        let b = goes_on j j_low j_stop in
        let no_more = chosen_costs spans target (stop_at spans target i) a.rest b.rest a.goes (same_chains (stop_at spans target j) (stop_at spans target i) y x b.rest b.goes.0) in
        let no_less = chosen_costs spans target (stop_at spans target j) b.rest a.rest b.goes (same_chains (stop_at spans target i) (stop_at spans target j) x y a.rest a.goes.0) in
        let of_a = a.label in
        let of_b = b.label in
        omega (arith, no_more, no_less, of_a, of_b)

    pub certify : IsCertificate spans target cost (labels_for spans target cost bests)
    certify = record {
      size = ap suc (length-append inner (cost ∷ [])) ∙ (let long = inner_long in omega (arith, long));
      low = refl;
      high = last_label;
      others = λ p low out. label_at p low ∙ other_label p out;
      same = same_numbers;
      steps = step;
    }
