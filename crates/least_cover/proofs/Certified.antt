-- The numbers of a certificate show that no cover costs less.
use Rattle.std.proofs.Common.{◌≡◌, ℕ, zero, suc, ◌+◌, ◌<◌, ◌≤◌, List, [], ◌∷◌, true, false, cond, inl, inr, refl, ap, sym, ◌∙◌, subst, arith, length, map}
use Rattle.std.specs.Prelude.{sum_by, slice_index, if◌then◌else◌}
use Rattle.std.specs.List.{list_all, list_any}
use Rattle.std.specs.Cmp.{first_so, second_so}
use Rattle.std.proofs.lemmas.List.Sums.{sum_by-cons}
use Rattle.cell_core.specs.declared.cut.Cut.{Cut}
use Rattle.cell_core.specs.declared.cut.Span.{Span}
use Rattle.cell_core.specs.Cuts.{is_cut_below, lies_in, stops}
use Rattle.least_cover.specs.Covers.{Priced, rows_at, span_at, cost_of, stop_at, is_stop, end_of, IsCover, IsCertificate, IsLeastCost}
use Rattle.subsume.proofs.Members.{In, list_all_in, in_from_list_any, in_filter, in_map, map_in, all_in}
use Rattle.subsume.proofs.CutOrder.{cut_order, never, below_up_to, begins, ends, holds}

module _ (spans : List Priced) (target : Span) where
  abbrev high_at : ℕ → Cut
  high_at p = (span_at spans p).high

  -- the rows of a span, where it ends after a cut
  abbrev paid : Cut → ℕ → ℕ
  paid c p = cond (is_cut_below c (high_at p)) (rows_at spans p) 0

  abbrev beyond : Cut → List ℕ → ℕ
  beyond c ps = sum_by (paid c) ps

  abbrev counted : Cut → ℕ → ℕ
  counted c p = cond (is_cut_below c (high_at p)) 1 0

  abbrev many : Cut → List ℕ → ℕ
  many c ps = sum_by (counted c) ps

  module _ (f : ℕ → ℕ) where
    abbrev weight : Cut → ℕ → ℕ
    weight c p = cond (is_cut_below c (high_at p)) (f p) 0

    less_later : (low high : Cut) (p : ℕ) → is_cut_below low high ≡ true → weight high p ≤ weight low p
    less_later low high p up = elim (is_cut_below high (high_at p)) as (λ b. is_cut_below high (high_at p) ≡ b → cond b (f p) 0 ≤ weight low p) [
      | true ↦ λ h. let far : is_cut_below low (high_at p) ≡ true = below_up_to low high (high_at p) up (cut_order.one_way high (high_at p) h) in let one = ap (λ b. cond b (f p) 0) far in omega (arith, one)
      | false ↦ λ _. omega arith
    ] refl

    no_more : (low high : Cut) (ps : List ℕ) → is_cut_below low high ≡ true → sum_by (weight high) ps ≤ sum_by (weight low) ps
    no_more low high [] up = omega arith
    no_more low high (p ∷ ps) up =
        let old = sum_by-cons (weight low) p ps in
        let new = sum_by-cons (weight high) p ps in
        let one = less_later low high p up in
        let rest = no_more low high ps up in
        omega (arith, old, new, one, rest)

    -- where one of them ends, its weight is gone
    gone : (low : Cut) (ps : List ℕ) (p : ℕ) → In p ps → is_cut_below low (high_at p) ≡ true → f p + sum_by (weight (high_at p)) ps ≤ sum_by (weight low) ps
    gone low [] p i has = absurd i
    gone low (q ∷ qs) p (inl is) has =
        let old = sum_by-cons (weight low) q qs in
        let new = sum_by-cons (weight (high_at p)) q qs in
        let a : weight low q ≡ f p = ap (weight low) (sym is) ∙ ap (λ b. cond b (f p) 0) has in
        let b : weight (high_at p) q ≡ 0 = ap (weight (high_at p)) (sym is) ∙ ap (λ b. cond b (f p) 0) (never (high_at p)) in
        let rest = no_more low (high_at p) qs has in
        omega (arith, old, new, a, b, rest)
    gone low (q ∷ qs) p (inr i) has =
        let old = sum_by-cons (weight low) q qs in
        let new = sum_by-cons (weight (high_at p)) q qs in
        let one = less_later low (high_at p) q has in
        let rest = gone low qs p i has in
        omega (arith, old, new, one, rest)

    at_least : (low : Cut) (ps : List ℕ) (p : ℕ) → In p ps → is_cut_below low (high_at p) ≡ true → f p ≤ sum_by (weight low) ps
    at_least low ps p i has = let h = gone low ps p i has in omega (arith, h)

  all_paid : (c : Cut) (ps : List ℕ) → beyond c ps ≤ cost_of spans ps
  all_paid c [] = omega arith
  all_paid c (p ∷ ps) =
      let part = sum_by-cons (paid c) p ps in
      let whole = sum_by-cons (rows_at spans) p ps in
      let rest = all_paid c ps in
      elim (is_cut_below c (high_at p)) as (λ b. is_cut_below c (high_at p) ≡ b → beyond c (p ∷ ps) ≤ cost_of spans (p ∷ ps)) [
        | true ↦ λ h. let one = ap (λ b. cond b (rows_at spans p) 0) h in omega (arith, part, whole, rest, one)
        | false ↦ λ h. let one = ap (λ b. cond b (rows_at spans p) 0) h in omega (arith, part, whole, rest, one)
      ] refl

  module _ (cost : ℕ) (labels : List ℕ) (ok : IsCertificate spans target cost labels) (ps : List ℕ) (cover : IsCover spans target ps) where
    abbrev some : List Span
    some = map (span_at spans) ps

    low_first : is_cut_below target.low target.high ≡ true
    low_first = first_so (is_cut_below target.low target.high) (list_all (λ stop. list_any (λ s. lies_in s stop) some) (stops target some)) cover.covering

    held : (c : Cut) → In c (stops target some) → (p : ℕ) × In p ps × (lies_in (span_at spans p) c ≡ true)
    held c i =
        let all = second_so (is_cut_below target.low target.high) (list_all (λ stop. list_any (λ s. lies_in s stop) some) (stops target some)) cover.covering in
        let found = in_from_list_any (λ s. lies_in s c) some (list_all_in (λ stop. list_any (λ s. lies_in s stop) some) (stops target some) c all i) in
        let place = map_in (span_at spans) ps found.0 found.1 in
        (place.0, place.1, ap (λ (s : Span). lies_in s c) (sym place.2) ∙ found.2)

    within : (p : ℕ) → In p ps → p < length spans
    within p i = all_in (λ p. p < length spans) ps p cover.within i

    -- what is left of the cover from a stop on pays what is left of the cost
    pays : (n i : ℕ) → many (stop_at spans target i) ps ≤ n → i ≤ length spans → is_stop spans target i ≡ true → In (stop_at spans target i) (stops target some) → cost ≤ slice_index labels i + beyond (stop_at spans target i) ps
    pays zero i few low stop among =
        let found = held (stop_at spans target i) among in
        let one = at_least (λ p. 1) (stop_at spans target i) ps found.0 found.1 (ends (span_at spans found.0) (stop_at spans target i) found.2) in
        absurd (omega (arith, few, one))
    pays (suc n) i few low stop among =
        let found = held (stop_at spans target i) among in
        let p = found.0 in
        let c = stop_at spans target i in
        let far = ends (span_at spans p) c found.2 in
        let step = ok.steps i p low stop (within p found.1) found.2 in
        elim (is_cut_below (high_at p) target.high) as (λ b. is_cut_below (high_at p) target.high ≡ b → cost ≤ slice_index labels i + beyond c ps) [
          | true ↦ λ below.
              let fewer : 1 + many (high_at p) ps ≤ many c ps = gone (λ p. 1) c ps p found.1 far in
              let pay : rows_at spans p + beyond (high_at p) ps ≤ beyond c ps = gone (rows_at spans) c ps p found.1 far in
              let to : end_of spans target p ≡ suc p = ap (λ b. if b then suc p else suc (length spans)) below in
              let step2 : slice_index labels (suc p) ≤ slice_index labels i + rows_at spans p = subst (λ k. slice_index labels k ≤ slice_index labels i + rows_at spans p) to step in
              let inside : lies_in target (high_at p) ≡ true = holds target (high_at p) (cut_order.chain (high_at p) c target.low (cut_order.one_way c (high_at p) far) (begins target c stop)) below in
              let there : In (high_at p) (stops target some) = inr (in_filter (lies_in target) (map (λ (s : Span). s.high) some) (high_at p) (in_map (λ (s : Span). s.high) some (span_at spans p) (in_map (span_at spans) ps p found.1)) inside) in
              let under : p < length spans = within p found.1 in
              let rest : cost ≤ slice_index labels (suc p) + beyond (high_at p) ps = pays n (suc p) (omega (arith, few, fewer)) (omega (arith, under)) inside there in
              omega (arith, rest, step2, pay)
          | false ↦ λ done.
              let pay : rows_at spans p ≤ beyond c ps = at_least (rows_at spans) c ps p found.1 far in
              let to : end_of spans target p ≡ suc (length spans) = ap (λ b. if b then suc p else suc (length spans)) done in
              let step2 : slice_index labels (suc (length spans)) ≤ slice_index labels i + rows_at spans p = subst (λ k. slice_index labels k ≤ slice_index labels i + rows_at spans p) to step in
              let high = ok.high in
              omega (arith, step2, high, pay)
        ] refl

  pub bounds : (cost : ℕ) (labels : List ℕ) → IsCertificate spans target cost labels → IsLeastCost spans target cost
  bounds cost labels ok ps cover =
      let low = low_first cost labels ok ps cover in
      let all = pays cost labels ok ps cover (many target.low ps) 0 (omega arith) (omega arith) (holds target target.low (never target.low) low) (inl refl) in
      let paid_all = all_paid target.low ps in
      let zero_is = ok.low in
      omega (arith, all, paid_all, zero_is)
