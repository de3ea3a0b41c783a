-- A chain is a cover, and where a stop is held by no span, there is none.
use Rattle.std.proofs.Common.{◌≡◌, ℕ, zero, suc, ◌<◌, List, [], ◌∷◌, Bool, true, false, true≢false, inl, inr, refl, ap, sym, ◌∙◌, arith, length, map, nat_eq}
use Rattle.std.specs.Prelude.{All}
use Rattle.std.specs.List.{AllByRecursion, IsDistinct, list_all, list_any}
use Rattle.std.specs.Cmp.{second_so}
use Rattle.std.proofs.lemmas.Bool.Decides.{Decides-eqb}
use Rattle.std.proofs.lemmas.Bool.{and_from}
use Rattle.cell_core.specs.declared.cut.Cut.{Cut}
use Rattle.cell_core.specs.declared.cut.Span.{Span}
use Rattle.cell_core.specs.Cuts.{is_cut_below, lies_in, stops, covers}
use Rattle.subsume.proofs.CutOrder.{cut_order, never, up_to_below, holds, begins, ends}
use Rattle.least_cover.specs.Covers.{Priced, priced_at, span_at, IsChain, IsCover}
use Rattle.subsume.proofs.Members.{In, in_at, list_all_in, list_all_from_in, list_any_from_in, in_from_list_any, in_filter, filter_in, in_map}

module _ (spans : List Priced) (target : Span) where
  abbrev pub all_spans : List Span
  all_spans = map (λ (e : Priced). e.1) spans

  pub span_among : (place : ℕ) → place < length spans → In (span_at spans place) all_spans
  span_among place low = in_map (λ (e : Priced). e.1) spans (priced_at spans place) (in_at spans place _ low)

  -- each cut from the beginning of a chain to the target's end lies in one of its spans
  chain_holds : (from : Cut) (chain : List ℕ) → IsChain spans target from chain → (c : Cut) → is_cut_below c from ≡ false → is_cut_below c target.high ≡ true
      → (p : ℕ) × In p chain × (p < length spans) × (lies_in (span_at spans p) c ≡ true)
  chain_holds from [] h c up low = absurd (true≢false (sym low ∙ cut_order.chain c from target.high up h))
  chain_holds from (p ∷ ps) h c up low = elim (is_cut_below c (span_at spans p).high) as (λ b. is_cut_below c (span_at spans p).high ≡ b → (q : ℕ) × In q (p ∷ ps) × (q < length spans) × (lies_in (span_at spans q) c ≡ true)) [
    | true ↦ λ far. (p, inl refl, h.1, holds (span_at spans p) c (cut_order.chain c from (span_at spans p).low up (begins (span_at spans p) from h.2)) far)
    | false ↦ λ short. let more = chain_holds (span_at spans p).high ps h.3 c short low in (more.0, inr more.1, more.2, more.3)
  ] refl

  -- so spans that have all those of the chain cover the target
  pub chain_covers : (chain : List ℕ) (some : List Span) → is_cut_below target.low target.high ≡ true → IsChain spans target target.low chain → ((p : ℕ) → In p chain → p < length spans → In (span_at spans p) some) → covers target some ≡ true
  chain_covers chain some low h among = and_from (is_cut_below target.low target.high) (list_all held (stops target some)) low (list_all_from_in held (stops target some) each)
    where
      held : Cut → Bool
      held stop = list_any (λ s. lies_in s stop) some

      at : (c : Cut) → is_cut_below c target.low ≡ false → is_cut_below c target.high ≡ true → held c ≡ true
      at c up below = let found = chain_holds target.low chain h c up below in list_any_from_in (λ s. lies_in s c) some (span_at spans found.0) (among found.0 found.1 found.2) found.3

      each : (c : Cut) → In c (stops target some) → held c ≡ true
      each c (inl e) = ap held e ∙ at target.low (never target.low) low
      each c (inr more) = let lies = (filter_in (lies_in target) (map (λ (s : Span). s.high) some) c more).1 in at c (begins target c lies) (ends target c lies)

  -- ## A chain is a cover

  chain_within : (from : Cut) (chain : List ℕ) → IsChain spans target from chain → AllByRecursion (λ p. p < length spans) chain
  chain_within from [] h = tt
  chain_within from (p ∷ ps) h = (h.1, chain_within (span_at spans p).high ps h.3)

  -- all spans of a chain end after its beginning
  chain_beyond : (from start : Cut) (chain : List ℕ) → is_cut_below from start ≡ false → IsChain spans target from chain → AllByRecursion (λ p. is_cut_below start (span_at spans p).high ≡ true) chain
  chain_beyond from start [] up h = tt
  chain_beyond from start (p ∷ ps) up h =
      let far = up_to_below start from (span_at spans p).high up (ends (span_at spans p) from h.2) in
      (far, chain_beyond (span_at spans p).high start ps (cut_order.one_way start (span_at spans p).high far) h.3)

  differs : (p : ℕ) (ps : List ℕ) → AllByRecursion (λ q. is_cut_below (span_at spans p).high (span_at spans q).high ≡ true) ps → AllByRecursion (λ q. nat_eq p q ≡ false) ps
  differs p [] h = tt
  differs p (q ∷ qs) h = (
    elim (nat_eq p q) as (λ b. nat_eq p q ≡ b → b ≡ false) [
      | true ↦ λ e. let same : p ≡ q = (Decides-eqb p q).0 e in absurd (true≢false (sym h.0 ∙ ap (λ k. is_cut_below (span_at spans p).high (span_at spans k).high) (sym same) ∙ never (span_at spans p).high))
      | false ↦ λ e. refl
    ] refl,
    differs p qs h.1,
  )

  chain_distinct : (from : Cut) (chain : List ℕ) → IsChain spans target from chain → IsDistinct nat_eq chain
  unfolding IsDistinct
  chain_distinct from [] h = tt
  chain_distinct from (p ∷ ps) h = (differs p ps (chain_beyond (span_at spans p).high (span_at spans p).high ps (never (span_at spans p).high) h.3), chain_distinct (span_at spans p).high ps h.3)

  all_at : (P : ℕ → Type 0) (xs : List ℕ) → AllByRecursion P xs → All P xs
  all_at P [] h k d low = absurd (omega arith)
  all_at P (x ∷ xs) h zero d low = h.0
  all_at P (x ∷ xs) h (suc k) d low = all_at P xs h.1 k d (omega arith)

  pub chain_is_cover : (chain : List ℕ) → is_cut_below target.low target.high ≡ true → IsChain spans target target.low chain → IsCover spans target chain
  chain_is_cover chain low h = record {
    within = all_at (λ p. p < length spans) chain (chain_within target.low chain h);
    distinct = chain_distinct target.low chain h;
    covering = chain_covers chain (map (span_at spans) chain) low h (λ p i within. in_map (span_at spans) chain p i);
  }

  pub chain_covers_all : (chain : List ℕ) → is_cut_below target.low target.high ≡ true → IsChain spans target target.low chain → covers target all_spans ≡ true
  chain_covers_all chain low h = chain_covers chain all_spans low h (λ p i within. span_among p within)

  -- ## Stops

  somewhere : (es : List Priced) (s : Span) → In s (map (λ (e : Priced). e.1) es) → (p : ℕ) × (p < length es) × (s ≡ span_at es p)
  somewhere [] s h = absurd h
  somewhere (e ∷ es) s (inl is) = (0, omega arith, is)
  somewhere (e ∷ es) s (inr more) = let h = somewhere es s more in (suc h.0, omega (arith, h.1), h.2)

  -- where the spans cover the target, one of them holds each stop
  pub stop_held : covers target all_spans ≡ true → (c : Cut) → In c (stops target all_spans) → (p : ℕ) × (p < length spans) × (lies_in (span_at spans p) c ≡ true)
  stop_held e c stop =
      let held = list_all_in (λ stop. list_any (λ s. lies_in s stop) all_spans) (stops target all_spans) c (second_so (is_cut_below target.low target.high) (list_all (λ stop. list_any (λ s. lies_in s stop) all_spans) (stops target all_spans)) e) stop in
      let found = in_from_list_any (λ s. lies_in s c) all_spans held in
      let place = somewhere spans found.0 found.1 in
      (place.0, place.1, ap (λ (s : Span). lies_in s c) (sym place.2) ∙ found.2)

  pub uncovered : (c : Cut) → In c (stops target all_spans) → ((p : ℕ) → p < length spans → lies_in (span_at spans p) c ≡ false) → covers target all_spans ≡ false
  uncovered c stop none = elim (covers target all_spans) as (λ b. covers target all_spans ≡ b → b ≡ false) [
    | true ↦ λ e. let held = stop_held e c stop in absurd (true≢false (sym held.2 ∙ none held.0 held.1))
    | false ↦ λ e. refl
  ] refl

  pub high_stops : (p : ℕ) → p < length spans → is_cut_below target.low (span_at spans p).high ≡ true → is_cut_below (span_at spans p).high target.high ≡ true → In (span_at spans p).high (stops target all_spans)
  high_stops p low above below =
      inr (in_filter (lies_in target) (map (λ (s : Span). s.high) all_spans) (span_at spans p).high (in_map (λ (s : Span). s.high) all_spans (span_at spans p) (span_among p low)) (holds target (span_at spans p).high (cut_order.one_way target.low (span_at spans p).high above) below))
