-- The function returns the chosen chain, and its pieces cut up the target.
use Rattle.std.proofs.Common.{◌≡◌, ℕ, zero, suc, ◌<◌, ◌≤◌, List, [], ◌∷◌, Bool, true, false, true≢false, Option, Some, None, inl, inr, refl, ap, sym, ◌∙◌, subst, arith, length, map}
use Rattle.std.specs.Prelude.{flat_map, if◌then◌else◌}
use Rattle.std.specs.List.{range_with_len}
use Rattle.std.specs.Cmp.{first_so}
use Rattle.std.specs.List.{list_all, list_any}
use Rattle.std.proofs.lemmas.List.FromFn.{get_or-range_with_len, length-range_with_len}
use Rattle.cell_core.specs.declared.cut.Cut.{Cut}
use Rattle.cell_core.specs.declared.cut.Span.{Span}
use Rattle.cell_core.specs.Cuts.{is_cut_below, lies_in, stops, covers}
use Rattle.cell_core.specs.Sorted.{first_by}
use Rattle.subsume.proofs.Members.{In, in_at, contains_from_in, in_filter, filter_in, in_map, map_in, in_flat_map, flat_map_in}
use Rattle.subsume.proofs.LeastFirst.{least_first, first_in, none_before, none_first, IsLeastBeside}
use Rattle.subsume.proofs.Beyond.{beyond, fewer, counted, beyond_few}
use Rattle.subsume.proofs.CutOrder.{never, up_to_below, begins, ends}
use Rattle.least_cover.specs.Covers.{Priced, priced_at, span_at, IsChain, IsChosen, comes_before}
use Rattle.least_cover.specs.Chosen.{holders, chains_from, chain_of, ChosenIsFunction}
use Rattle.least_cover.proofs.Chains.{chain_order, same_chain}
use Rattle.least_cover.proofs.Covering.{all_spans, stop_held, high_stops, chain_covers_all}

-- ## All chains

module _ (spans : List Priced) (target : Span) where
  abbrev high_at : ℕ → Cut
  high_at p = (span_at spans p).high

  pub among_places : (p : ℕ) → p < length spans → In p (range_with_len 0 (length spans))
  among_places p low =
      let here : In _ (range_with_len 0 (length spans)) = in_at (range_with_len 0 (length spans)) p 0 (let all = length-range_with_len 0 (length spans) in omega (arith, all, low)) in
      subst (λ q. In q (range_with_len 0 (length spans))) (get_or-range_with_len 0 (length spans) p 0 low ∙ omega arith) here

  pub place_low : (p : ℕ) → In p (range_with_len 0 (length spans)) → p < length spans
  place_low p i =
      let h = contains_from_in (range_with_len 0 (length spans)) p i in
      let all = length-range_with_len 0 (length spans) in
      let low : h.0 < length spans = let under = h.1 in omega (arith, all, under) in
      let same : p ≡ h.0 = sym h.2 ∙ get_or-range_with_len 0 (length spans) h.0 p low ∙ omega arith in omega (arith, low, same)

  holds_cut : (cut : Cut) (p : ℕ) → In p (holders spans cut) → (p < length spans) × (lies_in (span_at spans p) cut ≡ true)
  holds_cut cut p i = let h = filter_in (λ place. lies_in (span_at spans place) cut) (range_with_len 0 (length spans)) p i in (place_low p h.0, h.1)

  is_holder : (cut : Cut) (p : ℕ) → p < length spans → lies_in (span_at spans p) cut ≡ true → In p (holders spans cut)
  is_holder cut p low lies = in_filter (λ place. lies_in (span_at spans place) cut) (range_with_len 0 (length spans)) p (among_places p low) lies

  abbrev onward : ℕ → ℕ → List (List ℕ)
  onward n place = map (λ places. place ∷ places) (chains_from n spans target (high_at place))

  alone : (chain : List ℕ) (cut : Cut) → is_cut_below cut target.high ≡ false → In chain ([] ∷ []) → IsChain spans target cut chain
  alone chain cut h (inl is) = subst (IsChain spans target cut) (sym is) h
  alone chain cut h (inr more) = absurd more

  chains_in : (n : ℕ) (cut : Cut) (chain : List ℕ) → In chain (chains_from n spans target cut) → IsChain spans target cut chain
  chains_in zero cut chain i = go (is_cut_below cut target.high) refl i
    where
      go : (b : Bool) → is_cut_below cut target.high ≡ b → In chain (if b then [] else [] ∷ []) → IsChain spans target cut chain
      go true h i = absurd i
      go false h i = alone chain cut h i
  chains_in (suc n) cut chain i = go (λ p rest i. chains_in n (high_at p) rest i) (is_cut_below cut target.high) refl i
    where
      go : ((p : ℕ) (rest : List ℕ) → In rest (chains_from n spans target (high_at p)) → IsChain spans target (high_at p) rest)
          → (b : Bool) → is_cut_below cut target.high ≡ b → In chain (if b then flat_map (onward n) (holders spans cut) else [] ∷ []) → IsChain spans target cut chain
      go more true h i =
          let found = flat_map_in (onward n) (holders spans cut) chain i in
          let p = found.0 in
          let rest = map_in (λ places. p ∷ places) (chains_from n spans target (high_at p)) chain found.2 in
          let held = holds_cut cut p found.1 in
          subst (IsChain spans target cut) (sym rest.2) (h, held.0, held.1, more p rest.0 rest.1)
      go more false h i = alone chain cut h i

  abbrev none : List ℕ
  none = []

  every_chain : (n : ℕ) (cut : Cut) (chain : List ℕ) → IsChain spans target cut chain → length chain ≤ n → In chain (chains_from n spans target cut)
  every_chain zero cut [] h few = subst (λ b. In none (if b then [] else none ∷ [])) (sym h) (inl refl)
  every_chain zero cut (p ∷ ps) h few = absurd (omega arith)
  every_chain (suc n) cut [] h few = subst (λ b. In none (if b then flat_map (onward n) (holders spans cut) else none ∷ [])) (sym h) (inl refl)
  every_chain (suc n) cut (p ∷ ps) h few =
      let rest : In ps (chains_from n spans target (high_at p)) = every_chain n (high_at p) ps h.3 (omega arith) in
      subst (λ b. In (p ∷ ps) (if b then flat_map (onward n) (holders spans cut) else [] ∷ [])) (sym h.0)
      (in_flat_map (onward n) (holders spans cut) p (p ∷ ps) (is_holder cut p h.1 h.2) (in_map (λ places. p ∷ places) (chains_from n spans target (high_at p)) ps rest))

  -- a chain has no more spans than reach beyond its beginning
  pub chain_few : (cut : Cut) (chain : List ℕ) → IsChain spans target cut chain → length chain ≤ beyond cut spans
  chain_few cut [] h = omega arith
  chain_few cut (p ∷ ps) h =
      let far = ends (span_at spans p) cut h.2 in
      let fewer_left = fewer cut (high_at p) spans (priced_at spans p) (in_at spans p _ h.1) far far (never (high_at p)) in
      let rest = chain_few (high_at p) ps h.3 in
      omega (arith, fewer_left, rest)

  among_all : (chain : List ℕ) → IsChain spans target target.low chain → In chain (chains_from (length spans) spans target target.low)
  among_all chain h = every_chain (length spans) target.low chain h (let few = chain_few target.low chain h in let all = beyond_few target.low spans in omega (arith, few, all))

  -- ## Where the spans cover the target, a chain goes through it

  module _ (all : covers target (all_spans spans target) ≡ true) where
    low_first : is_cut_below target.low target.high ≡ true
    low_first = first_so (is_cut_below target.low target.high) (list_all (λ stop. list_any (λ s. lies_in s stop) (all_spans spans target)) (stops target (all_spans spans target))) all

    inside : (c : Cut) → In c (stops target (all_spans spans target)) → (is_cut_below c target.low ≡ false) × (is_cut_below c target.high ≡ true)
    inside c (inl e) = (ap (λ x. is_cut_below x target.low) e ∙ never target.low, ap (λ x. is_cut_below x target.high) e ∙ low_first)
    inside c (inr more) = let lies = (filter_in (lies_in target) (map (λ (s : Span). s.high) (all_spans spans target)) c more).1 in (begins target c lies, ends target c lies)

    chain_from : (n : ℕ) (cut : Cut) → beyond cut spans ≤ n → In cut (stops target (all_spans spans target)) → (chain : List ℕ) × IsChain spans target cut chain
    chain_from zero cut few stop =
        let held = stop_held spans target all cut stop in
        let one = counted cut spans (priced_at spans held.0) (in_at spans held.0 _ held.1) (ends (span_at spans held.0) cut held.2) in
        absurd (omega (arith, few, one))
    chain_from (suc n) cut few stop =
        let held = stop_held spans target all cut stop in
        let p = held.0 in
        let far = ends (span_at spans p) cut held.2 in
        let fewer_left = fewer cut (high_at p) spans (priced_at spans p) (in_at spans p _ held.1) far far (never (high_at p)) in
        elim (is_cut_below (high_at p) target.high) as (λ b. is_cut_below (high_at p) target.high ≡ b → (chain : List ℕ) × IsChain spans target cut chain) [
          | true ↦ λ below.
              let next = high_stops spans target p held.1 (up_to_below target.low cut (high_at p) (inside cut stop).0 far) below in
              let rest = chain_from n (high_at p) (omega (arith, few, fewer_left)) next in
              (p ∷ rest.0, ((inside cut stop).1, held.1, held.2, rest.1))
          | false ↦ λ done. (p ∷ [], ((inside cut stop).1, held.1, held.2, done))
        ] refl

    chain_through : (chain : List ℕ) × IsChain spans target target.low chain
    chain_through = chain_from (beyond target.low spans) target.low (omega arith) (inl refl)

  -- ## The function

  pub chosen_to : (chain : List ℕ) → chain_of target spans ≡ Some chain → (is_cut_below target.low target.high ≡ true) × IsChosen spans target target.low chain
  chosen_to chain e = go (is_cut_below target.low target.high) refl e
    where
      go : (b : Bool) → is_cut_below target.low target.high ≡ b → (if b then first_by (comes_before spans) (chains_from (length spans) spans target target.low) else None) ≡ Some chain
          → (is_cut_below target.low target.high ≡ true) × IsChosen spans target target.low chain
      go true h e = (
        h,
        (
          chains_in (length spans) target.low chain (first_in (comes_before spans) (chains_from (length spans) spans target target.low) chain e),
          λ other is. none_before (comes_before spans) (chain_order spans) (chains_from (length spans) spans target target.low) chain e other (among_all other is),
        ),
      )
      go false h e = cc

  pub chosen_from : (chain : List ℕ) → is_cut_below target.low target.high ≡ true → IsChosen spans target target.low chain → chain_of target spans ≡ Some chain
  chosen_from chain low is =
      ap (λ b. if b then first_by (comes_before spans) (chains_from (length spans) spans target target.low) else None) low
      ∙ least_first (comes_before spans) chain (chains_from (length spans) spans target target.low) None (inr (among_all chain is.0)) (λ y none. cc) against
    where
      against : (y : List ℕ) → In y (chains_from (length spans) spans target target.low) → IsLeastBeside (comes_before spans) chain y
      against y i =
          let later : comes_before spans y chain ≡ false = is.1 y (chains_in (length spans) target.low y i) in
          elim (comes_before spans chain y) as (λ b. comes_before spans chain y ≡ b → IsLeastBeside (comes_before spans) chain y) [
            | true ↦ λ h. inr (h, later)
            | false ↦ λ h. inl (same_chain spans y chain later h)
          ] refl

  pub none_to : chain_of target spans ≡ None → covers target (all_spans spans target) ≡ false
  none_to e = go (covers target (all_spans spans target)) refl
    where
      go : (b : Bool) → covers target (all_spans spans target) ≡ b → b ≡ false
      go false h = refl
      go true h =
          let through = chain_through h in
          let nothing : first_by (comes_before spans) (chains_from (length spans) spans target target.low) ≡ None = ap (λ b. if b then first_by (comes_before spans) (chains_from (length spans) spans target target.low) else None) (sym (low_first h)) ∙ e in
          absurd (none_first (comes_before spans) (chains_from (length spans) spans target target.low) through.0 nothing (among_all through.0 through.1))

  pub none_from : covers target (all_spans spans target) ≡ false → chain_of target spans ≡ None
  none_from out = go (chain_of target spans) refl
    where
      go : (o : Option (List ℕ)) → chain_of target spans ≡ o → o ≡ None
      go None e = refl
      go (Some chain) e = let h = chosen_to chain e in absurd (true≢false (sym (chain_covers_all spans target chain h.0 h.1.0) ∙ out))

pub chosen_is_function_holds : ChosenIsFunction
chosen_is_function_holds spans target = (λ chain. (chosen_to spans target chain, λ h. chosen_from spans target chain h.0 h.1), (none_to spans target, none_from spans target))
