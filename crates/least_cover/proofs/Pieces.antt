-- The pieces of the cheapest cover cut up the target.
use Rattle.std.proofs.Common.{◌≡◌, ◌↔◌, ℕ, suc, ◌<◌, List, [], ◌∷◌, Bool, true, false, true≢false, Option, Some, None, refl, ap, sym, ◌∙◌, subst, arith, length, map}
use Rattle.std.specs.Prelude.{if◌then◌else◌}
use Rattle.std.specs.Option.{option_map}
use Rattle.std.proofs.Math.ListN.{get_or-map}
use Rattle.cell_core.specs.declared.cut.Cut.{Cut}
use Rattle.cell_core.specs.declared.cut.Cut.TheVariants.{Low}
use Rattle.cell_core.specs.declared.cut.Span.{Span}
use Rattle.cell_core.specs.Cuts.{is_cut_below, lies_in, covers}
use Rattle.subsume.specs.Cutting.{Entry, IsCutUp, least_cut}
use Rattle.subsume.proofs.Members.{In, in_at, in_map, contains_from_in}
use Rattle.subsume.proofs.CutOrder.{cut_order, never}
use Rattle.least_cover.specs.Covers.{Priced, span_at, IsChain}
use Rattle.least_cover.specs.Chosen.{Selection, entry_of, entry_at, chain_of, pieces_from, cheapest_of, CheapestCutsUp}
use Rattle.least_cover.proofs.Chosen.{chosen_to, none_to, none_from}

module _ (target : Span) (selections : List Selection) where
  abbrev priced : List Priced
  priced = map (λ (s : Selection). s.1) selections

  abbrev entries : List Entry
  entries = map entry_of selections

  same_span : (p : ℕ) → span_at priced p ≡ (entry_at selections p).1
  same_span p = ap (λ (e : Priced). e.1) (get_or-map (λ (s : Selection). s.1) selections p (0, (0, record { low = Low; high = Low })))

  same_length : (ss : List Selection) → length (map (λ (s : Selection). s.1) ss) ≡ length ss
  same_length [] = refl
  same_length (s ∷ ss) = ap suc (same_length ss)

  among : (p : ℕ) → p < length priced → In (entry_at selections p) entries
  among p low = in_map entry_of selections _ (in_at selections p _ (let all = same_length selections in omega (arith, all, low)))

  abbrev high_at : ℕ → Cut
  high_at p = (entry_at selections p).1.high

  -- after the target's high a chain is empty
  no_more : (cut : Cut) (chain : List ℕ) → is_cut_below cut target.high ≡ false → IsChain priced target cut chain → chain ≡ []
  no_more cut [] h is = refl
  no_more cut (p ∷ ps) h is = absurd (true≢false (sym is.0 ∙ h))

  cut_up_by : (cut : Cut) (chain : List ℕ) → IsChain priced target cut chain → IsCutUp target entries cut (pieces_from target selections cut chain)
  cut_up_by cut [] h = h
  cut_up_by cut (p ∷ ps) h =
      (h.0, (entry_at selections p, (contains_from_in entries (entry_at selections p) (among p h.1), ap (λ (s : Span). lies_in s cut) (sym (same_span p)) ∙ h.2), refl), rest (cut_up_by (high_at p) ps after) (is_cut_below target.high (high_at p)) refl)
    where
      after : IsChain priced target (high_at p) ps
      after = subst (λ (s : Span). IsChain priced target s.high ps) (same_span p) h.3

      -- the piece ends at the target's high, or where the next begins
      rest : IsCutUp target entries (high_at p) (pieces_from target selections (high_at p) ps) → (b : Bool) → is_cut_below target.high (high_at p) ≡ b → IsCutUp target entries (least_cut (high_at p) target.high) (pieces_from target selections (least_cut (high_at p) target.high) ps)
      rest more true e =
          let end : target.high ≡ least_cut (high_at p) target.high = ap (λ b. if b then target.high else high_at p) (sym e) in
          let nothing : ps ≡ [] = no_more (high_at p) ps (cut_order.one_way target.high (high_at p) e) after in
          subst (λ c. IsCutUp target entries c (pieces_from target selections c ps)) end (subst (λ qs. IsCutUp target entries target.high (pieces_from target selections target.high qs)) (sym nothing) (never target.high))
      rest more false e =
          let end : high_at p ≡ least_cut (high_at p) target.high = ap (λ b. if b then target.high else high_at p) (sym e) in
          subst (λ c. IsCutUp target entries c (pieces_from target selections c ps)) end more

  some_pieces : (o : Option (List ℕ)) (pieces : List Entry) → option_map (pieces_from target selections target.low) o ≡ Some pieces → (chain : List ℕ) × (o ≡ Some chain) × (pieces ≡ pieces_from target selections target.low chain)
  some_pieces None pieces e = cc
  some_pieces (Some chain) pieces e = (chain, refl, cc)

  no_pieces : (o : Option (List ℕ)) → option_map (pieces_from target selections target.low) o ≡ None → o ≡ None
  no_pieces None e = refl
  no_pieces (Some chain) e = cc

  pieces_cut_up : (pieces : List Entry) → cheapest_of target selections ≡ Some pieces → IsCutUp target entries target.low pieces
  pieces_cut_up pieces e =
      let found = some_pieces (chain_of target priced) pieces e in
      subst (IsCutUp target entries target.low) (sym found.2) (cut_up_by target.low found.0 (chosen_to priced target found.0 found.1).1.0)

  same_spans : (ss : List Selection) → map (λ (e : Priced). e.1) (map (λ (s : Selection). s.1) ss) ≡ map (λ (s : Selection). s.1.1) ss
  same_spans [] = refl
  same_spans (s ∷ ss) = ap (λ xs. s.1.1 ∷ xs) (same_spans ss)

  pieces_none : (cheapest_of target selections ≡ None) ↔ (covers target (map (λ (s : Selection). s.1.1) selections) ≡ false)
  pieces_none = (
    λ e. ap (covers target) (sym (same_spans selections)) ∙ none_to priced target (no_pieces (chain_of target priced) e),
    λ out. ap (option_map (pieces_from target selections target.low)) (none_from priced target (ap (covers target) (same_spans selections) ∙ out)),
  )

pub cheapest_cuts_up_holds : CheapestCutsUp
cheapest_cuts_up_holds target selections = (pieces_cut_up target selections, pieces_none target selections)
