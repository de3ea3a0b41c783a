-- The chain is listed from span to span, each known to go on as the chosen chain does.
use Rattle.std.proofs.Common.{◌≡◌, ℕ, ◌<◌, ◌≤◌, List, [], ◌∷◌, ◌++◌, true, false, Option, Some, None, refl, ap, sym, ◌∙◌, subst, arith, length, append-nil, append_assoc}
use Rattle.std.specs.Option.{option_and_then}
use Rattle.std.proofs.lemmas.List.{length-append}
use Rattle.cell_core.specs.declared.cut.Cut.{Cut}
use Rattle.cell_core.specs.declared.cut.Span.{Span}
use Rattle.cell_core.specs.Cuts.{is_cut_below}
use Rattle.subsume.proofs.Beyond.{beyond_few}
use Rattle.subsume.proofs.CutOrder.{cut_order, never, up_to_below, ends}
use Rattle.least_cover.specs.declared.best.Best.{Best}
use Rattle.least_cover.specs.Covers.{Priced, span_at, IsChosen}
use Rattle.least_cover.specs.Best.{IsNearest, Solves, best_at, first_of}
use Rattle.least_cover.proofs.Chains.{one_chosen, tail_chosen}
use Rattle.least_cover.proofs.Chosen.{chain_few}
use Rattle.least_cover.proofs.Through.{chain_through, through_first}

-- what is listed so far and some rest are the chosen chain, and the rest begins with what is next
pub record IsFollowed (spans : List Priced) (target : Span) (listed : List ℕ) (next : Option ℕ) : Type 0 where
  pub cut : Cut
  pub rest : List ℕ
  pub begun : is_cut_below cut target.low ≡ false
  pub goes : IsChosen spans target cut rest
  pub whole : IsChosen spans target target.low (listed ++ rest)
  pub next_is : next ≡ first_of rest

pub moved : (spans : List Priced) (target : Span) (xs ys : List ℕ) (o p : Option ℕ) → xs ≡ ys → o ≡ p → IsFollowed spans target ys p → IsFollowed spans target xs o
moved spans target xs ys o p e f h = subst (λ zs. IsFollowed spans target zs o) (sym e) (subst (λ q. IsFollowed spans target ys q) (sym f) h)

module _ (spans : List Priced) (target : Span) (bests : List (Option Best)) (solves : Solves spans target bests true) where
  pub begin : (first : ℕ) (best : Best) → is_cut_below target.low target.high ≡ true → IsNearest spans bests target.low (length spans) first best → IsFollowed spans target [] (Some first)
  begin first best low near = let through = chain_through spans target bests solves first best low near in record {
    cut = target.low;
    rest = through.0;
    begun = never target.low;
    goes = through.1;
    whole = through.1;
    next_is = through_first spans target bests solves first best low near;
  }

  pub ending : (listed : List ℕ) → IsFollowed spans target listed None → IsChosen spans target target.low listed
  ending listed h = subst (IsChosen spans target target.low) (ap (λ rest. listed ++ rest) (nothing h.rest h.next_is) ∙ append-nil listed) h.whole
    where
      nothing : (rest : List ℕ) → None ≡ first_of rest → rest ≡ []
      nothing [] e = refl
      nothing (p ∷ ps) e = cc

  -- what is next is known, and lies within the spans
  pub record HasNext (listed : List ℕ) (place : ℕ) : Type 0 where
    pub low : place < length spans
    pub few : length listed < length spans
    pub more : IsFollowed spans target (listed ++ place ∷ []) (option_and_then (λ (best : Best). best.next) (best_at bests place))

  pub onward : (listed : List ℕ) (place : ℕ) → IsFollowed spans target listed (Some place) → HasNext listed place
  onward listed place h = go h.rest h.next_is h.goes h.whole
    where
      go : (rest : List ℕ) → Some place ≡ first_of rest → IsChosen spans target h.cut rest → IsChosen spans target target.low (listed ++ rest) → HasNext listed place
      go [] e goes whole = cc
      go (p ∷ ps) e goes whole =
          let same : place ≡ p = cc in
          let far : is_cut_below h.cut (span_at spans p).high ≡ true = ends (span_at spans p) h.cut goes.0.2 in
          let above : is_cut_below target.low (span_at spans p).high ≡ true = up_to_below target.low h.cut (span_at spans p).high h.begun far in
          let known = solves.1 p goes.0.1 above in
          let solved = solves.0 p known.0 known.1 in
          let tail : IsChosen spans target (span_at spans p).high ps = tail_chosen spans target h.cut p ps goes in
          let rest_is : solved.rest ≡ ps = one_chosen spans target (span_at spans p).high solved.rest ps solved.chosen tail in
          let small = chain_few spans target target.low (listed ++ p ∷ ps) whole.0 in
          let all = beyond_few target.low spans in
          let long = length-append listed (p ∷ ps) in record {
            low = subst (λ q. q < length spans) (sym same) goes.0.1;
            few = omega (arith, small, all, long);
            more = record {
              cut = (span_at spans p).high;
              rest = ps;
              begun = cut_order.one_way target.low (span_at spans p).high above;
              goes = tail;
              whole = subst (λ q. IsChosen spans target target.low ((listed ++ q ∷ []) ++ ps)) (sym same) (subst (IsChosen spans target target.low) (sym (append_assoc listed (p ∷ []) ps)) whole);
              next_is = ap (λ q. option_and_then (λ (best : Best). best.next) (best_at bests q)) same ∙ ap (option_and_then (λ (best : Best). best.next)) known.1 ∙ solved.next ∙ ap first_of rest_is;
            };
          }

  -- as many as there are spans are the whole chain
  pub all_listed : (listed : List ℕ) (next : Option ℕ) → IsFollowed spans target listed next → length spans ≤ length listed → IsChosen spans target target.low listed
  all_listed listed None h long = ending listed h
  all_listed listed (Some place) h long = let few = (onward listed place h).few in absurd (omega (arith, few, long))
