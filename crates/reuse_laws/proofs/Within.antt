-- A selection from a selection over a containing span is the plain selection.
use Rattle.std.proofs.Common.{◌≡◌, Bool, true, false, not, List, [], ◌∷◌, cond, refl, ap, sym, ◌∙◌}
use Rattle.std.specs.Prelude.{filter}
use Rattle.std.specs.Cmp.{first_so, second_so}
use Rattle.std.proofs.lemmas.Bool.{and_from}
use Rattle.cell_core.specs.declared.cell.Cell.{Cell}
use Rattle.cell_core.specs.declared.cut.Cut.{Cut}
use Rattle.cell_core.specs.declared.cut.Cut.TheVariants.{Before}
use Rattle.cell_core.specs.declared.cut.Span.{Span}
use Rattle.cell_core.specs.Cuts.{is_cut_below, is_cut_up_to, lies_in}
use Rattle.cell_core.specs.Pairs.{Pairs, is_nil}
use Rattle.subsume.specs.Cutting.{is_contained}
use Rattle.subsume.proofs.CutOrder.{cut_order, up_to_is, below_up_to, unnot}
use Rattle.reuse_laws.specs.Reuse.{holds, picked}

-- not strictly above
pub up_to : (a b : Cut) → is_cut_up_to a b ≡ true → is_cut_below b a ≡ false
up_to a b e = unnot (is_cut_below b a) (sym (up_to_is a b) ∙ e)

-- what lies in a span lies in each that contains it
pub lies_on : (a b : Span) (cut : Cut) → is_contained a b ≡ true → lies_in a cut ≡ true → lies_in b cut ≡ true
lies_on a b cut inside here =
    let low = up_to b.low a.low (first_so (is_cut_up_to b.low a.low) (is_cut_up_to a.high b.high) inside) in
    let high = up_to a.high b.high (second_so (is_cut_up_to b.low a.low) (is_cut_up_to a.high b.high) inside) in
    let begun = up_to a.low cut (first_so (is_cut_up_to a.low cut) (is_cut_below cut a.high) here) in
    let before = second_so (is_cut_up_to a.low cut) (is_cut_below cut a.high) here in
    and_from (is_cut_up_to b.low cut) (is_cut_below cut b.high)
    (up_to_is b.low cut ∙ ap not (cut_order.chain cut a.low b.low begun low))
    (below_up_to cut a.high b.high before high)

pub holds_on : (a b : Span) (cell : Cell) → is_contained a b ≡ true → holds a cell ≡ true → holds b cell ≡ true
holds_on a b cell inside here =
    and_from (not (is_nil cell)) (lies_in b (Before cell)) (first_so (not (is_nil cell)) (lies_in a (Before cell)) here)
    (lies_on a b (Before cell) inside (second_so (not (is_nil cell)) (lies_in a (Before cell)) here))

-- a filter by a stronger test needs no weaker one before it
pub filter_stronger : {X : Type 0} (p q : X → Bool) → ((x : X) → p x ≡ true → q x ≡ true) → (xs : List X) → filter p (filter q xs) ≡ filter p xs
filter_stronger p q on [] = refl
filter_stronger p q on (x ∷ xs) = elim (q x) as (λ b. q x ≡ b → filter p (cond b (x ∷ filter q xs) (filter q xs)) ≡ cond (p x) (x ∷ filter p xs) (filter p xs)) [
  | true ↦ λ _. ap (λ ys. cond (p x) (x ∷ ys) ys) (filter_stronger p q on xs)
  | false ↦ λ no. elim (p x) as (λ b. p x ≡ b → filter p (filter q xs) ≡ cond b (x ∷ filter p xs) (filter p xs)) [
    | true ↦ λ yes. let wrong : true ≡ false = sym (on x yes) ∙ no in cc
    | false ↦ λ _. filter_stronger p q on xs
  ] refl
] refl

pub picked_within : (a b : Span) (pairs : Pairs) → is_contained a b ≡ true → picked a (picked b pairs) ≡ picked a pairs
picked_within a b pairs inside = filter_stronger (λ p. holds a p.1) (λ p. holds b p.1) (λ p. holds_on a b p.1 inside) pairs
