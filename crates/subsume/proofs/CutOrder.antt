-- The order of cuts and of entries, in terms of "strictly below", and so what lies in a span.
use Rattle.std.proofs.Common.{◌≡◌, Bool, true, false, not, ◌&&◌, ◌⊎◌, inl, inr, refl, ap, sym, ◌∙◌}
use Rattle.std.specs.Ordering.{is_lt, is_le, ordering_reverse}
use Rattle.std.specs.declared.cmp.Ordering.{Ordering}
use Rattle.std.specs.declared.cmp.Ordering.TheVariants.{Less, Equal, Greater}
use Rattle.std.specs.Cmp.{IsStrictWeakOrder, IsTotalOrder, first_so, second_so}
use Rattle.std.proofs.lemmas.List.MinMax.{ranks_by}
use Rattle.std.proofs.lemmas.Cmp.{then_total, on_total, back_total, nat_cmp_total}
use Rattle.std.proofs.lemmas.Bool.{and_from}
use Rattle.cell_core.specs.declared.cut.Cut.{Cut}
use Rattle.cell_core.specs.declared.cut.Span.{Span}
use Rattle.cell_core.specs.Cuts.{cut_cmp, cut_cmp_total, is_cut_below, is_cut_up_to, lies_in}
use Rattle.subsume.specs.Cutting.{Entry, entry_cmp, is_better}
use Rattle.subsume.proofs.Orderings.{never_itself}

pub cut_order : IsStrictWeakOrder is_cut_below
cut_order = ranks_by cut_cmp_total (λ cut. cut)

pub never : (c : Cut) → is_cut_below c c ≡ false
never c = never_itself cut_order c

abbrev turned : Cut → Cut → Ordering
turned a b = cut_cmp b a

turned_total : IsTotalOrder turned
turned_total = back_total cut_cmp_total

pub entry_total : IsTotalOrder entry_cmp
entry_total = then_total (on_total (λ (e : Entry). e.1.high) turned_total) (on_total (λ (e : Entry). e.0) nat_cmp_total)

pub entry_order : IsStrictWeakOrder is_better
entry_order = ranks_by entry_total (λ entry. entry)

le_reversed : (r s : Ordering) → r ≡ ordering_reverse s → is_le r ≡ not (is_lt s)
le_reversed r Less e = ap is_le e
le_reversed r Equal e = ap is_le e
le_reversed r Greater e = ap is_le e

-- up to is not strictly above
pub up_to_is : (a b : Cut) → is_cut_up_to a b ≡ not (is_cut_below b a)
up_to_is a b = le_reversed (cut_cmp a b) (cut_cmp b a) (cut_cmp_total.antisymm a b)

pub either : (b : Bool) → (b ≡ true) ⊎ (b ≡ false)
either true = inl refl
either false = inr refl

-- below, then not above
pub below_up_to : (a b c : Cut) → is_cut_below a b ≡ true → is_cut_below c b ≡ false → is_cut_below a c ≡ true
below_up_to a b c low up = elim (is_cut_below a c) as (λ r. is_cut_below a c ≡ r → r ≡ true) [
  | true ↦ λ e. refl
  | false ↦ λ e. sym (cut_order.chain a c b e up) ∙ low
] refl

-- not above, then below
pub up_to_below : (a b c : Cut) → is_cut_below b a ≡ false → is_cut_below b c ≡ true → is_cut_below a c ≡ true
up_to_below a b c up low = elim (is_cut_below a c) as (λ r. is_cut_below a c ≡ r → r ≡ true) [
  | true ↦ λ e. refl
  | false ↦ λ e. sym (cut_order.chain b a c up e) ∙ low
] refl

-- ## What lies in a span

pub unnot : (b : Bool) → not b ≡ true → b ≡ false
unnot true e = sym e
unnot false e = refl

-- a cut lies in a span where the span doesn't begin after it, and ends after it
pub holds : (span : Span) (cut : Cut) → is_cut_below cut span.low ≡ false → is_cut_below cut span.high ≡ true → lies_in span cut ≡ true
holds span cut low high = and_from (is_cut_up_to span.low cut) (is_cut_below cut span.high) (up_to_is span.low cut ∙ ap not low) high

-- and the other way round
pub begins : (span : Span) (cut : Cut) → lies_in span cut ≡ true → is_cut_below cut span.low ≡ false
begins span cut e = unnot (is_cut_below cut span.low) (sym (up_to_is span.low cut) ∙ first_so (is_cut_up_to span.low cut) (is_cut_below cut span.high) e)

pub ends : (span : Span) (cut : Cut) → lies_in span cut ≡ true → is_cut_below cut span.high ≡ true
ends span cut e = second_so (is_cut_up_to span.low cut) (is_cut_below cut span.high) e
