use Rattle.std.proofs.Common.{◌≡◌, ◌<◌, List, Some, length, sym, subst, ap, ◌∙◌}
use Rattle.std.specs.Prelude.{IfSome, position, slice_get}
use Rattle.std.specs.Option.{option_map}
use Rattle.std.proofs.lemmas.Option.{slice_get-get_or}
use Rattle.subsume.specs.declared.item.CutItem.{CutItem}
use Rattle.subsume.specs.Index.{Ascends, IndexView, is_at}
use Rattle.subsume.proofs.IndexLemmas.{remove_ascends}
use Rattle.subsume.proofs.index.CutIndex.remove.Goals as goal

pub invariant_of-self : goal.invariant_of-self
invariant_of-self c = subst Ascends (sym c.remove-span.ensures.items) (remove_ascends c.self.inside.items.items c.in-Some.at c.self.invariant)

pub returns-clause-span : goal.returns-clause-span
returns-clause-span c =
    let old : List CutItem = c.self.inside.items.items in
    let low : c.in-Some.at < length old = subst (λ (xs : List CutItem). c.in-Some.at < length xs) c.deref.ensures.value c.in-Some.ensures.within in
    let there : Some c.in-Some.at ≡ position (is_at c.args.parent c.args.id) old = subst (λ (xs : List CutItem). Some c.in-Some.at ≡ position (is_at c.args.parent c.args.id) xs) c.deref.ensures.value c.in-Some.ensures.place in
    let here = subst (λ o. IfSome o (λ at. option_map (λ (i : CutItem). i.span) (slice_get old at) ≡ Some c.remove-span.result.span)) there
    (ap (option_map (λ (i : CutItem). i.span)) (slice_get-get_or old c.in-Some.at c.remove-span.result low) ∙ ap (λ (i : CutItem). Some i.span) (sym c.remove-span.ensures.value)) in
    let same : old ≡ c.args.self.now.items = ap (λ (v : IndexView). v.items) c.self.view_is in
    subst (λ (xs : List CutItem). IfSome (position (is_at c.args.parent c.args.id) xs) (λ at. option_map (λ (i : CutItem). i.span) (slice_get xs at) ≡ Some c.remove-span.result.span)) same here
