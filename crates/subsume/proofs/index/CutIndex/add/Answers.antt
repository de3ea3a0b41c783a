use Rattle.std.proofs.Common.{◌≡◌, List, sym, subst, ap, ◌∙◌}
use Rattle.std.specs.Prelude.{if◌then◌else◌, insert}
use Rattle.cell_core.specs.Sorted.{insert_sorted}
use Rattle.subsume.specs.declared.item.CutItem.{CutItem}
use Rattle.subsume.specs.Index.{Ascends, item_of, is_item_below}
use Rattle.subsume.proofs.IndexLemmas.{insert_ascends}
use Rattle.subsume.proofs.index.CutIndex.add.Goals as goal

pub invariant_of-self : goal.invariant_of-self
invariant_of-self c =
    let old : List CutItem = c.self.inside.items.items in
    let item : CutItem = item_of c.args.parent c.args.span c.args.rows c.args.id in
    let at = c.place_for-at.result in
    let place : insert old at item ≡ insert_sorted is_item_below item old = subst (λ xs. insert xs at item ≡ insert_sorted is_item_below item xs) c.deref.ensures.value c.place_for-at.ensures.place in
    let whole : c.insert.new.self.items ≡ insert_sorted is_item_below item old = c.insert.ensures.items ∙ ap (λ b. if b then insert old at item else old) c.if-is_err.ensures.negation ∙ place in
    subst Ascends (sym whole) (insert_ascends item old c.self.invariant)
