use Rattle.std.proofs.Common.{◌≡◌, ◌+◌, ◌<◌, ◌++◌, [], ◌∷◌, length, take, sym, ap, ◌∙◌, arith}
use Rattle.std.proofs.lemmas.List.{take_more, length-take-le}
use Rattle.cell_core.specs.declared.cell.Cell.TheVariants.{Oid}
use Rattle.cell_core.specs.Pairs.{numbered}
use Rattle.bat_group.proofs.GroupLemmas.{numbered_push}
use Rattle.bat_group.proofs.subtotals.number_totals.Goals as goal

pub loop-i-preserved : goal.loop-i-preserved
loop-i-preserved c =
    let totals = c.args.totals.now in
    let i = c.loop-i.i in
    let inside : i < length totals = omega arith in
    let x = c.in_ok-share.field-0 in
    let long : length (take i totals) ≡ i = length-take-le i totals (omega arith) in
    let front : take (i + 1) totals ≡ take i totals ++ x ∷ [] =
    take_more totals i c.index-totals-i.result inside ∙ ap (λ y. take i totals ++ y ∷ []) (sym (c.in_ok-share.ensures ∙ c.index-totals-i.is)) in
    c.in_ok-append.ensures.ok ∙ ap (λ l. l ++ (Oid i, x) ∷ []) c.loop-i.invariant ∙ ap (λ n. numbered (take i totals) ++ (Oid n, x) ∷ []) (sym long)
    ∙ sym (numbered_push (take i totals) x) ∙ ap numbered (sym front)
