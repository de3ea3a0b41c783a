use Rattle.std.proofs.Common.{◌+◌, ◌%◌, ◌^◌, map, ◌∷◌, [], ◌++◌, sym, ap, ◌∙◌, arith}
use Rattle.std.specs.List.{range_with_len}
use Rattle.std.proofs.lemmas.List.FromFn.{map-range_with_len_more}
use Rattle.cell_core.specs.declared.cell.Cell.TheVariants.{Oid}
use Rattle.cell_core.specs.Relations.{counted_from}
use Rattle.bat_algebra.proofs.MarkLemmas.{wrapped_is}
use Rattle.bat_algebra.proofs.mark.wrap_from.Goals as goal

pub loop-i-preserved : goal.loop-i-preserved
loop-i-preserved c =
    c.in_ok-push.ensures.ok ∙ ap (λ l. l ++ Oid ((c.args.from + c.loop-i.i) % 2 ^ 64) ∷ []) c.loop-i.invariant
    ∙ ap (λ o. map (counted_from (Oid c.args.from)) (range_with_len 0 c.loop-i.i) ++ o ∷ []) (wrapped_is c.args.from c.loop-i.i (omega arith))
    ∙ sym (map-range_with_len_more (counted_from (Oid c.args.from)) 0 c.loop-i.i c.loop-i.i (omega arith))
