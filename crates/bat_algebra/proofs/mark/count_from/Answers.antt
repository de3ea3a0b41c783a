use Rattle.std.proofs.Common.{◌≡◌, List, subst, map, sym, ap, ◌∙◌, arith}
use Rattle.std.specs.List.{range_with_len}
use Rattle.std.specs.Result.{IfOk}
use Rattle.cell_core.specs.declared.cell.Cell.{Cell}
use Rattle.cell_core.specs.Relations.{counted_from}
use Rattle.bat_algebra.proofs.MarkLemmas.{oids_count, nils}
use Rattle.bat_algebra.proofs.mark.count_from.Goals as goal

pub returns-in-Some : goal.returns-in-Some
returns-in-Some c =
    let P : List Cell → Type 0 = λ wanted. IfOk c.oids.result (λ cells. cells ≡ wanted) in
    subst P (oids_count c.in-Oid.from c.args.count (omega arith) ∙ ap (λ b. map (counted_from b) (range_with_len 0 c.args.count)) (sym c.in-Oid.is)) c.oids.ensures

pub returns-in_default : goal.returns-in_default
returns-in_default c =
    let P : List Cell → Type 0 = λ wanted. IfOk c.repeated.result (λ cells. cells ≡ wanted) in
    subst P (nils c.args.base.now c.args.count c.in_default.not-Oid) c.repeated.ensures
