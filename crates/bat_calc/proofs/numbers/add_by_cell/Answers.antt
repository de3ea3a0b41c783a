use Rattle.std.proofs.Common.{◌≡◌, ◌<◌, ◌++◌, length, get_or, sym, ap, ◌∙◌, arith, append-nil}
use Rattle.std.specs.List.{zip}
use Rattle.std.proofs.lemmas.List.{take_all}
use Rattle.std.proofs.lemmas.Slice.Zip.{length-zip}
use Rattle.cell_core.specs.declared.cell.Cell.TheVariants.{Nil}
use Rattle.chunk_core.proofs.PickLemmas.{get_default}
use Rattle.bat_calc.specs.Functions.{applied}
use Rattle.bat_calc.proofs.RowLemmas.{applied_more, applied_none}
use Rattle.bat_calc.proofs.numbers.add_by_cell.Goals as goal

pub loop-i-init : goal.loop-i-init
loop-i-init g c = λ before so_far. ap (applied g.F.OfNumbers.named) (append-nil before) ∙ so_far

pub loop-i-preserved : goal.loop-i-preserved
loop-i-preserved g c = λ before so_far.
    let left = c.args.left.now in
    let right = c.args.right.now in
    let within : c.loop-i.i < length left = omega arith in
    applied_more g.F.OfNumbers.named before left right c.loop-i.i (get_or left c.loop-i.i Nil) (get_or right c.loop-i.i Nil) c.in-Some.cell c.loop-i.cells c.push.new.self
    within c.requires (get_default left c.loop-i.i Nil (get_or left c.loop-i.i Nil) within) (get_default right c.loop-i.i Nil (get_or right c.loop-i.i Nil) (omega (arith, c.requires, within))) (c.loop-i.invariant before so_far) (sym c.cell_at.ensures ∙ c.in-Some.is) c.in_ok-push-in-Some.ensures.ok

pub returns-in-None-clause-overflow : goal.returns-in-None-clause-overflow
returns-in-None-clause-overflow g c = λ _.
    let left = c.args.left.now in
    let right = c.args.right.now in
    let within : c.loop-i.i < length left = omega arith in
    applied_none g.F.OfNumbers.named left right c.loop-i.i (get_or left c.loop-i.i Nil) (get_or right c.loop-i.i Nil) within c.requires
    (get_default left c.loop-i.i Nil (get_or left c.loop-i.i Nil) within) (get_default right c.loop-i.i Nil (get_or right c.loop-i.i Nil) (omega (arith, c.requires, within))) (sym c.cell_at.ensures ∙ c.in-None.is)

pub returns-clause-value : goal.returns-clause-value
returns-clause-value g c = λ before so_far.
    ap (λ ps. applied g.F.OfNumbers.named (before ++ ps)) (sym (take_all c.loop-i.i (zip c.args.left.now c.args.right.now) (omega (arith, length-zip c.args.left.now c.args.right.now))))
    ∙ c.loop-i.invariant before so_far
