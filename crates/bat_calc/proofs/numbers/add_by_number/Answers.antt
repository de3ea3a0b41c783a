use Rattle.std.proofs.Common.{◌≡◌, ◌<◌, ◌++◌, length, map, get_or, sym, ap, ◌∙◌, arith, append-nil}
use Rattle.std.specs.List.{zip}
use Rattle.std.proofs.lemmas.List.{take_all, length-map}
use Rattle.std.proofs.lemmas.Slice.Zip.{length-zip}
use Rattle.cell_core.specs.declared.cell.Cell.TheVariants.{Int, Nil}
use Rattle.chunk_core.proofs.PickLemmas.{get_default}
use Rattle.bat_calc.specs.Functions.{applied}
use Rattle.bat_calc.proofs.RowLemmas.{applied_more, applied_none}
use Rattle.bat_calc.proofs.numbers.add_by_number.Goals as goal

pub loop-i-init : goal.loop-i-init
loop-i-init g c = λ before so_far. ap (applied g.F.OfNumbers.named) (append-nil before) ∙ so_far

pub loop-i-preserved : goal.loop-i-preserved
loop-i-preserved g c = λ before so_far.
    let left = map Int c.args.left.now in
    let right = map Int c.args.right.now in
    let even : length right ≡ length left = length-map c.args.right.now Int ∙ c.requires ∙ sym (length-map c.args.left.now Int) in
    let within : c.loop-i.i < length left = omega (arith, length-map c.args.left.now Int) in
    applied_more g.F.OfNumbers.named before left right c.loop-i.i (get_or left c.loop-i.i Nil) (get_or right c.loop-i.i Nil) c.in-Some.cell c.loop-i.cells c.push.new.self
    within even (get_default left c.loop-i.i Nil (get_or left c.loop-i.i Nil) within) (get_default right c.loop-i.i Nil (get_or right c.loop-i.i Nil) (omega (arith, even, within))) (c.loop-i.invariant before so_far) (sym c.number_at.ensures ∙ c.in-Some.is) c.in_ok-push-in-Some.ensures.ok

pub returns-in-None-clause-overflow : goal.returns-in-None-clause-overflow
returns-in-None-clause-overflow g c = λ _.
    let left = map Int c.args.left.now in
    let right = map Int c.args.right.now in
    let even : length right ≡ length left = length-map c.args.right.now Int ∙ c.requires ∙ sym (length-map c.args.left.now Int) in
    let within : c.loop-i.i < length left = omega (arith, length-map c.args.left.now Int) in
    applied_none g.F.OfNumbers.named left right c.loop-i.i (get_or left c.loop-i.i Nil) (get_or right c.loop-i.i Nil) within even
    (get_default left c.loop-i.i Nil (get_or left c.loop-i.i Nil) within) (get_default right c.loop-i.i Nil (get_or right c.loop-i.i Nil) (omega (arith, even, within))) (sym c.number_at.ensures ∙ c.in-None.is)

pub returns-clause-value : goal.returns-clause-value
returns-clause-value g c = λ before so_far.
    ap (λ ps. applied g.F.OfNumbers.named (before ++ ps)) (sym (take_all c.loop-i.i (zip (map Int c.args.left.now) (map Int c.args.right.now)) (omega (arith, length-zip (map Int c.args.left.now) (map Int c.args.right.now), length-map c.args.left.now Int))))
    ∙ c.loop-i.invariant before so_far
