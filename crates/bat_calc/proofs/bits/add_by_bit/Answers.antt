use Rattle.std.proofs.Common.{◌≡◌, ◌<◌, ◌++◌, length, map, get_or, sym, ap, ◌∙◌, arith, append-nil}
use Rattle.std.specs.List.{zip}
use Rattle.std.proofs.lemmas.List.{take_all, length-map}
use Rattle.std.proofs.lemmas.Slice.Zip.{length-zip}
use Rattle.cell_core.specs.declared.cell.Cell.TheVariants.{Bit, Nil}
use Rattle.chunk_core.proofs.PickLemmas.{get_default}
use Rattle.bat_calc.specs.Functions.{applied}
use Rattle.bat_calc.proofs.RowLemmas.{applied_more}
use Rattle.bat_calc.proofs.bits.add_by_bit.Goals as goal

pub loop-i-init : goal.loop-i-init
loop-i-init g c = λ before so_far. ap (applied g.F.OfBits.named) (append-nil before) ∙ so_far

pub loop-i-preserved : goal.loop-i-preserved
loop-i-preserved g c = λ before so_far.
    let left = map Bit c.args.left.now in
    let right = map Bit c.args.right.now in
    let even : length right ≡ length left = length-map c.args.right.now Bit ∙ c.requires ∙ sym (length-map c.args.left.now Bit) in
    let within : c.loop-i.i < length left = omega (arith, length-map c.args.left.now Bit) in
    applied_more g.F.OfBits.named before left right c.loop-i.i (get_or left c.loop-i.i Nil) (get_or right c.loop-i.i Nil) (Bit c.bit_at.result) c.loop-i.cells c.push.new.self
    within even (get_default left c.loop-i.i Nil (get_or left c.loop-i.i Nil) within) (get_default right c.loop-i.i Nil (get_or right c.loop-i.i Nil) (omega (arith, even, within))) (c.loop-i.invariant before so_far) (sym c.bit_at.ensures) c.in_ok-push.ensures.ok

pub returns : goal.returns
returns g c = λ before so_far.
    ap (λ ps. applied g.F.OfBits.named (before ++ ps)) (sym (take_all c.loop-i.i (zip (map Bit c.args.left.now) (map Bit c.args.right.now)) (omega (arith, length-zip (map Bit c.args.left.now) (map Bit c.args.right.now), length-map c.args.left.now Bit))))
    ∙ c.loop-i.invariant before so_far
