use Rattle.std.proofs.Common.{◌++◌, get_or, sym, ap, ◌∙◌, arith, append-nil}
use Rattle.std.specs.List.{zip}
use Rattle.std.proofs.lemmas.List.{take_all}
use Rattle.std.proofs.lemmas.Slice.Zip.{length-zip}
use Rattle.cell_core.specs.declared.cell.Cell.TheVariants.{Nil}
use Rattle.chunk_core.specs.Parts.{part_cells}
use Rattle.chunk_core.proofs.PickLemmas.{get_default}
use Rattle.bat_calc.specs.Functions.{applied}
use Rattle.bat_calc.proofs.RowLemmas.{applied_more, applied_none}
use Rattle.bat_calc.proofs.general.add_one_by_one.Goals as goal

pub loop-i-init : goal.loop-i-init
loop-i-init c = λ before so_far. ap (applied c.args.function) (append-nil before) ∙ so_far

pub loop-i-preserved : goal.loop-i-preserved
loop-i-preserved c = λ before so_far.
    applied_more c.args.function before (part_cells c.args.left) (part_cells c.args.right) c.loop-i.i (get_or (part_cells c.args.left) c.loop-i.i Nil) (get_or (part_cells c.args.right) c.loop-i.i Nil) c.in-Some.cell c.loop-i.cells c.push.new.self
    (omega arith) c.requires (get_default (part_cells c.args.left) c.loop-i.i Nil (get_or (part_cells c.args.left) c.loop-i.i Nil) (omega arith)) (get_default (part_cells c.args.right) c.loop-i.i Nil (get_or (part_cells c.args.right) c.loop-i.i Nil) (omega (arith, c.requires))) (c.loop-i.invariant before so_far) (sym c.apply_at.ensures ∙ c.in-Some.is) c.in_ok-push-in-Some.ensures.ok

pub returns-in-None-clause-overflow : goal.returns-in-None-clause-overflow
returns-in-None-clause-overflow c = λ _.
    applied_none c.args.function (part_cells c.args.left) (part_cells c.args.right) c.loop-i.i (get_or (part_cells c.args.left) c.loop-i.i Nil) (get_or (part_cells c.args.right) c.loop-i.i Nil) (omega arith) c.requires (get_default (part_cells c.args.left) c.loop-i.i Nil (get_or (part_cells c.args.left) c.loop-i.i Nil) (omega arith)) (get_default (part_cells c.args.right) c.loop-i.i Nil (get_or (part_cells c.args.right) c.loop-i.i Nil) (omega (arith, c.requires))) (sym c.apply_at.ensures ∙ c.in-None.is)

pub returns-clause-value : goal.returns-clause-value
returns-clause-value c = λ before so_far.
    ap (λ ps. applied c.args.function (before ++ ps)) (sym (take_all c.loop-i.i (zip (part_cells c.args.left) (part_cells c.args.right)) (omega (arith, length-zip (part_cells c.args.left) (part_cells c.args.right)))))
    ∙ c.loop-i.invariant before so_far
