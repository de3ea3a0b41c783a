use Rattle.std.proofs.Common.{◌≡◌, ◌++◌, take, sym, ap, ◌∙◌, arith}
use Rattle.std.proofs.Math.Seq.{take-length}
use Rattle.chunk_core.specs.Parts.{part_cells}
use Rattle.bat_algebra.specs.Flags.{is_among}
use Rattle.bat_algebra.proofs.FlagLemmas.{among_more}
use Rattle.bat_algebra.proofs.flags.flag_part.Goals as goal

pub loop-i-preserved : goal.loop-i-preserved
loop-i-preserved c = λ before told.
    among_more before (part_cells c.args.part) c.loop-i.i c.args.base c.loop-i.flags.items c.flag_at.new.flags.items (omega arith) (c.loop-i.invariant before told) (λ cell. c.flag_at.ensures c.if-not-flag_at.false cell)

pub returns : goal.returns
returns c = λ _ before told cell.
    let all : take c.loop-i.i (part_cells c.args.part) ≡ part_cells c.args.part = ap (λ n. take n (part_cells c.args.part)) (omega arith) ∙ take-length (part_cells c.args.part) in
    ap (λ l. is_among (before ++ l) cell) (sym all) ∙ c.loop-i.invariant before told cell
