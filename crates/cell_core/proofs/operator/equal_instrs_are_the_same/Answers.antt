use Rattle.cell_core.specs.SameInstr.{same_instr_decides}
use Rattle.cell_core.proofs.operator.equal_instrs_are_the_same.Goals as goal

pub returns : goal.returns
returns c = same_instr_decides c.args.a.now c.args.b.now
