use Rattle.std.proofs.Common.{◌≡◌, drop}
use Rattle.cell_core.specs.declared.operator.Arg.TheVariants.{Var}
use Rattle.group_to_mal.specs.Columns.{finer}
use Rattle.group_to_mal.proofs.columns.finer.Given as goal

abbrev pub invariant-loop-column : goal.invariant-loop-column
invariant-loop-column l = (finer (Var l.groups) (drop l.column-index l.columns)).run l.instrs ≡ (finer (Var l.coarse) l.columns).run l.initial.instrs
