use Rattle.std.proofs.Common.{◌≡◌, ◌++◌, drop}
use Rattle.cell_core.specs.declared.operator.Arg.TheVariants.{Var}
use Rattle.group_to_mal.specs.Columns.{gather_bats}
use Rattle.group_to_mal.specs.ItemValues.{args_of, bats_in}
use Rattle.group_to_mal.proofs.columns.gather_bats.Given as goal

abbrev pub invariant-loop-column : goal.invariant-loop-column
invariant-loop-column l =
    let rest = drop l.column-index l.columns in
    let more = (gather_bats (Var l.by) (bats_in rest) (args_of rest)).run l.instrs in
    ((gather_bats (Var l.by) (bats_in l.columns) (args_of l.columns)).run l.initial.instrs ≡ (more.0, args_of l.gathered.items ++ more.1))
    × (bats_in l.gathered.items ++ bats_in rest ≡ bats_in l.columns)
