use Rattle.std.proofs.Common.{◌≡◌, ◌++◌, drop}
use Rattle.group_to_mal.specs.Columns.{bats_of}
use Rattle.group_to_mal.specs.ItemValues.{args_of, bats_in}
use Rattle.group_to_mal.proofs.columns.bats.Given as goal

abbrev pub invariant-loop-column : goal.invariant-loop-column
invariant-loop-column l =
    let rest = drop l.column-index l.columns in
    l.args.items ++ bats_of (bats_in rest) (args_of rest) ≡ bats_of (bats_in l.columns) (args_of l.columns)
