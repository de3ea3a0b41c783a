use Rattle.std.proofs.Common.{◌≡◌, ◌++◌, drop}
use Rattle.group_to_mal.specs.ItemValues.{args_of}
use Rattle.group_to_mal.proofs.shown.args.Given as goal

abbrev pub invariant-loop-column : goal.invariant-loop-column
invariant-loop-column l = l.args.items ++ args_of (drop l.column-index l.columns) ≡ args_of l.columns
