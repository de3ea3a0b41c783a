use Rattle.std.proofs.Common.{◌≡◌, take}
use Rattle.cell_core.proofs.operator.copy_args.Given as goal

-- what is copied so far
abbrev pub invariant-arguments : goal.invariant-arguments
invariant-arguments l = l.copy.items ≡ take l.arg-index l.args
