-- What was renamed so far.
use Rattle.std.proofs.Common.{◌≡◌, map, take}
use Rattle.pool_policy.specs.Writes.{renamed_arg}
use Rattle.update_propagate.specs.Views.{returns_in}
use Rattle.update_propagate.proofs.bring.rename_args.Given as goal

abbrev pub invariant-arguments : goal.invariant-arguments
invariant-arguments l = l.fresh.items ≡ map (renamed_arg (returns_in l.backs)) (take l.arg-index l.args)
