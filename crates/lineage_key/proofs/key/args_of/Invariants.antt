use Rattle.std.proofs.Common.{◌≡◌, take, map}
use Rattle.lineage_key.specs.Keys.{arg_for}
use Rattle.lineage_key.proofs.key.args_of.Given as goal

-- what is made so far
abbrev pub invariant-arguments : goal.invariant-arguments
invariant-arguments l = l.made.items ≡ map (arg_for l.ids) (take l.arg-index l.args)
