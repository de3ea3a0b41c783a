use Rattle.std.proofs.Common.{◌≡◌, ◌++◌, ◌∷◌, drop}
use Rattle.group_to_mal.proofs.items.with_first.Given as goal

abbrev pub invariant-loop-column : goal.invariant-loop-column
invariant-loop-column l = l.all.items ++ drop l.column-index l.more ≡ l.fn.first ∷ l.more
