use Rattle.std.proofs.Common.{◌-◌, ◌≡◌, ◌≤◌, ◌++◌}
use Rattle.store_changes.specs.Rewrites.{flags_from}
use Rattle.store_changes.proofs.flags.flags_of.Given as goal

-- the flags so far, and those of the rows that are left
abbrev pub invariant-rows : goal.invariant-rows
invariant-rows l = (l.flags.items ++ flags_from l.at l.rest (l.count - l.at) ≡ flags_from 0 l.fn.places l.count) × (l.at ≤ l.count)

abbrev pub decreases-rows : goal.decreases-rows
decreases-rows l = l.count - l.at
