use Rattle.std.proofs.Common.{◌≡◌, ◌+◌, ◌++◌, length}
use Rattle.store_changes.specs.Rewrites.{sets_from}
use Rattle.store_changes.proofs.flags.sets_of.Given as goal

-- the columns so far, and those that are left
abbrev pub invariant-names : goal.invariant-names
invariant-names l = (l.sets.items ++ sets_from l.place l.rest l.rows ≡ sets_from 0 l.fn.names l.rows) × (l.place + length l.rest ≡ length l.fn.names)

abbrev pub decreases-names : goal.decreases-names
decreases-names l = length l.rest
