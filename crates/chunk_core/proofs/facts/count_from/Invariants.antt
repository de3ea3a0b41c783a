use Rattle.std.proofs.Common.{◌≡◌, length}
use Rattle.chunk_core.specs.Facts.{neighbours_from, is_next_oid}
use Rattle.chunk_core.proofs.facts.count_from.Given as goal

-- the answer for what is left is that for all
abbrev pub invariant-others : goal.invariant-others
invariant-others l = neighbours_from is_next_oid l.before l.rest ≡ neighbours_from is_next_oid l.first l.others

abbrev pub decreases-others : goal.decreases-others
decreases-others l = length l.rest
