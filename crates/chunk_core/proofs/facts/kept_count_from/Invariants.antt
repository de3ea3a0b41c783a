use Rattle.std.proofs.Common.{◌≡◌, length, map}
use Rattle.chunk_core.specs.Facts.{neighbours_from, is_next_oid}
use Rattle.chunk_core.proofs.facts.kept_count_from.Given as goal

-- the answer for what is left is that for all
abbrev pub invariant-others : goal.invariant-others
invariant-others g l = neighbours_from is_next_oid (g.K.Packed.cell_of l.before) (map g.K.Packed.cell_of l.rest) ≡ neighbours_from is_next_oid (g.K.Packed.cell_of l.fn.first) (map g.K.Packed.cell_of l.others)

abbrev pub decreases-others : goal.decreases-others
decreases-others g l = length l.rest
