-- Parts of a BAT that are merged by the heads of their pairs.
use Rattle.std.specs.Prelude.{List, Bool, flat_map}
use Rattle.std.specs.Ordering.{is_lt}
use Rattle.cell_core.specs.declared.cell.Cell.{Cell}
use Rattle.cell_core.specs.Order.{cell_cmp}
use Rattle.cell_core.specs.Pairs.{Pairs}
use Rattle.cell_core.specs.Sorted.{sorted_by}

-- a pair's head is before that of another
abbrev pub by_head : Cell × Cell → Cell × Cell → Bool
by_head p q = is_lt (cell_cmp p.0 q.0)

-- all pairs of the parts in the order of their heads, where ties keep their order
abbrev pub merged : List Pairs → Pairs
merged parts = sorted_by by_head (flat_map (λ part. part) parts)
