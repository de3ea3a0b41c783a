use Rattle.std.proofs.Common.{◌≡◌, ◌+◌, take}
use Rattle.chunk_core.specs.Facts.{cells_bytes}
use Rattle.chunk_core.proofs.facts.bytes_with_all.Given as goal

abbrev pub invariant-loop-cell : goal.invariant-loop-cell
invariant-loop-cell l = l.bytes ≡ l.so_far + cells_bytes (take l.cell-index l.more)
