use Rattle.std.proofs.Common.{◌≡◌, take}
use Rattle.chunk_core.specs.Parts.{part_cells}
use Rattle.chunk_core.proofs.chunk.copied.Given as goal

abbrev pub invariant-loop-at : goal.invariant-loop-at
invariant-loop-at l = l.cells.items ≡ take l.at (part_cells l.part)
