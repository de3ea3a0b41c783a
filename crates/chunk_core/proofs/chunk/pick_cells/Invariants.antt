use Rattle.std.proofs.Common.{◌≡◌, ◌++◌, take}
use Rattle.cell_core.specs.declared.cell.Cell.TheVariants.{Nil}
use Rattle.chunk_core.specs.Chunks.{chunk_cells}
use Rattle.chunk_core.specs.Parts.{part_cells}
use Rattle.chunk_core.specs.Picked.{picked}
use Rattle.chunk_core.proofs.chunk.pick_cells.Given as goal

abbrev pub invariant-loop-place : goal.invariant-loop-place
invariant-loop-place l = chunk_cells l.chunk ≡ chunk_cells l.initial.chunk ++ picked Nil (part_cells l.part) (take l.place-index l.places)
