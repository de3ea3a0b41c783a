use Rattle.std.proofs.Common.{◌≡◌, map, take}
use Rattle.bat_core.specs.Chunks.{held_cells}
use Rattle.bat_core.proofs.pile.share_chunks.Given as goal

-- what is copied so far holds the same cells
abbrev pub invariant-chunks : goal.invariant-chunks
invariant-chunks l = map held_cells l.copy.items ≡ map held_cells (take l.chunk-index l.chunks)
