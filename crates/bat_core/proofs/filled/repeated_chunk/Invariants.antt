use Rattle.std.proofs.Common.{◌≡◌}
use Rattle.std.specs.Prelude.{replicate}
use Rattle.chunk_core.specs.Chunks.{chunk_cells}
use Rattle.bat_core.proofs.filled.repeated_chunk.Given as goal

abbrev pub invariant-loop : goal.invariant-loop
invariant-loop l = chunk_cells l.chunk ≡ replicate l.counter l.cell
