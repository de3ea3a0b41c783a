use Rattle.std.proofs.Common.{◌+◌, ◌*◌, ◌++◌, ap, ◌∙◌, arith}
use Rattle.std.specs.Prelude.{replicate}
use Rattle.chunk_core.specs.Chunks.{chunk_cells}
use Rattle.bat_core.specs.Chunks.{held_cells}
use Rattle.chunk_core.proofs.FilledLemmas.{same_parts}
use Rattle.bat_core.proofs.filled.repeated_pile.Goals as goal

pub loop-preserved : goal.loop-preserved
loop-preserved c =
    c.in_ok-add_shared.ensures.ok ∙ ap (λ l. l ++ held_cells c.in_ok-chunk.chunk) c.loop.invariant
    ∙ ap (λ l. replicate (4096 * c.loop.counter) c.args.cell.now ++ l) (ap chunk_cells c.in_ok-chunk.ensures.ok ∙ c.in_ok-repeated_chunk.ensures)
    ∙ same_parts (4096 * c.loop.counter) 4096 (4096 * (c.loop.counter + 1)) c.args.cell.now (omega arith)
