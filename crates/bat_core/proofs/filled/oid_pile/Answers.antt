use Rattle.std.proofs.Common.{◌+◌, ◌*◌, ◌++◌, ap, ◌∙◌, arith}
use Rattle.chunk_core.specs.Chunks.{chunk_cells}
use Rattle.chunk_core.specs.Filled.{oids_from}
use Rattle.chunk_core.proofs.FilledLemmas.{oids_parts}
use Rattle.bat_core.proofs.filled.oid_pile.Goals as goal

pub loop-i-preserved : goal.loop-i-preserved
loop-i-preserved c =
    c.in-Ok.ensures.ok ∙ ap (λ l. l ++ chunk_cells c.oid_chunk-chunk.result) c.loop-i.invariant
    ∙ ap (λ l. oids_from c.args.from (4096 * c.loop-i.i) ++ l) c.oid_chunk-chunk.ensures
    ∙ oids_parts c.args.from (4096 * c.loop-i.i) 4096 (4096 * (c.loop-i.i + 1)) (omega arith)
