use Rattle.std.proofs.Common.{length, sym, ap, ◌∙◌}
use Rattle.chunk_core.specs.Chunks.{chunk_cells}
use Rattle.chunk_core.proofs.PartLemmas.{length_oids}
use Rattle.chunk_core.proofs.chunk.Chunk.len.Goals as goal

pub returns-in-Rising : goal.returns-in-Rising
returns-in-Rising c =
    sym (length_oids c.in-Rising.count.first c.in-Rising.count.len) ∙ ap (λ p. length (chunk_cells p)) (sym c.in-Rising.is)
