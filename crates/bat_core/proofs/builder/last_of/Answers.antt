use Rattle.std.proofs.Common.{◌-◌, get_or, Some, sym, ap, ◌∙◌, arith}
use Rattle.chunk_core.specs.Parts.{part_cells, lent_cell}
use Rattle.bat_core.proofs.ChunkLemmas.{piece_first}
use Rattle.chunk_core.proofs.FactLemmas.{last_cell_at}
use Rattle.bat_core.proofs.builder.last_of.Goals as goal

pub returns-else-count-eq0 : goal.returns-else-count-eq0
returns-else-count-eq0 c =
    ap Some (c.get.ensures ∙ piece_first c.args.pile.now (part_cells c.run.result) (c.len-count.result - 1) (lent_cell c.get.result) (omega arith) c.run.ensures.some c.run.ensures.cells)
    ∙ ap (λ n. Some (get_or c.args.pile.now (n - 1) (lent_cell c.get.result))) c.len-count.ensures
    ∙ sym (last_cell_at c.args.pile.now (lent_cell c.get.result) (omega arith))
