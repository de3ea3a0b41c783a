use Rattle.std.proofs.Common.{◌+◌, ◌++◌, length, map, sym, ap, ◌∙◌, arith}
use Rattle.std.proofs.lemmas.Result.{on_ok_weaker}
use Rattle.cell_core.specs.declared.cell.Cell.TheVariants.{Oid}
use Rattle.chunk_core.specs.Chunks.{chunk_cells}
use Rattle.chunk_core.specs.Parts.{part_cells}
use Rattle.chunk_core.proofs.PartLemmas.{length_oids}
use Rattle.chunk_core.proofs.PickLemmas.{rising_picks}
use Rattle.chunk_core.proofs.chunk.Chunk.push_places.Goals as goal

pub pick_rising-requires : goal.pick_rising-requires
pick_rising-requires c = λ k within.
    omega (arith, c.requires k within, length_oids c.in-Oids-Rising.from.first c.in-Oids-Rising.from.len, ap (λ p. length (part_cells p)) c.in-Oids-Rising.is-1)

pub returns-in-Oids-Rising : goal.returns-in-Oids-Rising
returns-in-Oids-Rising c =
    on_ok_weaker c.pick_rising.result
    (λ e. e ∙ ap (λ l. l ++ map (λ i. Oid (c.in-Oids-Rising.from.first + i)) c.args.places.now) (sym (ap chunk_cells c.in-Oids-Rising.is-0) ∙ c.make_ready.ensures)
    ∙ ap (λ l. chunk_cells c.args.self.now ++ l) (rising_picks c.in-Oids-Rising.from.first c.in-Oids-Rising.from.len c.args.places.now (part_cells c.args.part) (ap part_cells c.in-Oids-Rising.is-1) c.requires))
    c.pick_rising.ensures
