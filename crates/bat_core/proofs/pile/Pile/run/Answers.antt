use Rattle.std.proofs.Common.{◌≡◌, ◌<◌, ◌+◌, ◌++◌, List, length, take, sym, ap, ◌∙◌, subst, arith}
use Rattle.cell_core.specs.declared.cell.Cell.{Cell}
use Rattle.chunk_core.specs.Chunks.{chunk_cells}
use Rattle.bat_core.specs.Chunks.{held_cells}
use Rattle.bat_core.proofs.ChunkLemmas.{chunk_within, chunk_long, chunk_some, chunk_more}
use Rattle.bat_core.proofs.pile.Pile.run.Goals as goal

pub index-chunk-requires : goal.index-chunk-requires
index-chunk-requires c =
    omega (arith, c.self.inside.chunks.ok.0, chunk_within held_cells 4096 c.self.inside.chunks.items c.args.self.now c.args.from (omega arith) c.self.invariant.0 c.self.view_is c.requires)

pub part-requires : goal.part-requires
part-requires c =
    omega (
      arith,
      chunk_long held_cells 4096 c.self.inside.chunks.items c.args.self.now c.args.from (omega arith) c.self.invariant.0 c.self.view_is c.requires c.index-chunk.result.now (chunk_cells c.deref.result.now)
          (ap chunk_cells c.deref.ensures ∙ ap held_cells c.index-chunk.ensures),
    )

pub returns-clause-some : goal.returns-clause-some
returns-clause-some c =
    let P : List Cell → Type 0 = λ l. 0 < length l in
    subst P (sym c.part.ensures) (chunk_some held_cells 4096 c.self.inside.chunks.items c.args.self.now c.args.from (omega arith) c.self.invariant.0 c.self.view_is c.requires c.index-chunk.result.now (chunk_cells c.deref.result.now)
    (ap chunk_cells c.deref.ensures ∙ ap held_cells c.index-chunk.ensures))

pub returns-clause-cells : goal.returns-clause-cells
returns-clause-cells c =
    let P : List Cell → Type 0 = λ l. take (c.args.from + length l) c.args.self.now ≡ take c.args.from c.args.self.now ++ l in
    subst P (sym c.part.ensures) (chunk_more held_cells 4096 c.self.inside.chunks.items c.args.self.now c.args.from (omega arith) c.self.invariant.0 c.self.view_is c.requires c.index-chunk.result.now (chunk_cells c.deref.result.now)
    (ap chunk_cells c.deref.ensures ∙ ap held_cells c.index-chunk.ensures))
