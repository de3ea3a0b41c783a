use Rattle.std.proofs.Common.{◌≡◌, List, ◌+◌, ◌++◌, ◌-◌, length, take, sym, ap, ◌∙◌, subst, arith}
use Rattle.cell_core.specs.declared.cell.Cell.{Cell}
use Rattle.chunk_core.specs.Chunks.{chunk_cells}
use Rattle.bat_core.specs.Chunks.{last_cells}
use Rattle.bat_core.proofs.ChunkLemmas.{back_more}
use Rattle.bat_core.proofs.cells.Cells.lying_from.Goals as goal

pub returns-in-Some-clause-cells : goal.returns-in-Some-clause-cells
returns-in-Some-clause-cells c =
    let P : List Cell → Type 0 = λ l. take (c.args.from + length l) c.args.self.now ≡ take c.args.from c.args.self.now ++ l in
    subst P (sym c.part.ensures)
    (back_more c.self.inside.pile (chunk_cells c.deref.result.now) c.args.self.now c.args.from (c.args.from - c.len-piled.result)
    (ap (λ l. c.self.inside.pile ++ l) (ap chunk_cells c.deref.ensures ∙ ap last_cells (sym c.in-Some.is)) ∙ c.self.view_is)
    (omega (arith, c.len-piled.ensures)))
