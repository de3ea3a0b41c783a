use Rattle.std.proofs.Common.{get_or, arith}
use Rattle.cell_core.specs.declared.cell.Cell.TheVariants.{Nil}
use Rattle.cell_core.specs.Relations.{is_within}
use Rattle.chunk_core.specs.Parts.{part_cells}
use Rattle.chunk_core.proofs.PickLemmas.{get_default}
use Rattle.bat_algebra.proofs.PlaceLemmas.{place_step}
use Rattle.bat_algebra.proofs.places.cells_within.Goals as goal

pub loop-i-preserved : goal.loop-i-preserved
loop-i-preserved c = record {
  few = omega (arith, c.place_if-count.ensures.within);
  found = place_step (is_within c.args.low.now c.args.high.now c.args.li c.args.hi) (part_cells c.args.part) c.loop-i.i (get_or (part_cells c.args.part) c.loop-i.i Nil) _ _ c.place_within-kept.result c.place_if-count.ensures.found c.loop-i.invariant.found c.place_within-kept.ensures (get_default (part_cells c.args.part) c.loop-i.i Nil (get_or (part_cells c.args.part) c.loop-i.i Nil) (omega arith)) (omega arith);
}
