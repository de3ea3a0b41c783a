use Rattle.std.proofs.Common.{◌<◌, length, get_or, map, arith}
use Rattle.std.proofs.lemmas.List.{length-map}
use Rattle.cell_core.specs.declared.cell.Cell.TheVariants.{Nil}
use Rattle.cell_core.specs.Relations.{is_within}
use Rattle.chunk_core.proofs.PickLemmas.{get_default}
use Rattle.bat_algebra.proofs.PlaceLemmas.{place_step}
use Rattle.bat_algebra.proofs.places.numbers_between.Goals as goal

pub loop-i-preserved : goal.loop-i-preserved
loop-i-preserved g c =
    let cells = map g.N.Ordered.cell_of c.args.numbers.now in
    let few : c.loop-i.i < length cells = omega (arith, length-map c.args.numbers.now g.N.Ordered.cell_of) in
    record {
      few = omega (arith, c.place_if-count.ensures.within);
      found = λ low high li hi span.
          place_step (is_within low high li hi) cells c.loop-i.i (get_or cells c.loop-i.i Nil) _ _ _ c.place_if-count.ensures.found (c.loop-i.invariant.found low high li hi span) (c.number_between-kept.ensures low high li hi span) (get_default cells c.loop-i.i Nil (get_or cells c.loop-i.i Nil) few) few;
    }
