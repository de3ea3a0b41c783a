use Rattle.std.specs.Prelude.{map, slice_index_or}
use Rattle.cell_core.specs.declared.cell.Cell.TheVariants.{Nil}
use Rattle.chunk_core.proofs.PickLemmas.{map_picked}
use Rattle.chunk_core.proofs.chunk.pick_kept.Goals as goal

pub loop-place-preserved : goal.loop-place-preserved
loop-place-preserved g c =
    map_picked g.K.Packed.cell_of (λ i. slice_index_or (map g.K.Packed.cell_of c.args.from.now) i Nil) (map g.K.Packed.cell_of c.args.numbers.now.items)
    c.push_kept.new.kept.items c.loop-place.numbers.items c.kept_at.result c.args.places.now c.loop-place.place-index c.loop-place-test.true
    c.in_ok-push_kept.ensures.ok c.loop-place.invariant c.kept_at.ensures
