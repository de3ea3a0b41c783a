use Rattle.std.proofs.Common.{◌+◌, ap, arith}
use Rattle.std.specs.Prelude.{map}
use Rattle.cell_core.specs.declared.cell.Cell.TheVariants.{Oid}
use Rattle.chunk_core.proofs.PickLemmas.{map_picked}
use Rattle.chunk_core.proofs.chunk.pick_rising.Goals as goal

pub overflow_add-from : goal.overflow_add-from
overflow_add-from c = omega (arith, c.requires c.loop-place.place-index c.loop-place-test.true, c.from.ensures, c.args.from.fits)

pub loop-place-preserved : goal.loop-place-preserved
loop-place-preserved c =
    map_picked Oid (λ i. Oid (c.args.from.first + i)) (map Oid c.args.numbers.now.items)
    c.push_kept.new.kept.items c.loop-place.numbers.items (c.args.from.first + c.from.result) c.args.places.now c.loop-place.place-index c.loop-place-test.true
    c.in_ok-push_kept.ensures.ok c.loop-place.invariant (ap (λ n. Oid (c.args.from.first + n)) c.from.ensures)
