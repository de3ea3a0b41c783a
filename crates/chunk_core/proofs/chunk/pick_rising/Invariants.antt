use Rattle.std.proofs.Common.{◌≡◌, ◌+◌, ◌++◌, take, map}
use Rattle.cell_core.specs.declared.cell.Cell.TheVariants.{Oid}
use Rattle.chunk_core.proofs.chunk.pick_rising.Given as goal

abbrev pub invariant-loop-place : goal.invariant-loop-place
invariant-loop-place l = map Oid l.numbers.items ≡ map Oid l.fn.numbers.items ++ map (λ i. Oid (l.from.first + i)) (take l.place-index l.places)
