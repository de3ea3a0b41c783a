use Rattle.std.proofs.Common.{◌≡◌, ◌++◌, take, map}
use Rattle.cell_core.specs.declared.cell.Cell.TheVariants.{Nil}
use Rattle.chunk_core.specs.Picked.{picked}
use Rattle.chunk_core.proofs.chunk.pick_kept.Given as goal

abbrev pub invariant-loop-place : goal.invariant-loop-place
invariant-loop-place g l = map g.K.Packed.cell_of l.numbers.items ≡ map g.K.Packed.cell_of l.fn.numbers.items ++ picked Nil (map g.K.Packed.cell_of l.from) (take l.place-index l.places)
