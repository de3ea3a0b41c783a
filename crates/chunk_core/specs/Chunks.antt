-- The cells of a chunk.
use Rattle.std.specs.Prelude.{List, map}
use Rattle.cell_core.specs.declared.cell.Cell.{Cell}
use Rattle.cell_core.specs.declared.cell.Cell.TheVariants.{Int, Day, Oid, Bit}
use Rattle.chunk_core.specs.Filled.{oids_from}
use Rattle.chunk_core.specs.declared.chunk.Chunk.{Chunk}
use Rattle.chunk_core.specs.declared.chunk.Chunk.TheVariants as chunk

-- those that a chunk keeps, in whatever form
abbrev pub chunk_cells : Chunk → List Cell
chunk_cells (chunk.Ints numbers) = map Int numbers.items
chunk_cells (chunk.Days numbers) = map Day numbers.items
chunk_cells (chunk.Oids numbers) = map Oid numbers.items
chunk_cells (chunk.Rising count) = oids_from count.first count.len
chunk_cells (chunk.Bits bits) = map Bit bits.items
chunk_cells (chunk.Cells cells) = cells.items
