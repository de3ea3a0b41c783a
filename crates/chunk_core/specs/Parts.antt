-- The cells of parts of columns.
use Rattle.std.specs.Prelude.{List, map}
use Rattle.cell_core.specs.declared.cell.Cell.{Cell}
use Rattle.cell_core.specs.declared.cell.Cell.TheVariants.{Int, Day, Oid, Bit}
use Rattle.chunk_core.specs.Filled.{oids_from}
use Rattle.chunk_core.specs.declared.part.Part.{Part}
use Rattle.chunk_core.specs.declared.part.Part.TheVariants as part
use Rattle.chunk_core.specs.declared.part.CellAt.{CellAt}
use Rattle.chunk_core.specs.declared.part.CellAt.TheVariants.{Lent, Made}

-- the cells of a part
abbrev pub part_cells : Part → List Cell
part_cells (part.Ints numbers) = map Int numbers.now
part_cells (part.Days numbers) = map Day numbers.now
part_cells (part.Oids numbers) = map Oid numbers.now
part_cells (part.Rising count) = oids_from count.first count.len
part_cells (part.Bits bits) = map Bit bits.now
part_cells (part.Cells cells) = cells.now

-- the cell that is lent or made
abbrev pub lent_cell : CellAt → Cell
lent_cell (Lent cell) = cell.now
lent_cell (Made cell) = cell
