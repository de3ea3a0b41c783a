use Rattle.std.proofs.Common.{◌≡◌, List, ◌++◌, take}
use Rattle.cell_core.specs.declared.cell.Cell.{Cell}
use Rattle.chunk_core.specs.Parts.{part_cells}
use Rattle.bat_algebra.specs.Flags.{is_flagged, is_among}
use Rattle.bat_algebra.proofs.flags.flag_part.Given as goal

abbrev pub invariant-loop-i : goal.invariant-loop-i
invariant-loop-i l = (before : List Cell) → ((cell : Cell) → is_among before cell ≡ is_flagged l.base l.fn.flags.items cell) → (cell : Cell) → is_among (before ++ take l.i (part_cells l.part)) cell ≡ is_flagged l.base l.flags.items cell
