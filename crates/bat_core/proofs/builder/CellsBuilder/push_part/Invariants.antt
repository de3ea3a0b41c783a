use Rattle.std.proofs.Common.{◌≡◌, ◌++◌, take}
use Rattle.chunk_core.specs.Parts.{part_cells}
use Rattle.bat_core.proofs.builder.CellsBuilder.push_part.Given as goal

abbrev pub invariant-loop-i : goal.invariant-loop-i
invariant-loop-i l = l.self ≡ l.initial.self ++ take l.i (part_cells l.part)
