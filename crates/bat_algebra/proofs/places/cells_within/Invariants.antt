use Rattle.std.proofs.Common.{◌≡◌, ◌≤◌, take}
use Rattle.cell_core.specs.Relations.{is_within}
use Rattle.chunk_core.specs.Parts.{part_cells}
use Rattle.bat_algebra.specs.Places.{places_where}
use Rattle.bat_algebra.proofs.places.cells_within.Given as goal

abbrev pub invariant-loop-i : goal.invariant-loop-i
invariant-loop-i l = record {
  few : l.count ≤ l.i;
  found : take l.count l.places ≡ places_where (is_within l.low l.high l.li l.hi) 0 (take l.i (part_cells l.part));
}
