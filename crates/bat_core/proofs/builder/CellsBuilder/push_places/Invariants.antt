use Rattle.std.proofs.Common.{◌≡◌, ◌-◌, ◌≤◌, ◌++◌, length, take}
use Rattle.cell_core.specs.declared.cell.Cell.TheVariants.{Nil}
use Rattle.chunk_core.specs.Parts.{part_cells}
use Rattle.chunk_core.specs.Picked.{picked}
use Rattle.bat_core.proofs.builder.CellsBuilder.push_places.Given as goal

abbrev pub invariant-places : goal.invariant-places
invariant-places l = record {
  within : l.from ≤ length l.places;
  same : l.self ≡ l.initial.self ++ picked Nil (part_cells l.part) (take l.from l.places);
}

abbrev pub decreases-places : goal.decreases-places
decreases-places l = length l.places - l.from
