use Rattle.std.proofs.Common.{◌≡◌, ◌≤◌, ◌-◌, length, take}
use Rattle.cell_core.specs.declared.cell.Cell.{Cell}
use Rattle.bat_algebra.specs.Flags.{is_flagged, is_among}
use Rattle.bat_algebra.proofs.flags.flags_of.Given as goal

abbrev pub invariant-runs : goal.invariant-runs
invariant-runs l = record {
  within : l.from ≤ length l.cells;
  told : (cell : Cell) → is_among (take l.from l.cells) cell ≡ is_flagged l.base l.flags.items cell;
}

abbrev pub decreases-runs : goal.decreases-runs
decreases-runs l = length l.cells - l.from
