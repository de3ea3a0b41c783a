use Rattle.std.proofs.Common.{◌≤◌, ◌-◌, take}
use Rattle.std.specs.List.{zip}
use Rattle.bat_group.specs.Keys.{AreMade, same_both, cells_of_both}
use Rattle.bat_group.proofs.key_pairs.number_key_pairs.Given as goal

-- the pairs so far have their numbers
abbrev pub invariant-runs : goal.invariant-runs
invariant-runs g l = record {
  within : l.from ≤ l.both;
  few : l.met.count ≤ l.from;
  made : AreMade (same_both g.K.PartialEq.eq) (cells_of_both g.K.CellKey.cell_of) l.met (take l.from (zip l.left l.right));
}

abbrev pub decreases-runs : goal.decreases-runs
decreases-runs g l = l.both - l.from
