use Rattle.std.proofs.Common.{◌+◌, ◌++◌, ◌≤◌, take}
use Rattle.std.specs.List.{zip}
use Rattle.cell_core.specs.Pairs.{Pairs}
use Rattle.chunk_core.specs.Parts.{part_cells}
use Rattle.bat_group.specs.Heads.{AreHeads}
use Rattle.bat_group.proofs.heads.Heads.meet_each.Given as goal

-- the groups of the part so far are met
abbrev pub invariant-loop-i : goal.invariant-loop-i
invariant-loop-i l = record {
  few : l.self.count ≤ l.initial.self.count + l.i;
  met : (before : Pairs) → AreHeads l.initial.self before → AreHeads l.self (before ++ take l.i (zip (part_cells l.heads) (part_cells l.tails)));
}
