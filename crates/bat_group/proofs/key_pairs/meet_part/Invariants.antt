use Rattle.std.proofs.Common.{◌+◌, ◌++◌, ◌≤◌, take, map}
use Rattle.std.specs.List.{zip}
use Rattle.cell_core.specs.declared.cell.Cell.TheVariants.{Oid}
use Rattle.cell_core.specs.Pairs.{Pairs}
use Rattle.chunk_core.specs.Parts.{part_cells}
use Rattle.bat_group.specs.Keys.{AreMade, same_both, cells_of_both}
use Rattle.bat_group.proofs.key_pairs.meet_part.Given as goal

-- the pairs of the part so far have their numbers
abbrev pub invariant-loop-i : goal.invariant-loop-i
invariant-loop-i g l = record {
  few : l.met.count ≤ l.initial.met.count + l.i;
  made : (before : Pairs) → AreMade (same_both g.K.PartialEq.eq) (cells_of_both g.K.CellKey.cell_of) l.initial.met before
      → AreMade (same_both g.K.PartialEq.eq) (cells_of_both g.K.CellKey.cell_of) l.met (before ++ take l.i (zip (map Oid l.oids) (part_cells l.beside)));
}
