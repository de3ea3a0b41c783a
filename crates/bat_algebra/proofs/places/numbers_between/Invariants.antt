use Rattle.std.proofs.Common.{◌≡◌, ◌≤◌, Bool, take, map}
use Rattle.cell_core.specs.declared.cell.Cell.{Cell}
use Rattle.cell_core.specs.Relations.{is_within}
use Rattle.bat_algebra.specs.Places.{places_where}
use Rattle.bat_algebra.specs.Spans.{IsSpan}
use Rattle.bat_algebra.proofs.places.numbers_between.Given as goal

abbrev pub invariant-loop-i : goal.invariant-loop-i
invariant-loop-i g l = record {
  few : l.count ≤ l.i;
  found : (low high : Cell) (li hi : Bool) → IsSpan g.N.Ordered.cell_of g.N.Ordered.is_one l.first l.last low high li hi → take l.count l.places ≡ places_where (is_within low high li hi) 0 (take l.i (map g.N.Ordered.cell_of l.numbers));
}
