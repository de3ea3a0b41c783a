-- The choices of a group, by the cells that are paired with them.
use Rattle.std.specs.Prelude.{List, map, filter, zip}
use Rattle.cell_core.specs.declared.cell.Cell.{Cell}
use Rattle.sql_definitions.specs.Values.{Choice}
use Rattle.sql_definitions.specs.Rows.{same_cells}

-- the choices that are paired with these cells
abbrev pub members_by : List (List Cell) → List Choice → List Cell → List Choice
members_by keys choices cells = map (λ (p : List Cell × Choice). p.1) (filter (λ (p : List Cell × Choice). same_cells p.0 cells) (zip keys choices))
