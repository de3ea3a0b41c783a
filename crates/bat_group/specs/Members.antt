-- The members of groups of cells.
use Rattle.std.specs.Prelude.{List, map, filter}
use Rattle.std.specs.List.{zip}
use Rattle.cell_core.specs.declared.cell.Cell.{Cell}
use Rattle.cell_core.specs.Same.{same_cell}

-- the cells beside which there is the same as a cell
abbrev pub members_of : List Cell → List Cell → Cell → List Cell
members_of cells groups group = map (λ p. p.0) (filter (λ p. same_cell p.1 group) (zip cells groups))
