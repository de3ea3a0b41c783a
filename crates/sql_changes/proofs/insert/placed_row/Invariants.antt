use Rattle.std.proofs.Common.{◌≡◌, ◌++◌, map, length}
use Rattle.std.specs.Prelude.{bytes_eq, slice_index_or}
use Rattle.std.specs.List.{position_or_len}
use Rattle.cell_core.specs.declared.table.Column.{Column}
use Rattle.sql_changes.proofs.insert.placed_row.Given as goal

-- what is made so far, followed by what the rest makes, is what all make
abbrev pub invariant-columns : goal.invariant-columns
invariant-columns l =
    l.cells ++ map (λ (column : Column). slice_index_or l.row (position_or_len (bytes_eq column.name) l.listed) column.default) l.rest
    ≡ map (λ (column : Column). slice_index_or l.row (position_or_len (bytes_eq column.name) l.listed) column.default) l.columns

abbrev pub decreases-columns : goal.decreases-columns
decreases-columns l = length l.rest
