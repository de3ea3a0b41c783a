use Rattle.std.proofs.Common.{◌≡◌, ◌++◌, map, length}
use Rattle.cell_core.specs.declared.table.Column.{Column}
use Rattle.sql_check.proofs.names.column_names.Given as goal

-- what is made so far, followed by what the rest makes, is what all make
abbrev pub invariant-columns : goal.invariant-columns
invariant-columns l =
    l.names ++ map (λ (column : Column). column.name) l.rest ≡ map (λ (column : Column). column.name) l.columns

abbrev pub decreases-columns : goal.decreases-columns
decreases-columns l = length l.rest
