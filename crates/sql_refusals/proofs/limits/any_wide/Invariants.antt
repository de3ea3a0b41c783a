use Rattle.std.proofs.Common.{◌≡◌, length}
use Rattle.std.specs.Prelude.{nat_lt}
use Rattle.std.specs.List.{list_any}
use Rattle.cell_core.specs.declared.table.Column.{Column}
use Rattle.sql_refusals.proofs.limits.any_wide.Given as goal

-- the test of what is left has the result of the test of all
abbrev pub invariant-columns : goal.invariant-columns
invariant-columns l = list_any (λ (column : Column). nat_lt 65535 column.width) l.rest ≡ list_any (λ (column : Column). nat_lt 65535 column.width) l.columns

abbrev pub decreases-columns : goal.decreases-columns
decreases-columns l = length l.rest
