use Rattle.std.proofs.Common.{◌≡◌, length}
use Rattle.std.specs.List.{list_any}
use Rattle.cell_core.specs.declared.table.Column.{Column}
use Rattle.read_laws.specs.Unread.{is_unread_cell}
use Rattle.sql_refusals.proofs.numbers.any_unread_default.Given as goal

-- the test of what is left has the result of the test of all
abbrev pub invariant-columns : goal.invariant-columns
invariant-columns l = list_any (λ (column : Column). is_unread_cell column.default) l.rest ≡ list_any (λ (column : Column). is_unread_cell column.default) l.columns

abbrev pub decreases-columns : goal.decreases-columns
decreases-columns l = length l.rest
