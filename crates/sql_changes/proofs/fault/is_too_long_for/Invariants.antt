use Rattle.std.proofs.Common.{◌≡◌, length}
use Rattle.std.specs.List.{list_any}
use Rattle.std.specs.Prelude.{◌&&◌, bytes_eq}
use Rattle.cell_core.specs.declared.table.Column.{Column}
use Rattle.sql_definitions.specs.Effect.{is_too_long}
use Rattle.sql_changes.proofs.fault.is_too_long_for.Given as goal

-- the rest decides as all do
abbrev pub invariant-columns : goal.invariant-columns
invariant-columns l =
    list_any (λ (column : Column). bytes_eq column.name l.name && is_too_long column l.cell) l.rest
    ≡ list_any (λ (column : Column). bytes_eq column.name l.name && is_too_long column l.cell) l.columns

abbrev pub decreases-columns : goal.decreases-columns
decreases-columns l = length l.rest
