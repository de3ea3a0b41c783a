use Rattle.std.proofs.Common.{◌≡◌, length}
use Rattle.std.specs.Prelude.{find, bytes_eq}
use Rattle.sql_definitions.specs.declared.source.Source.{Source}
use Rattle.sql_check.proofs.names.source_named.Given as goal

-- the rest decides as all do
abbrev pub invariant-tables : goal.invariant-tables
invariant-tables l =
    find (λ (source : Source). bytes_eq source.table l.name) l.rest ≡ find (λ (source : Source). bytes_eq source.table l.name) l.schema.tables

abbrev pub decreases-tables : goal.decreases-tables
decreases-tables l = length l.rest
