use Rattle.std.proofs.Common.{◌≡◌, length}
use Rattle.std.specs.Prelude.{bytes_eq}
use Rattle.std.specs.List.{list_any}
use Rattle.table_columns.proofs.stamp.has_name.Given as goal

-- the rest decides as all do
abbrev pub invariant-names : goal.invariant-names
invariant-names l = list_any (bytes_eq l.name) l.rest ≡ list_any (bytes_eq l.name) l.names

abbrev pub decreases-names : goal.decreases-names
decreases-names l = length l.rest
