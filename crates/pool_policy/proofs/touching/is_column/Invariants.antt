use Rattle.std.proofs.Common.{◌≡◌, length}
use Rattle.std.specs.List.{list_any}
use Rattle.std.specs.Str.{bytes_eq}
use Rattle.pool_policy.proofs.touching.is_column.Given as goal

abbrev pub invariant-columns : goal.invariant-columns
invariant-columns l = list_any (bytes_eq l.name) l.rest ≡ list_any (bytes_eq l.name) l.columns

abbrev pub decreases-columns : goal.decreases-columns
decreases-columns l = length l.rest
