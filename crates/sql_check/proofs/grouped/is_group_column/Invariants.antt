use Rattle.std.proofs.Common.{◌≡◌, length}
use Rattle.sql_definitions.specs.Check.{is_group_column}
use Rattle.sql_check.proofs.grouped.is_group_column.Given as goal

-- the rest decides as all do
abbrev pub invariant-groups : goal.invariant-groups
invariant-groups l = is_group_column l.sources l.rest l.reference ≡ is_group_column l.sources l.groups l.reference

abbrev pub decreases-groups : goal.decreases-groups
decreases-groups l = length l.rest
