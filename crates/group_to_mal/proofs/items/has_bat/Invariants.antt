use Rattle.std.proofs.Common.{◌≡◌, drop}
use Rattle.group_to_mal.specs.Columns.{any_bat}
use Rattle.group_to_mal.specs.ItemValues.{bats_in}
use Rattle.group_to_mal.proofs.items.has_bat.Given as goal

abbrev pub invariant-loop-column : goal.invariant-loop-column
invariant-loop-column l = any_bat (bats_in (drop l.column-index l.columns)) ≡ any_bat (bats_in l.columns)
