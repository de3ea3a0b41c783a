use Rattle.pick_laws.proofs.GroupLemmas.{grouped_is, derived_is, heads_gathered, by_group_is}
use Rattle.pick_laws.proofs.GroupNumbers.{group_numbers}
use Rattle.pick_laws.proofs.groups_are_numbered.Goals as goal

pub returns : goal.returns
returns g c = record { new = grouped_is; derive = derived_is; numbers = group_numbers; first = heads_gathered; aggregate = by_group_is }
