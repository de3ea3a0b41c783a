use Rattle.std.proofs.Common.{◌≡◌, length}
use Rattle.std.specs.List.{filter_map}
use Rattle.lineage_key.specs.Parents.{id_in}
use Rattle.lineage_key.proofs.parents.next_id.Given as goal

-- no id is in what was passed
abbrev pub invariant-arguments : goal.invariant-arguments
invariant-arguments l = filter_map id_in l.rest ≡ filter_map id_in l.args

abbrev pub decreases-arguments : goal.decreases-arguments
decreases-arguments l = length l.rest
