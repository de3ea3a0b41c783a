use Rattle.std.proofs.Common.{◌≡◌, length}
use Rattle.std.specs.List.{filter_map, list_any}
use Rattle.lineage_key.specs.Parents.{id_in}
use Rattle.evict_admit.specs.Runs.{is_one_of}
use Rattle.pool_policy.proofs.touching.names_any.Given as goal

abbrev pub invariant-arguments : goal.invariant-arguments
invariant-arguments l = list_any (is_one_of l.ids) (filter_map id_in l.rest) ≡ list_any (is_one_of l.ids) (filter_map id_in l.args)

abbrev pub decreases-arguments : goal.decreases-arguments
decreases-arguments l = length l.rest
