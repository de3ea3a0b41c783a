use Rattle.std.proofs.Common.{◌≡◌, length}
use Rattle.std.specs.List.{find, filter_map}
use Rattle.pool_policy.specs.Keyed.{is_missing}
use Rattle.lineage_key.specs.Parents.{id_in}
use Rattle.pool_entries.proofs.by_id.missing_among.Given as goal

abbrev pub invariant-arguments : goal.invariant-arguments
invariant-arguments l = find (is_missing l.entries) (filter_map id_in l.rest) ≡ find (is_missing l.entries) (filter_map id_in l.args)

abbrev pub decreases-arguments : goal.decreases-arguments
decreases-arguments l = length l.rest
