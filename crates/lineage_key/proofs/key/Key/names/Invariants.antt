use Rattle.std.proofs.Common.{◌≡◌, length}
use Rattle.std.specs.Prelude.{◌==◌}
use Rattle.std.specs.List.{filter_map, list_any}
use Rattle.lineage_key.specs.Parents.{id_in, is_named}
use Rattle.lineage_key.proofs.key.Key.names.Given as goal

-- what is left names it exactly where the key does
abbrev pub invariant-arguments : goal.invariant-arguments
invariant-arguments l = list_any (λ parent. parent == l.id) (filter_map id_in l.rest) ≡ is_named l.self l.id

abbrev pub decreases-arguments : goal.decreases-arguments
decreases-arguments l = length l.rest
