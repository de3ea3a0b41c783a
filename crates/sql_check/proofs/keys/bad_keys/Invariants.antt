use Rattle.std.proofs.Common.{◌≡◌, map, length}
use Rattle.sql_tree.specs.Tree.{item_tree}
use Rattle.sql_check.specs.First.{first, bad_keys_of}
use Rattle.sql_check.proofs.keys.bad_keys.Given as goal

-- the rest decides as all do
abbrev pub invariant-keys : goal.invariant-keys
invariant-keys l =
    first (bad_keys_of l.sources (map item_tree l.items) l.rest) ≡ first (bad_keys_of l.sources (map item_tree l.items) l.keys)

abbrev pub decreases-keys : goal.decreases-keys
decreases-keys l = length l.rest
