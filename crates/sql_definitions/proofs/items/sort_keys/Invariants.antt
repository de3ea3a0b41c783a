use Rattle.std.proofs.Common.{◌≡◌, ◌++◌, map, length}
use Rattle.std.specs.Prelude.{filter_map}
use Rattle.std.specs.Option.{option_map}
use Rattle.sql_tree.specs.Tree.{item_tree}
use Rattle.sql_tree.specs.declared.tree.SortKey.{SortKey}
use Rattle.sql_definitions.specs.Answer.{key_place}
use Rattle.sql_definitions.proofs.items.sort_keys.Given as goal

-- what is made so far, followed by what the rest makes, is what all make
abbrev pub invariant-keys : goal.invariant-keys
invariant-keys l =
    l.places.items ++ filter_map (λ (key : SortKey). option_map (λ n. (n, key.ascending)) (key_place l.sources (map item_tree l.items) key.at)) l.rest
    ≡ filter_map (λ (key : SortKey). option_map (λ n. (n, key.ascending)) (key_place l.sources (map item_tree l.items) key.at)) l.keys

abbrev pub decreases-keys : goal.decreases-keys
decreases-keys l = length l.rest
