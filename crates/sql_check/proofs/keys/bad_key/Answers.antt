use Rattle.std.proofs.Common.{map}
use Rattle.sql_tree.specs.Tree.{item_tree}
use Rattle.sql_check.proofs.FirstLemmas.{key_by_place}
use Rattle.sql_check.proofs.keys.bad_key.Goals as goal

pub returns-in_ok-refusal-in-Named : goal.returns-in_ok-refusal-in-Named
returns-in_ok-refusal-in-Named c =
    key_by_place c.args.sources.now (map item_tree c.args.items.now) c.args.place.now c.in-Named.reference _ _ _ _ _
    c.in-Named.is c.key_place.ensures c.is_some.ensures c.if-is_some.false c.as_ref.ensures.value c.find_column-found.ensures c.in_ok-refusal-in-Named.ensures
