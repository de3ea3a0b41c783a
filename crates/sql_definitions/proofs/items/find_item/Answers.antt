use Rattle.std.proofs.Common.{map}
use Rattle.sql_tree.specs.Tree.{item_tree}
use Rattle.sql_definitions.proofs.ItemLemmas.{item_by_place}
use Rattle.sql_definitions.proofs.items.find_item.Goals as goal

pub returns-in-None : goal.returns-in-None
returns-in-None c =
    item_by_place c.args.sources.now (map item_tree c.args.items.now) c.args.reference.now _ _ _ c.in-None.ensures c.as_ref.ensures.value c.column_place-place.ensures c.find_at.ensures
