-- An item that is found by the place of a key's column.
use Rattle.std.proofs.Common.{◌≡◌, ℕ, List, position, ap, ◌∙◌, Option, None}
use Rattle.std.specs.Option.{option_or}
use Rattle.sql_tree.specs.Tree.{ItemTree}
use Rattle.sql_tree.specs.declared.tree.ColRef.{ColRef}
use Rattle.sql_definitions.specs.Sources.{NamedSource, place_of}
use Rattle.sql_definitions.specs.Answer.{is_called, is_column, item_named}

pub item_by_place : (sources : List NamedSource) (items : List ItemTree) (ref : ColRef) (table : Option (List ℕ)) (place : Option (ℕ × ℕ)) (found : Option ℕ)
    → None ≡ position (is_called ref) items → table ≡ ref.table → place ≡ place_of sources (record { table = table; column = ref.column })
    → found ≡ position (λ (item : ItemTree). is_column sources place item.expr) items → found ≡ item_named sources items ref
item_by_place sources items ref table place found no_alias is_table is_place is_found =
    is_found
    ∙ ap (λ p. position (λ (item : ItemTree). is_column sources p item.expr) items) (is_place ∙ ap (λ t. place_of sources (record { table = t; column = ref.column })) is_table)
    ∙ ap (λ (alias : Option ℕ). option_or alias (position (λ (item : ItemTree). is_column sources (place_of sources ref) item.expr) items)) no_alias
