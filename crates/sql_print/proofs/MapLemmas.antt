-- Lists of code values, seen as lists of trees.
use Rattle.std.proofs.Common.{◌≡◌, List, [], ◌∷◌, map, refl, ap}
use Rattle.sql_print.specs.Canon.{set_text, item_text}
use Rattle.sql_tree.specs.Tree.{set_tree, item_tree}
use Rattle.std.specs.Prelude.{ℕ}
use Rattle.sql_tree.specs.declared.tree.Expr.{Expr}
use Rattle.sql_tree.specs.declared.tree.Item.{Item}

pub sets_texts : (sets : List (List ℕ × Expr)) → map set_text (map set_tree sets) ≡ map (λ set. set_text (set_tree set)) sets
sets_texts [] = refl
sets_texts (set ∷ sets) = ap (λ texts. set_text (set_tree set) ∷ texts) (sets_texts sets)

pub items_texts : (items : List Item) → map item_text (map item_tree items) ≡ map (λ item. item_text (item_tree item)) items
items_texts [] = refl
items_texts (item ∷ items) = ap (λ texts. item_text (item_tree item) ∷ texts) (items_texts items)
