-- Selections in the order of their parents, then of the lows of their spans, then of their ids.
use Rattle.std.specs.Prelude.{◌≡◌, ℕ, List, [], ◌∷◌, Bool, false, ◌&&◌, ◌==◌, if◌then◌else◌, nat_lt, nat_le}
use Rattle.std.specs.Ordering.{nat_cmp, ordering_then, is_lt}
use Rattle.std.specs.declared.cmp.Ordering.{Ordering}
use Rattle.std.specs.declared.vec.Vec.{Vec}
use Rattle.std.specs.List.{AllByRecursion}
use Rattle.std.specs.Vec.{vec_capacity}
use Rattle.cell_core.specs.declared.cut.Span.{Span}
use Rattle.cell_core.specs.Cuts.{cut_cmp}
use Rattle.subsume.specs.declared.item.CutItem.{CutItem}

-- by parent, then by low, then by id
abbrev pub item_cmp : CutItem → CutItem → Ordering
item_cmp a b = ordering_then (ordering_then (nat_cmp a.parent b.parent) (cut_cmp a.span.low b.span.low)) (nat_cmp a.id b.id)

-- an item is before another
abbrev pub is_item_below : CutItem → CutItem → Bool
is_item_below a b = is_lt (item_cmp a b)

-- no later item is before an earlier one
abbrev pub Ascends : List CutItem → Type 0
Ascends [] = Unit {0}
Ascends (x ∷ xs) = AllByRecursion (λ y. is_item_below y x ≡ false) xs × Ascends xs

-- an item of an index
abbrev pub item_of : ℕ → Span → ℕ → ℕ → CutItem
item_of parent span rows id = record { parent = parent; span = span; rows = rows; id = id }

-- the items of an index, and how many fit
pub record IndexView : Type 0 where
  pub items : List CutItem
  pub room : ℕ

-- what an index shows
abbrev pub view_of : {Z : Type 0} → Vec CutItem Z → IndexView
view_of items = record { items = items.items; room = vec_capacity items }

-- the item of this parent that has this id
abbrev pub is_at : ℕ → ℕ → CutItem → Bool
is_at parent id item = item.parent == parent && item.id == id

-- an item's parent is below the given one, or, with after, at most the given one
abbrev pub is_counted : ℕ → Bool → CutItem → Bool
is_counted parent after item = if after then nat_le item.parent parent else nat_lt item.parent parent
