-- What the grouping operators and the aggregates return. A group has a number, by its first occurrence; here Nil is the same as Nil.
use Rattle.std.specs.Prelude.{ℕ, List, [], ◌∷◌, length, map, filter, fold, Bool, not, ◌&&◌, zip, find, unwrap_or, pos, ◌+ℤ◌}
use Rattle.std.specs.List.{list_all, position_or_len}
use Rattle.std.specs.Ordering.{is_le, is_ge}
use Rattle.cell_core.specs.declared.cell.Cell.{Cell}
use Rattle.cell_core.specs.declared.cell.Cell.TheVariants.{Nil, Int, Huge, Oid}
use Rattle.cell_core.specs.Order.{number, cell_cmp}
use Rattle.cell_core.specs.Same.{same_cell}
use Rattle.cell_core.specs.Pairs.{Pairs, heads_of, tails_of, is_nil, numbered}

module _ {X : Type 0} (same : X → X → Bool) where
  -- the distinct elements, each where it occurs first
  abbrev pub distinct : List X → List X
  distinct [] = []
  distinct (x ∷ xs) = x ∷ filter (λ y. not (same x y)) (distinct xs)

  -- the number of an element: its place among the distinct ones
  abbrev pub group_number : List X → X → ℕ
  group_number xs x = position_or_len (λ y. same y x) (distinct xs)

-- each head beside the number of its tail
abbrev pub grouped : Pairs → Pairs
grouped b = map (λ p. (p.0, Oid (group_number same_cell (tails_of b) p.1))) b

-- two pairs with the same cells
abbrev pub same_pair : Cell × Cell → Cell × Cell → Bool
same_pair p q = same_cell p.0 q.0 && same_cell p.1 q.1

-- the tails at each place, up to the shorter of the two
abbrev pub paired_tails : Pairs → Pairs → Pairs
paired_tails g b = zip (tails_of g) (tails_of b)

-- each head of g, up to the shorter, beside the number of the pair of tails there
abbrev pub derived : Pairs → Pairs → Pairs
derived g b =
    zip (heads_of g) (map (λ p. Oid (group_number same_pair (paired_tails g b) p)) (paired_tails g b))

-- the head of the first pair of each group, in the order of the groups' numbers
abbrev pub group_heads_of : Pairs → Pairs
group_heads_of g = numbered (heads_of (distinct (λ p q. same_cell p.1 q.1) g))

-- the cells that aren't Nil
abbrev pub known : List Cell → List Cell
known cells = filter (λ c. not (is_nil c)) cells

-- how many they are
abbrev pub counted : List Cell → Cell
counted cells = Int (pos (length (known cells)))

-- the sum of numbers; Nil is the sum of none
abbrev pub sum_of : List Cell → Cell
sum_of [] = Nil
sum_of (c ∷ cells) = Huge (fold (λ total x. total +ℤ number x) (pos 0) (c ∷ cells))

-- their sum
abbrev pub summed : List Cell → Cell
summed cells = sum_of (known cells)

-- the first of them that is at most each; Nil is the least of none
abbrev pub least : List Cell → Cell
least cells = unwrap_or (find (λ c. list_all (λ x. is_le (cell_cmp c x)) (known cells)) (known cells)) Nil

-- the first of them that is at least each; Nil is the greatest of none
abbrev pub greatest : List Cell → Cell
greatest cells = unwrap_or (find (λ c. list_all (λ x. is_ge (cell_cmp c x)) (known cells)) (known cells)) Nil

-- the tails of b beside which g has this tail, by position, up to the shorter
abbrev pub members : Pairs → Pairs → Cell → List Cell
members b g group = map (λ p. p.0) (filter (λ p. same_cell p.1 group) (paired_tails b g))

-- an aggregate over the members of each group of g, in the order of the groups' numbers
abbrev pub by_group : (List Cell → Cell) → Pairs → Pairs → Pairs
by_group aggregate b g = numbered (map (λ group. aggregate (members b g group)) (distinct same_cell (tails_of g)))
