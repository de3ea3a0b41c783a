-- The numbers of groups: picks with one number are one group.
use Rattle.std.specs.Prelude.{◌≡◌, ℕ, List, [], ◌∷◌, map, Bool, ◌&&◌, ◌==◌}
use Rattle.std.specs.List.{AllByRecursion, list_all}
use Rattle.cell_core.specs.declared.cell.Cell.{Cell}
use Rattle.cell_core.specs.declared.cell.Cell.TheVariants.{Oid}
use Rattle.cell_core.specs.Same.{same_cell}
use Rattle.cell_core.specs.Pairs.{Pairs, numbered}
use Rattle.cell_core.specs.Groups.{distinct, group_number}

-- the same through a function
abbrev pub through : {X Y : Type 0} → (X → Y) → (Y → Y → Bool) → X → X → Bool
through f same a b = same (f a) (f b)

-- two relations agree on the elements of a list
abbrev pub Agrees : {X : Type 0} → (X → X → Bool) → (X → X → Bool) → List X → List X → Type 0
Agrees rel other all xs = AllByRecursion (λ p. AllByRecursion (λ q. rel p q ≡ other p q) all) xs

module _ {P : Type 0} where
  -- picks with one number
  abbrev pub alike : (P → ℕ) → P → P → Bool
  alike n p q = n p == n q

  -- the first pick of each group, in the order of the groups
  abbrev pub firsts : (P → ℕ) → List P → List P
  firsts n picks = distinct (alike n) picks

  -- the numbers of picks as oids
  abbrev pub number_oids : (P → ℕ) → List P → Pairs
  number_oids n picks = numbered (map (λ p. Oid (n p)) picks)

  -- the numbers by the cells of one column
  abbrev pub new_number : (P → Cell) → List P → P → ℕ
  new_number v picks p = group_number (λ a b. same_cell (v a) (v b)) picks p

  abbrev pub both_alike : (P → ℕ) → (P → Cell) → P → P → Bool
  both_alike n v a b = alike n a b && same_cell (v a) (v b)

  -- finer numbers, by the cells of one more column
  abbrev pub derived_number : (P → ℕ) → (P → Cell) → List P → P → ℕ
  derived_number n v picks p = group_number (both_alike n v) picks p

  -- finer numbers, by one column after another
  abbrev pub numbers_from : List P → (P → ℕ) → List (P → Cell) → P → ℕ
  numbers_from picks n [] = n
  numbers_from picks n (v ∷ vs) = numbers_from picks (derived_number n v picks) vs

  -- the cells of all these columns are the same
  abbrev pub all_same : List (P → Cell) → P → P → Bool
  all_same vs p q = list_all (λ (v : P → Cell). same_cell (v p) (v q)) vs
