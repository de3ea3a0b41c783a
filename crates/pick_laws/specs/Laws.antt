-- What operators make of columns that have a cell for each pick.
use Rattle.std.specs.Prelude.{◌≡◌, ℕ, ◌<◌, List, ◌∷◌, length, map, filter, Bool, true, not, ◌&&◌, ◌||◌, Option, get_or, unwrap_or}
use Rattle.std.specs.List.{AllByRecursion, range_with_len}
use Rattle.std.specs.Option.{option_map}
use Rattle.cell_core.specs.declared.cell.Cell.{Cell}
use Rattle.cell_core.specs.declared.cell.Cell.TheVariants.{Nil, Oid, Bit}
use Rattle.cell_core.specs.Pairs.{Pairs, heads_of, tails_of, numbered, is_true, shortest, rows_of}
use Rattle.cell_core.specs.Relations.{column_cells, has_head, kdifference_of, kunion_of, reversed, marked, selected, joined, crossed, semijoined, projected}
use Rattle.cell_core.specs.Calc.{calculated}
use Rattle.cell_core.specs.Groups.{grouped, derived, group_heads_of, by_group}
use Rattle.pick_laws.specs.Picks.{IsBelow, row_numbers, cell_in, beside, oids, spread, spread_places, spread_pairs, matching}
use Rattle.pick_laws.specs.Shapes.{Shape, any_each, as_value, cells_at, each_or_none}
use Rattle.pick_laws.specs.Numbers.{Agrees, alike, firsts, number_oids, new_number, derived_number, numbers_from, all_same}

-- how the cells at places are gathered
pub record PlacesAreGathered (P Y : Type 0) : Type 0 where
  -- the heads of any BAT, counted
  pub counting : (b : Pairs) → reversed (marked (Oid 0) b) ≡ numbered (heads_of b)
  -- a join with the oids of places takes the cells at these places
  pub gather : (cells : List Cell) (places : List ℕ) → AllByRecursion (IsBelow (length cells)) places
      → joined (numbered (map Oid places)) (numbered cells) ≡ numbered (map (λ i. get_or cells i Nil) places)
  -- the same where each pick occurs as often as it spreads
  pub spreading : (h : P → List Y) (g : P → Cell) (picks : List P)
      → joined (numbered (map Oid (spread_places h 0 picks))) (numbered (map g picks)) ≡ numbered (map (λ (q : P × Y). g q.0) (spread h picks))

-- what joins a pick with the rows of one more table
pub record PicksSpread (P : Type 0) : Type 0 where
  -- a join by a column of the table spreads each pick to the rows that it meets
  pub join : (a : P → Cell) (f : ℕ → Cell) (ks : List ℕ) (picks : List P)
      → joined (numbered (map a picks)) (reversed (beside f ks)) ≡ spread_pairs (matching a f ks) 0 picks
  -- a cross product spreads each pick to all rows
  pub cross : (g : P → Cell) (ks : List ℕ) (picks : List P) → crossed (numbered (map g picks)) (oids ks) ≡ spread_pairs (λ p. ks) 0 picks
  -- the heads of such pairs are the places of the picks, and their tails are the rows
  pub heads : (h : P → List ℕ) (picks : List P) → heads_of (spread_pairs h 0 picks) ≡ map Oid (spread_places h 0 picks)
  pub tails : (h : P → List ℕ) (picks : List P) → tails_of (spread_pairs h 0 picks) ≡ map (λ (q : P × ℕ). Oid q.1) (spread h picks)

-- which rows a condition of a column keeps
pub record RowsAreKept : Type 0 where
  -- a selection of a column has a row's oid just where the row's cell passes
  pub selection : (f : ℕ → Cell) (t : Cell → Bool) (n j : ℕ) → (t (f j) ≡ true → j < n) → has_head (filter (λ p. t p.1) (beside f (range_with_len 0 n))) (Oid j) ≡ t (f j)
  pub union : (l r : Pairs) (head : Cell) → has_head (kunion_of l r) head ≡ has_head l head || has_head r head
  pub difference : (l r : Pairs) (head : Cell) → has_head (kdifference_of l r) head ≡ has_head l head && not (has_head r head)
  -- the cells of a column at the rows that pass
  pub candidates : (f : ℕ → Cell) (t : ℕ → Bool) (n : ℕ)
      → semijoined (beside f (range_with_len 0 n)) (oids (filter t (range_with_len 0 n))) ≡ beside f (filter t (range_with_len 0 n))
  -- a column's cells beside the oids of its rows
  pub column : (place : ℕ) (rows : List (List Cell)) → numbered (column_cells place rows) ≡ beside (cell_in rows place) (row_numbers rows)

-- what is computed of values with a cell for each pick
pub record ShapesStay (P : Type 0) : Type 0 where
  -- the picks whose cell is true, counted, take what each column has for them
  pub keep : (a g : P → Cell) (picks : List P)
      → joined (numbered (heads_of (selected (Bit true) (Bit true) true true (numbered (map a picks))))) (numbered (map g picks)) ≡ numbered (map g (filter (λ p. is_true (a p)) picks))
  -- a function of cells returns a cell for each pick, or overflows where it does for one
  pub functions : (f : List Cell → Option Cell) (shapes : List (Shape P)) → any_each shapes ≡ true → (picks : List P)
      → calculated f (map (as_value picks) shapes) ≡ option_map (as_value picks) (each_or_none (λ p. f (cells_at shapes p)) picks)
  -- a scalar beside each pick
  pub project : (c : Cell) (g : P → Cell) (picks : List P) → projected c (numbered (map g picks)) ≡ numbered (map (λ p. c) picks)
  -- shown as columns they make a row for each pick
  pub output : (shapes : List (Shape P)) (picks : List P) → any_each shapes ≡ true
      → rows_of (map (as_value picks) shapes) (unwrap_or (shortest (map (as_value picks) shapes)) 1) ≡ map (cells_at shapes) picks

-- the results of grouping
pub record GroupsAreNumbered (P : Type 0) : Type 0 where
  pub new : (v : P → Cell) (picks : List P) → grouped (numbered (map v picks)) ≡ number_oids (new_number v picks) picks
  pub derive : (n : P → ℕ) (v : P → Cell) (picks : List P) → derived (number_oids n picks) (numbered (map v picks)) ≡ number_oids (derived_number n v picks) picks
  -- picks have one number just where all columns have the same cells for them
  pub numbers : (picks : List P) (v : P → Cell) (vs : List (P → Cell)) → Agrees (alike (numbers_from picks (new_number v picks) vs)) (all_same (v ∷ vs)) picks picks
  -- a join with the groups' heads takes the cells of their first picks
  pub first : (n : P → ℕ) (v : P → Cell) (picks : List P) → joined (group_heads_of (number_oids n picks)) (numbered (map v picks)) ≡ numbered (map v (firsts n picks))
  -- an aggregate over the picks of each group
  pub aggregate : (total : List Cell → Cell) (b : P → Cell) (n : P → ℕ) (picks : List P)
      → by_group total (numbered (map b picks)) (number_oids n picks) ≡ numbered (map (λ q. total (map b (filter (λ p. alike n p q) picks))) (firsts n picks))
