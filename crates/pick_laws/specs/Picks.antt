-- Picks, as the middle of a plan has them: each pick has a place in a list, and a column holds one cell for
-- each, beside the oid of its place. Here is how picks spread to more picks.
use Rattle.std.specs.Prelude.{ℕ, ◌+◌, ◌<◌, List, [], ◌∷◌, ◌++◌, length, map, filter, flat_map, get_or, slice_index_or}
use Rattle.std.specs.List.{enumerate_from, range_with_len}
use Rattle.cell_core.specs.declared.cell.Cell.{Cell}
use Rattle.cell_core.specs.declared.cell.Cell.TheVariants.{Nil, Oid}
use Rattle.cell_core.specs.Pairs.{Pairs}
use Rattle.cell_core.specs.Relations.{meets}

-- cells beside the oids from a place on
abbrev pub numbered_from : ℕ → List Cell → Pairs
numbered_from k cells = map (λ c. (Oid c.0, c.1)) (enumerate_from k cells)

-- a place of a list of this length
abbrev pub IsBelow : ℕ → ℕ → Type 0
IsBelow n i = i < n

-- ## Rows by their numbers

abbrev pub row_numbers : {R : Type 0} → List R → List ℕ
row_numbers rows = range_with_len 0 (length rows)

-- the cell of row k at a place; a row past the end has no value anywhere
abbrev pub cell_in : List (List Cell) → ℕ → ℕ → Cell
cell_in rows place k = slice_index_or (get_or rows k []) place Nil

-- the oid of each row beside the value of a function at its number
abbrev pub beside : (ℕ → Cell) → List ℕ → Pairs
beside f ks = map (λ k. (Oid k, f k)) ks

-- the oids of rows, each beside itself
abbrev pub oids : List ℕ → Pairs
oids ks = beside (λ k. Oid k) ks

-- ## Spreading

module _ {P Y : Type 0} (h : P → List Y) where
  -- each pick beside each element that it spreads to
  abbrev pub spread : List P → List (P × Y)
  spread ps = flat_map (λ p. map (λ y. (p, y)) (h p)) ps

  -- the place of each pick, as often as it spreads
  abbrev pub spread_places : ℕ → List P → List ℕ
  spread_places k [] = []
  spread_places k (p ∷ ps) = map (λ y. k) (h p) ++ spread_places (k + 1) ps

module _ {P : Type 0} (h : P → List ℕ) where
  -- the place of each pick beside the oid of each row that it spreads to
  abbrev pub spread_pairs : ℕ → List P → Pairs
  spread_pairs m [] = []
  spread_pairs m (p ∷ ps) = map (λ k. (Oid m, Oid k)) (h p) ++ spread_pairs (m + 1) ps

-- the rows whose cell meets that of a pick
abbrev pub matching : {P : Type 0} → (P → Cell) → (ℕ → Cell) → List ℕ → P → List ℕ
matching a f ks p = filter (λ k. meets (a p) (f k)) ks
