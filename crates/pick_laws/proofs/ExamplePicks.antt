-- Three picks whose cells are 7, 8 and 7, beside a column of a table of two rows that holds 8 and 7.
use Rattle.std.proofs.Common.{◌≡◌, ℕ, ◌==◌, List, [], ◌∷◌, map, cond, refl}
use Rattle.std.specs.Prelude.{pos}
use Rattle.cell_core.specs.declared.cell.Cell.{Cell}
use Rattle.cell_core.specs.declared.cell.Cell.TheVariants.{Int, Oid}
use Rattle.cell_core.specs.declared.operator.Value.TheVariants.{Bat, One}
use Rattle.cell_core.specs.Pairs.{numbered}
use Rattle.cell_core.specs.Relations.{reversed, joined}
use Rattle.cell_core.specs.Groups.{grouped, counted, by_group}
use Rattle.pick_laws.specs.Picks.{beside, spread, spread_pairs, matching}
use Rattle.pick_laws.specs.Shapes.{Alone, Each, as_value, cells_at}
use Rattle.pick_laws.specs.Numbers.{new_number, firsts}

abbrev seven : Cell
seven = Int (pos 7)

abbrev eight : Cell
eight = Int (pos 8)

-- the pick that is named by a number
abbrev cell : ℕ → Cell
cell k = cond (k == 1) eight seven

abbrev column : ℕ → Cell
column k = cond (k == 0) eight seven

abbrev picks : List ℕ
picks = 0 ∷ 1 ∷ 2 ∷ []

abbrev rows : List ℕ
rows = 0 ∷ 1 ∷ []

-- the first and the last pick meet row 1, and the other one meets row 0
meeting : joined (numbered (map cell picks)) (reversed (beside column rows)) ≡ (Oid 0, Oid 1) ∷ (Oid 1, Oid 0) ∷ (Oid 2, Oid 1) ∷ []
meeting = refl

pairs : spread_pairs (matching cell column rows) 0 picks ≡ (Oid 0, Oid 1) ∷ (Oid 1, Oid 0) ∷ (Oid 2, Oid 1) ∷ []
pairs = refl

spreading : spread (matching cell column rows) picks ≡ (0, 1) ∷ (1, 0) ∷ (2, 1) ∷ []
spreading = refl

-- two groups, whose first picks are 0 and 1, of two picks and one
groups : grouped (numbered (map cell picks)) ≡ (Oid 0, Oid 0) ∷ (Oid 1, Oid 1) ∷ (Oid 2, Oid 0) ∷ []
groups = refl

first_picks : firsts (new_number cell picks) picks ≡ 0 ∷ 1 ∷ []
first_picks = refl

counts : by_group counted (numbered (map cell picks)) (grouped (numbered (map cell picks))) ≡ (Oid 0, Int (pos 2)) ∷ (Oid 1, Int (pos 1)) ∷ []
counts = refl

-- a scalar beside a cell for each pick
values : map (as_value picks) (Alone seven ∷ Each cell ∷ []) ≡ One seven ∷ Bat ((Oid 0, seven) ∷ (Oid 1, eight) ∷ (Oid 2, seven) ∷ []) ∷ []
values = refl

row : cells_at (Alone seven ∷ Each cell ∷ []) 1 ≡ seven ∷ eight ∷ []
row = refl
