-- Functions of cells over values that have one cell for each pick, or one for all.
use Rattle.std.proofs.Common.{◌≡◌, ℕ, suc, ◌+◌, min, List, [], ◌∷◌, ◌++◌, length, map, Bool, true, false, ◌||◌, cond, Option, Some, None, refl, ap, sym, ◌∙◌, arith, append_assoc}
use Rattle.std.specs.Prelude.{get_or, zip, unwrap_or, is_none}
use Rattle.std.specs.List.{range_with_len, list_any}
use Rattle.std.specs.Option.{option_map, option_and_then, option_map_or}
use Rattle.std.proofs.Math.Seq.{get_or-append_seam}
use Rattle.std.proofs.lemmas.List.{map-append, length-map}
use Rattle.cell_core.specs.declared.cell.Cell.{Cell}
use Rattle.cell_core.specs.declared.cell.Cell.TheVariants.{Nil, Oid}
use Rattle.cell_core.specs.declared.operator.Value.TheVariants.{Bat}
use Rattle.cell_core.specs.Pairs.{heads_of, numbered, bats_in, shortest, cell_at, row_at, rows_of}
use Rattle.cell_core.specs.Calc.{all_or_none, calculated, calculated_at, first_heads}
use Rattle.pick_laws.specs.Picks.{numbered_from}
use Rattle.pick_laws.specs.Shapes.{Shape, Alone, Each, at, any_each, as_value, cells_at, each_or_none}
use Rattle.pick_laws.proofs.ListLemmas.{longer, map_after}
use Rattle.pick_laws.proofs.NumberLemmas.{tails_of_numbered}

module _ {P X : Type 0} (g : List P → ℕ → X) (h : P → X) (here : (before : List P) (p : P) (behind : List P) → g (before ++ p ∷ behind) (length before) ≡ h p) where
  places_behind : (before ps : List P) → map (g (before ++ ps)) (range_with_len (length before) (length ps)) ≡ map h ps
  places_behind before [] = refl
  places_behind before (p ∷ ps) =
      ap (λ x. x ∷ map (g (before ++ p ∷ ps)) (range_with_len (length before + 1) (length ps))) (here before p ps)
      ∙ ap (λ r. h p ∷ r)
      (ap (λ n. map (g (before ++ p ∷ ps)) (range_with_len n (length ps))) (sym (longer before p))
      ∙ ap (λ all. map (g all) (range_with_len (length (before ++ p ∷ [])) (length ps))) (sym (append_assoc before (p ∷ []) ps))
      ∙ places_behind (before ++ p ∷ []) ps)

  pub by_places : (ps : List P) → map (g ps) (range_with_len 0 (length ps)) ≡ map h ps
  by_places ps = places_behind [] ps

-- ## Lengths and heads

length_numbered : (k : ℕ) (cells : List Cell) → length (numbered_from k cells) ≡ length cells
length_numbered k [] = refl
length_numbered k (c ∷ cells) = ap (λ n. suc n) (length_numbered (k + 1) cells)

min_same : (n : ℕ) → min n n ≡ n
min_same n = grind arith

-- a length, where there is one
abbrev long_if : Bool → ℕ → Option ℕ
long_if b n = cond b (Some n) None

-- heads that count from 0
abbrev pub counts : ℕ → ℕ → List Cell
counts k n = map Oid (range_with_len k n)

heads_count : (k : ℕ) (cells : List Cell) → heads_of (numbered_from k cells) ≡ counts k (length cells)
heads_count k [] = refl
heads_count k (c ∷ cells) = ap (λ r. Oid k ∷ r) (heads_count (k + 1) cells)

zip_counts : (k : ℕ) (cells : List Cell) → zip (counts k (length cells)) cells ≡ numbered_from k cells
zip_counts k [] = refl
zip_counts k (c ∷ cells) = ap (λ r. (Oid k, c) ∷ r) (zip_counts (k + 1) cells)

cons_parts : {X : Type 0} (x : X) (o : Option (List X)) (xs : List X) → option_map (λ ys. x ∷ ys) o ≡ Some xs → (ys : List X) × (o ≡ Some ys) × (x ∷ ys ≡ xs)
cons_parts x None xs e = cc
cons_parts x (Some ys) xs e = (ys, refl, cc)

all_long : {X : Type 0} (o : List (Option X)) (xs : List X) → all_or_none o ≡ Some xs → length o ≡ length xs
all_long [] [] e = refl
all_long [] (x ∷ xs) e = cc
all_long (None ∷ o) xs e = cc
all_long (Some x ∷ o) xs e = let parts = cons_parts x (all_or_none o) xs e in ap (λ n. suc n) (all_long o parts.0 parts.1) ∙ ap length parts.2

-- ## Shapes

module _ {P : Type 0} where
  cell_here : (s : Shape P) (before : List P) (p : P) (behind : List P) → cell_at (length before) (as_value (before ++ p ∷ behind) s) ≡ at s p
  cell_here (Alone cell) before p behind = refl
  cell_here (Each f) before p behind =
      ap (λ cells. get_or cells (length before) Nil) (tails_of_numbered (map f (before ++ p ∷ behind)) ∙ map-append f before (p ∷ behind))
      ∙ ap (λ n. get_or (map f before ++ f p ∷ map f behind) n Nil) (sym (length-map before f))
      ∙ get_or-append_seam (map f before) (f p) (map f behind) Nil

  row_here : (shapes : List (Shape P)) (before : List P) (p : P) (behind : List P) → row_at (map (as_value (before ++ p ∷ behind)) shapes) (length before) ≡ cells_at shapes p
  row_here [] before p behind = refl
  row_here (s ∷ shapes) before p behind =
      ap (λ c. c ∷ row_at (map (as_value (before ++ p ∷ behind)) shapes) (length before)) (cell_here s before p behind)
      ∙ ap (λ r. at s p ∷ r) (row_here shapes before p behind)

  -- the rows of such values
  pub rows_are : (shapes : List (Shape P)) (picks : List P) → rows_of (map (as_value picks) shapes) (length picks) ≡ map (cells_at shapes) picks
  rows_are shapes picks = by_places (λ ps i. row_at (map (as_value ps) shapes) i) (cells_at shapes) (row_here shapes) picks

  long : (f : P → Cell) (picks : List P) → length (numbered (map f picks)) ≡ length picks
  long f picks = length_numbered 0 (map f picks) ∙ length-map picks f

  shortest_step : (b : Bool) (f : P → Cell) (picks : List P) (o : Option ℕ) → o ≡ long_if b (length picks)
      → Some (option_map_or (λ n. min (length (numbered (map f picks))) n) o (length (numbered (map f picks)))) ≡ Some (length picks)
  shortest_step true f picks o e =
      ap (λ x. Some (option_map_or (λ n. min (length (numbered (map f picks))) n) x (length (numbered (map f picks))))) e
      ∙ ap (λ n. Some (min n (length picks))) (long f picks) ∙ ap Some (min_same (length picks))
  shortest_step false f picks o e =
      ap (λ x. Some (option_map_or (λ n. min (length (numbered (map f picks))) n) x (length (numbered (map f picks))))) e ∙ ap Some (long f picks)

  pub shortest_is : (shapes : List (Shape P)) (picks : List P) → shortest (map (as_value picks) shapes) ≡ long_if (any_each shapes) (length picks)
  shortest_is [] picks = refl
  shortest_is (Alone cell ∷ shapes) picks = shortest_is shapes picks
  shortest_is (Each f ∷ shapes) picks = shortest_step (any_each shapes) f picks (shortest (map (as_value picks) shapes)) (shortest_is shapes picks)

  first_heads_are : (shapes : List (Shape P)) (picks : List P) → any_each shapes ≡ true → first_heads (bats_in (map (as_value picks) shapes)) ≡ counts 0 (length picks)
  first_heads_are [] picks e = cc
  first_heads_are (Alone cell ∷ shapes) picks e = first_heads_are shapes picks e
  first_heads_are (Each f ∷ shapes) picks e = heads_count 0 (map f picks) ∙ ap (counts 0) (length-map picks f)

  -- ## Functions of cells

  module _ (f : List Cell → Option Cell) (shapes : List (Shape P)) (each : any_each shapes ≡ true) where
    count_is : (picks : List P) → shortest (map (as_value picks) shapes) ≡ Some (length picks)
    count_is picks = shortest_is shapes picks ∙ ap (λ b. long_if b (length picks)) each

    numbered_again : (picks : List P) (o : Option (List Cell)) → all_or_none (map (λ p. f (cells_at shapes p)) picks) ≡ o
        → option_map (λ cells. Bat (zip (counts 0 (length picks)) cells)) o ≡ option_map (λ cells. Bat (numbered cells)) o
    numbered_again picks None e = refl
    numbered_again picks (Some cells) e =
        ap (λ n. Some (Bat (zip (counts 0 n) cells))) (sym (length-map picks (λ p. f (cells_at shapes p))) ∙ all_long (map (λ p. f (cells_at shapes p)) picks) cells e)
        ∙ ap (λ b. Some (Bat b)) (zip_counts 0 cells)

    -- a function of cells over such values, one of which has a cell for each pick
    pub calculated_is : (picks : List P) → calculated f (map (as_value picks) shapes) ≡ option_map (λ cells. Bat (numbered cells)) (all_or_none (map (λ p. f (cells_at shapes p)) picks))
    calculated_is picks =
        ap (λ count. calculated_at count f (map (as_value picks) shapes)) (count_is picks)
        ∙ ap (λ heads. option_map (λ cells. Bat (zip heads cells)) (all_or_none (map f (rows_of (map (as_value picks) shapes) (length picks))))) (first_heads_are shapes picks each)
        ∙ ap (λ rows. option_map (λ cells. Bat (zip (counts 0 (length picks)) cells)) (all_or_none rows)) (ap (map f) (rows_are shapes picks) ∙ map_after f (cells_at shapes) picks)
        ∙ numbered_again picks (all_or_none (map (λ p. f (cells_at shapes p)) picks)) refl

  -- the rows that an output makes of such values
  pub rows_shown : (shapes : List (Shape P)) (picks : List P) → any_each shapes ≡ true → rows_of (map (as_value picks) shapes) (unwrap_or (shortest (map (as_value picks) shapes)) 1) ≡ map (cells_at shapes) picks
  rows_shown shapes picks e =
      ap (λ count. rows_of (map (as_value picks) shapes) (unwrap_or count 1)) (shortest_is shapes picks ∙ ap (λ b. long_if b (length picks)) e) ∙ rows_are shapes picks

  each_is : (h : P → Option Cell) (picks : List P) → all_or_none (map h picks) ≡ cond (list_any (λ p. is_none (h p)) picks) None (Some (map (λ p. unwrap_or (h p) Nil) picks))
  each_is h [] = refl
  each_is h (p ∷ picks) = by_case (h p) (all_or_none (map h picks)) (list_any (λ p. is_none (h p)) picks) (each_is h picks)
    where
      by_case : (o : Option Cell) (others : Option (List Cell)) (b : Bool) → others ≡ cond b None (Some (map (λ p. unwrap_or (h p) Nil) picks))
          → option_and_then (λ y. option_map (λ ys. y ∷ ys) others) o ≡ cond (is_none o || b) None (Some (unwrap_or o Nil ∷ map (λ p. unwrap_or (h p) Nil) picks))
      by_case None others b e = refl
      by_case (Some y) others true e = ap (option_map (λ ys. y ∷ ys)) e
      by_case (Some y) others false e = ap (option_map (λ ys. y ∷ ys)) e

  -- the result is such a value again, or none
  pub calculated_shape : (f : List Cell → Option Cell) (shapes : List (Shape P)) → any_each shapes ≡ true → (picks : List P)
      → calculated f (map (as_value picks) shapes) ≡ option_map (as_value picks) (each_or_none (λ p. f (cells_at shapes p)) picks)
  calculated_shape f shapes e picks =
      calculated_is f shapes e picks ∙ ap (option_map (λ cells. Bat (numbered cells))) (each_is (λ p. f (cells_at shapes p)) picks) ∙ by_case (list_any (λ p. is_none (f (cells_at shapes p))) picks)
    where
      by_case : (b : Bool) → option_map (λ cells. Bat (numbered cells)) (cond b None (Some (map (λ p. unwrap_or (f (cells_at shapes p)) Nil) picks)))
          ≡ option_map (as_value picks) (cond b None (Some (Each (λ p. unwrap_or (f (cells_at shapes p)) Nil))))
      by_case true = refl
      by_case false = refl
