-- Functions over the rows of values.
use Rattle.std.proofs.Common.{◌≡◌, ℕ, suc, zero, ◌+◌, ◌<◌, ◌≤◌, List, [], ◌∷◌, ◌++◌, length, map, get_or, take, drop, Option, None, Some, refl, sym, ap, ◌∙◌, arith}
use Rattle.std.specs.Prelude.{replicate}
use Rattle.std.specs.List.{zip, range_with_len}
use Rattle.std.specs.Option.{option_map, option_and_then}
use Rattle.std.proofs.lemmas.List.{map-append, append_assoc, take_more, drop_more, length-map, take-append-drop}
use Rattle.std.proofs.lemmas.List.FromFn.{length-map-range_with_len}
use Rattle.std.proofs.lemmas.Slice.Zip.{length-zip, get_or-zip}
use Rattle.cell_core.specs.declared.cell.Cell.{Cell}
use Rattle.cell_core.specs.declared.cell.Cell.TheVariants.{Nil}
use Rattle.cell_core.specs.declared.operator.Value.{Value}
use Rattle.cell_core.specs.declared.operator.Value.TheVariants.{Bat, One}
use Rattle.cell_core.specs.Pairs.{Pairs, tails_of, row_at, rows_of, cell_at}
use Rattle.cell_core.specs.Calc.{over_two, all_or_none}
use Rattle.bat_calc.specs.declared.function.Function.{Function}
use Rattle.bat_calc.specs.Functions.{function_of, column, applied}

-- the cells after a first one
behind : (o : Option (List Cell)) (z : Cell) (ys : List Cell) → option_map (λ l. z ∷ l) o ≡ Some ys → (zs : List Cell) × (o ≡ Some zs) × (z ∷ zs ≡ ys)
behind None z ys same = cc
behind (Some zs) z ys same = (zs, refl, cc)

-- one more cell
all_push : (xs : List (Option Cell)) (ys : List Cell) (y : Cell) → all_or_none xs ≡ Some ys → all_or_none (xs ++ Some y ∷ []) ≡ Some (ys ++ y ∷ [])
all_push [] ys y same = let none : [] ≡ ys = cc in ap (λ l. Some (l ++ y ∷ [])) none
all_push (None ∷ xs) ys y same = cc
all_push (Some z ∷ xs) ys y same =
    let rest = behind (all_or_none xs) z ys same in
    ap (option_map (λ l. z ∷ l)) (all_push xs rest.0 y rest.1) ∙ ap (λ l. Some (l ++ y ∷ [])) rest.2

-- no cell in front of what isn't there
and_none : (o : Option Cell) → option_and_then (λ y. option_map (λ ys. y ∷ ys) None) o ≡ None
and_none None = refl
and_none (Some y) = refl

-- where some have no cell, all have none
none_behind : (xs ys : List (Option Cell)) → all_or_none ys ≡ None → all_or_none (xs ++ ys) ≡ None
none_behind [] ys none = none
none_behind (x ∷ xs) ys none = ap (λ rest. option_and_then (λ y. option_map (λ ys. y ∷ ys) rest) x) (none_behind xs ys none) ∙ and_none x

none_before : (xs ys : List (Option Cell)) → all_or_none xs ≡ None → all_or_none (xs ++ ys) ≡ None
none_before [] ys none = cc
none_before (None ∷ xs) ys none = refl
none_before (Some y ∷ xs) ys none = ap (option_map (λ ys. y ∷ ys)) (none_before xs ys (none_rest (all_or_none xs) y none))
  where
    none_rest : (o : Option (List Cell)) (y : Cell) → option_map (λ ys. y ∷ ys) o ≡ None → o ≡ None
    none_rest None y e = refl
    none_rest (Some zs) y e = cc

-- the pairs of a run, with one more
pair_more : (l r : List Cell) (i : ℕ) (x y : Cell) → i < length l → length r ≡ length l → x ≡ get_or l i x → y ≡ get_or r i y → take (i + 1) (zip l r) ≡ take i (zip l r) ++ (x, y) ∷ []
pair_more l r i x y within even first second =
    let short : i < length (zip l r) = omega (arith, length-zip l r) in
    take_more (zip l r) i (x, y) short
    ∙ ap (λ p. take i (zip l r) ++ p ∷ []) (get_or-zip l r i (x, y) within (omega arith) ∙ ap (λ a. (a, get_or r i y)) (sym first) ∙ ap (λ a. (x, a)) (sym second))

-- as many cells as places
applied_long : (xs : List (Option Cell)) (ys : List Cell) → all_or_none xs ≡ Some ys → length ys ≡ length xs
applied_long [] ys same = let none : [] ≡ ys = cc in sym (ap length none)
applied_long (None ∷ xs) ys same = cc
applied_long (Some z ∷ xs) ys same =
    let rest = behind (all_or_none xs) z ys same in
    sym (ap length rest.2) ∙ ap suc (applied_long xs rest.0 rest.1)

module _ (function : Function) where
  -- one more pair that has a cell
  pub applied_more : (before : Pairs) (l r : List Cell) (i : ℕ) (x y z : Cell) (cells new : List Cell) → i < length l → length r ≡ length l → x ≡ get_or l i x → y ≡ get_or r i y
      → applied function (before ++ take i (zip l r)) ≡ Some cells → function_of function x y ≡ Some z → new ≡ cells ++ z ∷ [] → applied function (before ++ take (i + 1) (zip l r)) ≡ Some new
  applied_more before l r i x y z cells new within even first second so_far here added =
      let front = before ++ take i (zip l r) in
      ap (λ ps. applied function (before ++ ps)) (pair_more l r i x y within even first second)
      ∙ ap (applied function) (sym (append_assoc before (take i (zip l r)) ((x, y) ∷ [])))
      ∙ ap all_or_none (map-append (λ (p : Cell × Cell). function_of function p.0 p.1) front ((x, y) ∷ []))
      ∙ ap (λ o. all_or_none (map (λ (p : Cell × Cell). function_of function p.0 p.1) front ++ o ∷ [])) here
      ∙ all_push (map (λ (p : Cell × Cell). function_of function p.0 p.1) front) cells z so_far
      ∙ ap Some (sym added)

  -- a pair that has no cell
  pub applied_none : (l r : List Cell) (i : ℕ) (x y : Cell) → i < length l → length r ≡ length l → x ≡ get_or l i x → y ≡ get_or r i y → function_of function x y ≡ None → applied function (zip l r) ≡ None
  applied_none l r i x y within even first second none =
      let pairs = zip l r in
      let all : take (i + 1) pairs ++ drop (i + 1) pairs ≡ pairs = take-append-drop (i + 1) pairs in
      let f = λ (p : Cell × Cell). function_of function p.0 p.1 in
      let last : all_or_none (map f (take (i + 1) pairs)) ≡ None =
      ap (λ ps. all_or_none (map f ps)) (pair_more l r i x y within even first second)
      ∙ ap all_or_none (map-append f (take i pairs) ((x, y) ∷ []))
      ∙ none_behind (map f (take i pairs)) (f (x, y) ∷ []) (ap (λ o. all_or_none (o ∷ [])) none) in
      ap (applied function) (sym all) ∙ ap all_or_none (map-append f (take (i + 1) pairs) (drop (i + 1) pairs)) ∙ none_before (map f (take (i + 1) pairs)) (map f (drop (i + 1) pairs)) last

  -- a run that has no cells
  pub applied_run_none : (rows : Pairs) (l r : List Cell) (from : ℕ) → take (from + length l) rows ≡ take from rows ++ zip l r → applied function (zip l r) ≡ None → applied function rows ≡ None
  applied_run_none rows l r from same none =
      let f = λ (p : Cell × Cell). function_of function p.0 p.1 in
      let to = from + length l in
      let all : take to rows ++ drop to rows ≡ rows = take-append-drop to rows in
      let front : all_or_none (map f (take to rows)) ≡ None =
      ap (λ ps. all_or_none (map f ps)) same ∙ ap all_or_none (map-append f (take from rows) (zip l r)) ∙ none_behind (map f (take from rows)) (map f (zip l r)) none in
      ap (applied function) (sym all) ∙ ap all_or_none (map-append f (take to rows) (drop to rows)) ∙ none_before (map f (take to rows)) (map f (drop to rows)) front

  -- the rows of two values are the pairs of their columns
  rows_from : (v w : Value) (a n : ℕ) → map (over_two (function_of function)) (map (row_at (v ∷ w ∷ [])) (range_with_len a n))
      ≡ map (λ (p : Cell × Cell). function_of function p.0 p.1) (zip (map (λ k. cell_at k v) (range_with_len a n)) (map (λ k. cell_at k w) (range_with_len a n)))
  rows_from v w a zero = refl
  rows_from v w a (suc n) = ap (λ l. function_of function (cell_at a v) (cell_at a w) ∷ l) (rows_from v w (a + 1) n)

  rows_paired : (v w : Value) (n : ℕ) → all_or_none (map (over_two (function_of function)) (rows_of (v ∷ w ∷ []) n)) ≡ applied function (zip (column n v) (column n w))
  rows_paired v w n = ap all_or_none (rows_from v w 0 n)

  pub rows_columns : (v w : Value) (n : ℕ) (l r : List Cell) (rows : Pairs) → l ≡ column n v → r ≡ column n w → rows ≡ zip l r → all_or_none (map (over_two (function_of function)) (rows_of (v ∷ w ∷ []) n)) ≡ applied function rows
  rows_columns v w n l r rows left right paired =
      rows_paired v w n ∙ ap (λ c. applied function (zip c (column n w))) (sym left) ∙ ap (λ c. applied function (zip l c)) (sym right) ∙ ap (applied function) (sym paired)

  -- as many cells as pairs
  pub applied_length : (pairs : Pairs) (cells : List Cell) → applied function pairs ≡ Some cells → length cells ≡ length pairs
  applied_length pairs cells same = applied_long (map (λ (p : Cell × Cell). function_of function p.0 p.1) pairs) cells same ∙ length-map pairs (λ (p : Cell × Cell). function_of function p.0 p.1)

pub length-column : (n : ℕ) (v : Value) → length (column n v) ≡ n
length-column n v = length-map-range_with_len (λ k. cell_at k v) 0 n

-- the first tails, and a scalar again and again, are the first cells of a value
tails_from : (cells : List Cell) (a n : ℕ) → a + n ≤ length cells → take n (drop a cells) ≡ map (λ k. get_or cells k Nil) (range_with_len a n)
tails_from cells a zero within = refl
tails_from cells a (suc n) within =
    ap (take (suc n)) (drop_more cells a Nil (omega arith)) ∙ ap (λ l. get_or cells a Nil ∷ l) (tails_from cells (a + 1) n (omega arith))

pub first_tails : (b : Pairs) (n : ℕ) → n ≤ length b → take n (tails_of b) ≡ column n (Bat b)
first_tails b n within = tails_from (tails_of b) 0 n (omega (arith, length-map b (λ (p : Cell × Cell). p.1)))

same_from : (c : Cell) (a n : ℕ) → replicate n c ≡ map (λ k. c) (range_with_len a n)
same_from c a zero = refl
same_from c a (suc n) = ap (λ l. c ∷ l) (same_from c (a + 1) n)

pub same_cells : (c : Cell) (n : ℕ) → replicate n c ≡ column n (One c)
same_cells c n = same_from c 0 n

-- as many heads as there are tails
pub zip_taken : (h t : List Cell) → zip (take (length t) h) t ≡ zip h t
zip_taken [] [] = refl
zip_taken [] (y ∷ ys) = refl
zip_taken (x ∷ xs) [] = refl
zip_taken (x ∷ xs) (y ∷ ys) = ap (λ l. (x, y) ∷ l) (zip_taken xs ys)
