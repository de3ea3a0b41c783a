-- How the facts of a list of cells follow one more cell.
use Rattle.std.proofs.Common.{◌≡◌, ◌+◌, ◌-◌, ◌^◌, ◌<◌, ◌≤◌, Bool, true, false, List, [], ◌∷◌, ◌++◌, length, get_or, Some, refl, sym, ap, ◌∙◌, arith}
use Rattle.std.specs.Prelude.{◌&&◌}
use Rattle.std.proofs.Math.Bool.{and-true}
use Rattle.std.proofs.lemmas.List.{length-append, get_or-append-add}
use Rattle.std.proofs.lemmas.List.Sums.{sum_by-cons, sum_by_push, sum_by-append}
use Rattle.cell_core.specs.declared.cell.Cell.{Cell}
use Rattle.cell_core.specs.declared.cell.Cell.TheVariants.{Nil, Int, Huge, Text, Day, Bit, Oid}
use Rattle.cell_core.specs.Order.{cell_bytes}
use Rattle.chunk_core.specs.Facts.{neighbours_from, rises, is_dense, is_oid, is_below, is_next_oid, last_from, last_cell, rises_with, rises_with_all, dense_with, dense_with_all, cells_bytes, AreToldOf}
use Rattle.chunk_core.specs.declared.facts.Facts.{Facts}

-- a conjunction of three groups either way
and_assoc : (a b c : Bool) → (a && (b && c)) ≡ ((a && b) && c)
and_assoc true b c = refl
and_assoc false b c = refl

-- one more cell is tested against the last
neighbours_push : (p : Cell → Cell → Bool) (x : Cell) (xs : List Cell) (c : Cell) → neighbours_from p x (xs ++ c ∷ []) ≡ (neighbours_from p x xs && p (last_from x xs) c)
neighbours_push p x [] c = and-true (p x c)
neighbours_push p x (y ∷ ys) c = ap (λ b. p x y && b) (neighbours_push p y ys c) ∙ and_assoc (p x y) (neighbours_from p y ys) (p (last_from y ys) c)

pub rises_push : (cells : List Cell) (c : Cell) → rises (cells ++ c ∷ []) ≡ rises_with (rises cells) (last_cell cells) c
rises_push [] c = refl
rises_push (x ∷ xs) c = neighbours_push is_below x xs c

pub dense_push : (cells : List Cell) (c : Cell) → is_dense (cells ++ c ∷ []) ≡ dense_with (is_dense cells) (last_cell cells) c
dense_push [] c = and-true (is_oid c)
dense_push (x ∷ xs) c = ap (λ b. is_oid x && b) (neighbours_push is_next_oid x xs c) ∙ and_assoc (is_oid x) (neighbours_from is_next_oid x xs) (is_next_oid (last_from x xs) c)

-- the last cell is at the last place
last_at : (x : Cell) (xs : List Cell) (d : Cell) → get_or (x ∷ xs) (length xs) d ≡ last_from x xs
last_at x [] d = refl
last_at x (y ∷ ys) d = last_at y ys d

pub last_cell_at : (cells : List Cell) (d : Cell) → 0 < length cells → last_cell cells ≡ Some (get_or cells (length cells - 1) d)
last_cell_at [] d some = absurd (omega arith)
last_cell_at (x ∷ xs) d some = let place : length (x ∷ xs) - 1 ≡ length xs = omega arith in ap Some (sym (ap (λ k. get_or (x ∷ xs) k d) place ∙ last_at x xs d))

-- the last cell is that of the back, where there is one
pub last_cell_behind : (front back : List Cell) (d : Cell) → 0 < length back → last_cell (front ++ back) ≡ Some (get_or back (length back - 1) d)
last_cell_behind front back d some =
    let place : length (front ++ back) - 1 ≡ length front + (length back - 1) = omega (arith, length-append front back) in
    last_cell_at (front ++ back) d (omega (arith, length-append front back))
    ∙ ap (λ k. Some (get_or (front ++ back) k d)) place
    ∙ ap Some (get_or-append-add front back (length back - 1) d)

-- each cell has at least one stated byte
some_bytes : (c : Cell) → 1 ≤ cell_bytes c
some_bytes Nil = omega arith
some_bytes (Int n) = omega arith
some_bytes (Huge n) = omega arith
some_bytes (Text bs) = omega arith
some_bytes (Day n) = omega arith
some_bytes (Bit b) = omega arith
some_bytes (Oid n) = omega arith

-- there are no more cells than stated bytes
pub length-le-bytes : (cells : List Cell) → length cells ≤ cells_bytes cells
length-le-bytes [] = omega arith
length-le-bytes (c ∷ cs) = omega (arith, sum_by-cons cell_bytes c cs, some_bytes c, length-le-bytes cs)

-- the facts once a cell is added
pub told_push : (old new : Facts) (cells : List Cell) (c : Cell) → AreToldOf old cells → new.bytes ≡ old.bytes + cell_bytes c → new.bytes < 2 ^ 60 → new.rises ≡ rises_with old.rises (last_cell cells) c → new.dense ≡ dense_with old.dense (last_cell cells) c → AreToldOf new (cells ++ c ∷ [])
told_push old new cells c told bytes few rising dense =
    let sum : cells_bytes (cells ++ c ∷ []) ≡ cells_bytes cells + cell_bytes c = sum_by_push cell_bytes cells c in
    record {
      bytes = omega (arith, told.bytes);
      few = omega (arith, told.bytes);
      rising = rising ∙ ap (λ b. rises_with b (last_cell cells) c) told.rising ∙ sym (rises_push cells c);
      dense = dense ∙ ap (λ b. dense_with b (last_cell cells) c) told.dense ∙ sym (dense_push cells c);
    }

-- others are tested from the last on
neighbours_append : (p : Cell → Cell → Bool) (x : Cell) (xs more : List Cell) → neighbours_from p x (xs ++ more) ≡ (neighbours_from p x xs && neighbours_from p (last_from x xs) more)
neighbours_append p x [] more = refl
neighbours_append p x (y ∷ ys) more = ap (λ b. p x y && b) (neighbours_append p y ys more) ∙ and_assoc (p x y) (neighbours_from p y ys) (neighbours_from p (last_from y ys) more)

rises_append : (cells more : List Cell) → rises (cells ++ more) ≡ rises_with_all (rises cells) (last_cell cells) more
rises_append [] more = refl
rises_append (x ∷ xs) more = neighbours_append is_below x xs more

dense_append : (cells more : List Cell) → is_dense (cells ++ more) ≡ dense_with_all (is_dense cells) (last_cell cells) more
dense_append [] more = refl
dense_append (x ∷ xs) more =
    ap (λ b. is_oid x && b) (neighbours_append is_next_oid x xs more) ∙ and_assoc (is_oid x) (neighbours_from is_next_oid x xs) (neighbours_from is_next_oid (last_from x xs) more)

-- the facts once cells are added
pub told_append : (old new : Facts) (cells more : List Cell) → AreToldOf old cells → new.bytes ≡ old.bytes + cells_bytes more → new.bytes < 2 ^ 60
    → new.rises ≡ rises_with_all old.rises (last_cell cells) more → new.dense ≡ dense_with_all old.dense (last_cell cells) more → AreToldOf new (cells ++ more)
told_append old new cells more told bytes few rising dense =
    let sum : cells_bytes (cells ++ more) ≡ cells_bytes cells + cells_bytes more = sum_by-append cell_bytes cells more in
    record {
      bytes = omega (arith, told.bytes);
      few = omega (arith, told.bytes);
      rising = rising ∙ ap (λ b. rises_with_all b (last_cell cells) more) told.rising ∙ sym (rises_append cells more);
      dense = dense ∙ ap (λ b. dense_with_all b (last_cell cells) more) told.dense ∙ sym (dense_append cells more);
    }
