-- The aggregates of cells and several cells more.
use Rattle.std.proofs.Common.{◌≡◌, ℕ, ◌+◌, ◌<◌, ◌≤◌, Bool, true, false, not, ◌||◌, cond, List, [], ◌∷◌, ◌++◌, length, get_or, take, drop, map, ℤ, ◌+ℤ◌, refl, sym, ap, ◌∙◌, arith, append_assoc}
use Rattle.std.specs.Ordering.{is_lt, is_gt, ordering_reverse}
use Rattle.std.specs.declared.cmp.Ordering.{Ordering}
use Rattle.std.specs.declared.cmp.Ordering.TheVariants.{Less, Equal, Greater}
use Rattle.std.specs.Cmp.{upto}
use Rattle.std.proofs.lemmas.List.{take_more, length-append, length-take-le, take-append-le, take-append-drop}
use Rattle.std.proofs.Math.Seq.{take-append-add}
use Rattle.std.proofs.lemmas.List.Elements.{filter-append}
use Rattle.cell_core.specs.declared.cell.Cell.{Cell}
use Rattle.cell_core.specs.declared.cell.Cell.TheVariants.{Nil, Int, Huge}
use Rattle.cell_core.specs.Order.{cell_cmp, cell_cmp_total, number}
use Rattle.cell_core.specs.Pairs.{is_nil}
use Rattle.cell_core.specs.Groups.{known, sum_of, summed, least, greatest}
use Rattle.cell_calc.specs.Aggregates.{total_in}
use Rattle.cell_calc.proofs.AggregateLemmas.{summed_more, least_push, greatest_push}

-- cells that are made of numbers are all known
pub known_made : {X : Type 0} (f : X → Cell) → ((x : X) → is_nil (f x) ≡ false) → (xs : List X) → known (map f xs) ≡ map f xs
known_made f some [] = refl
known_made f some (x ∷ xs) = ap (λ b. cond (not b) (f x ∷ known (map f xs)) (known (map f xs))) (some x) ∙ ap (λ l. f x ∷ l) (known_made f some xs)

-- one more of the cells after others
pub behind_more : (before cells : List Cell) (i : ℕ) → i < length cells → before ++ take (i + 1) cells ≡ (before ++ take i cells) ++ get_or cells i Nil ∷ []
behind_more before cells i within = ap (λ l. before ++ l) (take_more cells i Nil within) ∙ sym (append_assoc before (take i cells) (get_or cells i Nil ∷ []))

-- ## Sums
pub sum_next : (cells : List Cell) (c : Cell) → is_nil c ≡ false → total_in (summed (cells ++ c ∷ [])) ≡ total_in (summed cells) +ℤ number c
sum_next cells c some = ap total_in (summed_more cells c some)

-- the sum of some is a Huge
sum_of_some : (ks : List Cell) (c : Cell) (cs : List Cell) → sum_of (ks ++ c ∷ cs) ≡ Huge (total_in (sum_of (ks ++ c ∷ cs)))
sum_of_some [] c cs = refl
sum_of_some (k ∷ ks) c cs = refl

summed_some : (before : List Cell) (c : Cell) (cs : List Cell) → is_nil c ≡ false → summed (before ++ c ∷ cs) ≡ Huge (total_in (summed (before ++ c ∷ cs)))
summed_some before c cs some =
    let split : known (before ++ c ∷ cs) ≡ known before ++ c ∷ known cs = filter-append (λ x. not (is_nil x)) before (c ∷ cs) ∙ ap (λ b. known before ++ cond (not b) (c ∷ known cs) (known cs)) some in
    ap sum_of split ∙ sum_of_some (known before) c (known cs) ∙ ap (λ l. Huge (total_in (sum_of l))) (sym split)

pub summed_numbers : (before : List Cell) (numbers : List ℤ) → 0 < length numbers → summed (before ++ map Int numbers) ≡ Huge (total_in (summed (before ++ map Int numbers)))
summed_numbers before [] some = absurd (omega arith)
summed_numbers before (n ∷ ns) some = summed_some before (Int n) (map Int ns) refl

-- ## The better of two cells represents both, where `better a b` says that a takes the place of b
module _ (better : Cell → Cell → Bool) (chain : (a b c : Cell) → better a b ≡ true → better b c ≡ true → better a c ≡ true)
    (unchain : (a b c : Cell) → better a b ≡ false → better b c ≡ false → better a c ≡ false) where
  abbrev taken : Cell → Cell → Cell
  taken m v = cond (is_nil m || better v m) v m

  better_kept : (m p x : Cell) (a b : Bool) → better p m ≡ a → better x p ≡ b → cond (better x (cond a p m)) x (cond a p m) ≡ cond (better (cond b x p) m) (cond b x p) m
  better_kept m p x true true e f = ap (λ t. cond t x p) f ∙ ap (λ t. cond t x m) (sym (chain x p m f e))
  better_kept m p x true false e f = ap (λ t. cond t x p) f ∙ ap (λ t. cond t p m) (sym e)
  better_kept m p x false true e f = refl
  better_kept m p x false false e f = ap (λ t. cond t x m) (unchain x p m f e) ∙ ap (λ t. cond t p m) (sym e)

  better_taken : (m p x : Cell) (n : Bool) → is_nil m ≡ n → is_nil p ≡ false → taken (cond (n || better p m) p m) x ≡ cond (n || better (cond (better x p) x p) m) (cond (better x p) x p) m
  better_taken m p x true e some = ap (λ b. cond (b || better x p) x p) some
  better_taken m p x false e some = kept (better p m) refl ∙ better_kept m p x (better p m) (better x p) refl refl
    where
      kept : (a : Bool) → better p m ≡ a → taken (cond a p m) x ≡ cond (better x (cond a p m)) x (cond a p m)
      kept true f = ap (λ b. cond (b || better x p) x p) some
      kept false f = ap (λ b. cond (b || better x m) x m) e

  module _ (A : List Cell → Cell) (push : (cells : List Cell) (v : Cell) → is_nil v ≡ false → A (cells ++ v ∷ []) ≡ taken (A cells) v) where
    one_for_two : (before : List Cell) (p x : Cell) → is_nil p ≡ false → is_nil x ≡ false → A ((before ++ p ∷ []) ++ x ∷ []) ≡ A (before ++ cond (better x p) x p ∷ [])
    one_for_two before p x ps xs =
        push (before ++ p ∷ []) x xs ∙ ap (λ m. taken m x) (push before p ps)
        ∙ better_taken (A before) p x (is_nil (A before)) refl ps
        ∙ sym (push before (cond (better x p) x p) (either (better x p)))
      where
        either : (b : Bool) → is_nil (cond b x p) ≡ false
        either true = xs
        either false = ps

    -- the best of some cells represents all of them
    pub best_next : (before cells : List Cell) (i : ℕ) (p x q : Cell) → i < length cells → is_nil p ≡ false → is_nil x ≡ false → x ≡ get_or cells i Nil → q ≡ cond (better x p) x p
        → A (before ++ p ∷ []) ≡ A (before ++ take i cells) → A (before ++ q ∷ []) ≡ A (before ++ take (i + 1) cells)
    best_next before cells i p x q within ps xs read is so_far =
        ap (λ c. A (before ++ c ∷ [])) is ∙ sym (one_for_two before p x ps xs) ∙ push (before ++ p ∷ []) x xs ∙ ap (λ m. taken m x) so_far ∙ sym (push (before ++ take i cells) x xs)
        ∙ ap (λ c. A ((before ++ take i cells) ++ c ∷ [])) read ∙ ap A (sym (behind_more before cells i within))

-- ## The order of cells both ways
is_less : (r : Ordering) → is_lt r ≡ true → r ≡ Less
is_less Less e = refl
is_less Equal e = cc
is_less Greater e = cc

turned_gt : (r : Ordering) → is_gt (ordering_reverse r) ≡ is_lt r
turned_gt Less = refl
turned_gt Equal = refl
turned_gt Greater = refl

above_is : (a b : Cell) → is_gt (cell_cmp a b) ≡ is_lt (cell_cmp b a)
above_is a b = ap is_gt (cell_cmp_total.antisymm a b) ∙ turned_gt (cell_cmp b a)

below_chain : (a b c : Cell) → is_lt (cell_cmp a b) ≡ true → is_lt (cell_cmp b c) ≡ true → is_lt (cell_cmp a c) ≡ true
below_chain a b c e f = ap is_lt (cell_cmp_total.trans a b c (is_less (cell_cmp a b) e) (is_less (cell_cmp b c) f))

below_unchain : (a b c : Cell) → is_lt (cell_cmp a b) ≡ false → is_lt (cell_cmp b c) ≡ false → is_lt (cell_cmp a c) ≡ false
below_unchain a b c e f = sym (above_is c a) ∙ upto cell_cmp_total c b a (above_is c b ∙ f) (above_is b a ∙ e)

abbrev is_below : Cell → Cell → Bool
is_below a b = is_lt (cell_cmp a b)

abbrev is_above : Cell → Cell → Bool
is_above a b = is_gt (cell_cmp a b)

pub least_next : (before cells : List Cell) (i : ℕ) (p x q : Cell) → i < length cells → is_nil p ≡ false → is_nil x ≡ false → x ≡ get_or cells i Nil → q ≡ cond (is_below x p) x p
    → least (before ++ p ∷ []) ≡ least (before ++ take i cells) → least (before ++ q ∷ []) ≡ least (before ++ take (i + 1) cells)
least_next = best_next is_below below_chain below_unchain least least_push

pub greatest_next : (before cells : List Cell) (i : ℕ) (p x q : Cell) → i < length cells → is_nil p ≡ false → is_nil x ≡ false → x ≡ get_or cells i Nil → q ≡ cond (is_above x p) x p
    → greatest (before ++ p ∷ []) ≡ greatest (before ++ take i cells) → greatest (before ++ q ∷ []) ≡ greatest (before ++ take (i + 1) cells)
greatest_next = best_next is_above (λ a b c e f. above_is a c ∙ below_chain c b a (sym (above_is b c) ∙ f) (sym (above_is a b) ∙ e)) (upto cell_cmp_total) greatest greatest_push

-- one cell more is taken where it is better, or else left
pub least_with : (before : List Cell) (s x w : Cell) → is_nil s ≡ false → is_nil x ≡ false → s ≡ least before → w ≡ cond (is_below x s) x s → w ≡ least (before ++ x ∷ [])
least_with before s x w some known is so =
    so ∙ ap (λ b. cond (b || is_below x s) x s) (sym some) ∙ ap (λ m. cond (is_nil m || is_below x m) x m) is ∙ sym (least_push before x known)

pub greatest_with : (before : List Cell) (s x w : Cell) → is_nil s ≡ false → is_nil x ≡ false → s ≡ greatest before → w ≡ cond (is_above x s) x s → w ≡ greatest (before ++ x ∷ [])
greatest_with before s x w some known is so =
    so ∙ ap (λ b. cond (b || is_above x s) x s) (sym some) ∙ ap (λ m. cond (is_nil m || is_above x m) x m) is ∙ sym (greatest_push before x known)

-- the first cells of those that lie together
pub front_more : (xs p : List Cell) (from n : ℕ) → n ≤ length p → from ≤ length xs → take (from + length p) xs ≡ take from xs ++ p → take (from + n) xs ≡ take from xs ++ take n p
front_more xs p from n few within run =
    let long : length (take from xs) ≡ from = length-take-le from xs within in
    let all : xs ≡ (take from xs ++ p) ++ drop (from + length p) xs = sym (take-append-drop (from + length p) xs) ∙ ap (λ l. l ++ drop (from + length p) xs) run in
    ap (take (from + n)) all ∙ take-append-le (from + n) (take from xs ++ p) (drop (from + length p) xs) (omega (arith, few, long, length-append (take from xs) p))
    ∙ ap (λ m. take (m + n) (take from xs ++ p)) (sym long) ∙ take-append-add (take from xs) p n
