-- The result of an operator on values of fitting types has the type that the table of kinds says.
use Rattle.std.specs.Prelude.{◌≡◌, ℕ, List, [], ◌∷◌, map, filter, zip, not, Bool, true, false, ◌&&◌, ◌||◌, cond, ℤ, ◌+ℤ◌, ◌-ℤ◌, ◌*ℤ◌, Option, Some, None, refl}
use Rattle.std.specs.Cmp.{first_so, second_so}
use Rattle.std.proofs.Common.{sym, subst}
use Rattle.std.specs.List.{list_all, enumerate_from}
use Rattle.std.specs.Bool.{then_some}
use Rattle.std.specs.Option.{option_map, option_map_or, option_or}
use Rattle.std.specs.Ordering.{is_le, is_ge, is_eq, is_ne, is_lt, is_gt}
use Rattle.std.specs.declared.cmp.Ordering.{Ordering}
use Rattle.std.proofs.lemmas.Bool.{and_from}
use Rattle.cell_core.specs.declared.cell.Cell.{Cell}
use Rattle.cell_core.specs.declared.cell.Cell.TheVariants.{Nil, Int, Bit, Oid}
use Rattle.cell_core.specs.declared.cell.Kind.{Kind}
use Rattle.cell_core.specs.declared.cell.Kind.TheVariants as kind
use Rattle.cell_core.specs.declared.operator.Op.{Op}
use Rattle.cell_core.specs.declared.operator.Op.TheVariants as op
use Rattle.cell_core.specs.declared.operator.Value.{Value}
use Rattle.cell_core.specs.declared.operator.Value.TheVariants.{Bat, One}
use Rattle.cell_core.specs.Order.{number, cell_cmp}
use Rattle.cell_core.specs.Same.{same_cell}
use Rattle.cell_core.specs.Pairs.{Pairs, heads_of, tails_of, is_nil, is_true, numbered, bats_in, shortest, row_at, rows_of}
use Rattle.cell_core.specs.Relations.{is_within, selected, has_head, semijoined, kdifference_of, kunion_of, reversed, mirrored, counted_from, marked, projected, crossed, meets, matches, joined}
use Rattle.cell_core.specs.Groups.{distinct, group_number, grouped, same_pair, paired_tails, derived, group_heads_of, known, counted, sum_of, summed, least, greatest, members, by_group}
use Rattle.cell_core.specs.Calc.{fits_int, arithmetic, comparison, is_false, conjunction, disjunction, negation, nil_test, over_two, over_one, all_or_none, first_heads, calculated_at, calculated}
use Rattle.cell_core.specs.Operators.{of_bat, of_bats, of_bat_and_cell, of_range, operate}
use Rattle.cell_core.specs.Kinds.{ValueType, OneOf, BatOf, same_kind, agrees, is_of_kind, is_of_type, are_of_types, from_bat, from_bats, from_bat_and_cell, from_range, cells_kind, calculated_type, from_two, from_one, from_any, both_are, are_comparable, result_type}
use Rattle.mal_check.proofs.ListTests.{all_append, all_filter, all_weaker, all_map, all_images, all_flat_map, all_zip, all_enumerated, all_distinct, found_passes, some_is, all_found}

-- the head and the tail are Nil or of these kinds
abbrev pub pair_is : Option Kind → Option Kind → Cell × Cell → Bool
pair_is head tail p = is_of_kind head p.0 && is_of_kind tail p.1

-- ## Along equations

valued : (x v : Value) (t : ValueType) → Some x ≡ Some v → is_of_type x t ≡ true → is_of_type v t ≡ true
valued x v t e h = let P : Value → Type 0 = λ y. is_of_type y t ≡ true in subst P (some_is x v e) h

typed : (v : Value) (s t : ValueType) → Some s ≡ Some t → is_of_type v s ≡ true → is_of_type v t ≡ true
typed v s t e h = let P : ValueType → Type 0 = λ y. is_of_type v y ≡ true in subst P (some_is s t e) h

guarded : (test : Bool) (v : Value) (s t : ValueType) → then_some test s ≡ Some t → (test ≡ true → is_of_type v s ≡ true) → is_of_type v t ≡ true
guarded true v s t e h = typed v s t e (h refl)
guarded false v s t e h = cc

cell_along : (k : Option Kind) (x c : Cell) → Some x ≡ Some c → is_of_kind k x ≡ true → is_of_kind k c ≡ true
cell_along k x c e h = let P : Cell → Type 0 = λ y. is_of_kind k y ≡ true in subst P (some_is x c e) h

-- ## Cells

nil_is : (k : Option Kind) → is_of_kind k Nil ≡ true
nil_is None = refl
nil_is (Some k) = refl

same_kind_is : (a b : Kind) → same_kind a b ≡ true → a ≡ b
same_kind_is kind.Int kind.Int e = refl
same_kind_is kind.Huge kind.Huge e = refl
same_kind_is kind.Text kind.Text e = refl
same_kind_is kind.Day kind.Day e = refl
same_kind_is kind.Bit kind.Bit e = refl
same_kind_is kind.Oid kind.Oid e = refl
same_kind_is _ _ e = cc

-- a cell of one of two kinds that agree is of the kind that is known
left_kind : (a b : Option Kind) (c : Cell) → is_of_kind a c ≡ true → is_of_kind (option_or a b) c ≡ true
left_kind (Some a) b c e = e
left_kind None b Nil e = nil_is b
left_kind None b _ e = cc

right_kind : (a b : Option Kind) (c : Cell) → agrees a b ≡ true → is_of_kind b c ≡ true → is_of_kind (option_or a b) c ≡ true
right_kind None b c g e = e
right_kind (Some a) None Nil g e = refl
right_kind (Some a) None _ g e = cc
right_kind (Some a) (Some b) c g e = let P : Kind → Type 0 = λ k. is_of_kind (Some k) c ≡ true in subst P (sym (same_kind_is a b g)) e

counted_is : (base : Cell) (i : ℕ) → is_of_kind (Some kind.Oid) (counted_from base i) ≡ true
counted_is (Oid n) i = refl
counted_is _ i = refl

choice_is : (k : Option Kind) (b : Bool) (x y : Cell) → is_of_kind k x ≡ true → is_of_kind k y ≡ true → is_of_kind k (cond b x y) ≡ true
choice_is k true x y g h = g
choice_is k false x y g h = h

-- ## Columns

heads_typed : (h t : Option Kind) (b : Pairs) → list_all (pair_is h t) b ≡ true → list_all (is_of_kind h) (heads_of b) ≡ true
heads_typed h t b ok = all_map (pair_is h t) (is_of_kind h) (λ p. p.0) (λ p e. first_so (is_of_kind h p.0) (is_of_kind t p.1) e) b ok

tails_typed : (h t : Option Kind) (b : Pairs) → list_all (pair_is h t) b ≡ true → list_all (is_of_kind t) (tails_of b) ≡ true
tails_typed h t b ok = all_map (pair_is h t) (is_of_kind t) (λ p. p.1) (λ p e. second_so (is_of_kind h p.0) (is_of_kind t p.1) e) b ok

numbered_typed : (k : Option Kind) (cells : List Cell) → list_all (is_of_kind k) cells ≡ true → list_all (pair_is (Some kind.Oid) k) (numbered cells) ≡ true
numbered_typed k cells ok = all_map (λ n. is_of_kind k n.1) (pair_is (Some kind.Oid) k) (λ n. (Oid n.0, n.1)) (λ n e. e) (enumerate_from 0 cells) (all_enumerated (is_of_kind k) cells 0 ok)

-- ## Relations

kunion_typed : (h t h' t' : Option Kind) (l r : Pairs) → (agrees h h' && agrees t t') ≡ true → list_all (pair_is h t) l ≡ true → list_all (pair_is h' t') r ≡ true
    → list_all (pair_is (option_or h h') (option_or t t')) (kunion_of l r) ≡ true
kunion_typed h t h' t' l r fit ok ok' =
    all_append (pair_is (option_or h h') (option_or t t')) l (kdifference_of r l)
    (all_weaker (pair_is h t) (pair_is (option_or h h') (option_or t t'))
    (λ p e. and_from (is_of_kind (option_or h h') p.0) (is_of_kind (option_or t t') p.1)
    (left_kind h h' p.0 (first_so (is_of_kind h p.0) (is_of_kind t p.1) e))
    (left_kind t t' p.1 (second_so (is_of_kind h p.0) (is_of_kind t p.1) e)))
    l ok)
    (all_filter (pair_is (option_or h h') (option_or t t')) (λ p. not (has_head l p.0)) r
    (all_weaker (pair_is h' t') (pair_is (option_or h h') (option_or t t'))
    (λ p e. and_from (is_of_kind (option_or h h') p.0) (is_of_kind (option_or t t') p.1)
    (right_kind h h' p.0 (first_so (agrees h h') (agrees t t') fit) (first_so (is_of_kind h' p.0) (is_of_kind t' p.1) e))
    (right_kind t t' p.1 (second_so (agrees h h') (agrees t t') fit) (second_so (is_of_kind h' p.0) (is_of_kind t' p.1) e)))
    r ok'))

reversed_typed : (h t : Option Kind) (b : Pairs) → list_all (pair_is h t) b ≡ true → list_all (pair_is t h) (reversed b) ≡ true
reversed_typed h t b ok = all_map (pair_is h t) (pair_is t h) (λ p. (p.1, p.0))
    (λ p e. and_from (is_of_kind t p.1) (is_of_kind h p.0) (second_so (is_of_kind h p.0) (is_of_kind t p.1) e) (first_so (is_of_kind h p.0) (is_of_kind t p.1) e)) b ok

-- each head beside a cell of its own
beside_heads_typed : (h t k : Option Kind) (f : Cell × Cell → Cell) → ((p : Cell × Cell) → pair_is h t p ≡ true → is_of_kind k (f p) ≡ true) → (b : Pairs)
    → list_all (pair_is h t) b ≡ true → list_all (pair_is h k) (map (λ p. (p.0, f p)) b) ≡ true
beside_heads_typed h t k f step b ok = all_map (pair_is h t) (pair_is h k) (λ p. (p.0, f p))
    (λ p e. and_from (is_of_kind h p.0) (is_of_kind k (f p)) (first_so (is_of_kind h p.0) (is_of_kind t p.1) e) (step p e)) b ok

marked_typed : (h t : Option Kind) (base : Cell) (b : Pairs) → list_all (pair_is h t) b ≡ true → list_all (pair_is h (Some kind.Oid)) (marked base b) ≡ true
marked_typed h t base b ok = all_map (λ n. pair_is h t n.1) (pair_is h (Some kind.Oid)) (λ n. (n.1.0, counted_from base n.0))
    (λ n e. and_from (is_of_kind h n.1.0) (is_of_kind (Some kind.Oid) (counted_from base n.0)) (first_so (is_of_kind h n.1.0) (is_of_kind t n.1.1) e) (counted_is base n.0))
    (enumerate_from 0 b) (all_enumerated (pair_is h t) b 0 ok)

-- the head of one pair beside what is taken of each pair of another BAT
beside_typed : (h h' t' k : Option Kind) (head : Cell) (f : Cell × Cell → Cell) → is_of_kind h head ≡ true
    → ((q : Cell × Cell) → pair_is h' t' q ≡ true → is_of_kind k (f q) ≡ true) → (r : Pairs) → list_all (pair_is h' t') r ≡ true
    → list_all (pair_is h k) (map (λ q. (head, f q)) r) ≡ true
beside_typed h h' t' k head f e step r ok = all_map (pair_is h' t') (pair_is h k) (λ q. (head, f q)) (λ q g. and_from (is_of_kind h head) (is_of_kind k (f q)) e (step q g)) r ok

crossed_typed : (h t h' t' : Option Kind) (l r : Pairs) → list_all (pair_is h t) l ≡ true → list_all (pair_is h' t') r ≡ true → list_all (pair_is h h') (crossed l r) ≡ true
crossed_typed h t h' t' l r ok ok' = all_flat_map (pair_is h t) (pair_is h h') (λ p. map (λ q. (p.0, q.0)) r)
    (λ p e. beside_typed h h' t' h' p.0 (λ q. q.0) (first_so (is_of_kind h p.0) (is_of_kind t p.1) e) (λ q g. first_so (is_of_kind h' q.0) (is_of_kind t' q.1) g) r ok') l ok

joined_typed : (h t h' t' : Option Kind) (l r : Pairs) → list_all (pair_is h t) l ≡ true → list_all (pair_is h' t') r ≡ true → list_all (pair_is h t') (joined l r) ≡ true
joined_typed h t h' t' l r ok ok' = all_flat_map (pair_is h t) (pair_is h t') (matches r)
    (λ p e. beside_typed h h' t' t' p.0 (λ q. q.1) (first_so (is_of_kind h p.0) (is_of_kind t p.1) e) (λ q g. second_so (is_of_kind h' q.0) (is_of_kind t' q.1) g)
    (filter (λ q. meets p.1 q.0) r) (all_filter (pair_is h' t') (λ q. meets p.1 q.0) r ok')) l ok

-- ## Groups and aggregates

derived_typed : (h t : Option Kind) (g b : Pairs) → list_all (pair_is h t) g ≡ true → list_all (pair_is h (Some kind.Oid)) (derived g b) ≡ true
derived_typed h t g b ok = all_zip (is_of_kind h) (is_of_kind (Some kind.Oid)) (heads_of g) (map (λ p. Oid (group_number same_pair (paired_tails g b) p)) (paired_tails g b))
    (heads_typed h t g ok) (all_images (is_of_kind (Some kind.Oid)) (λ p. Oid (group_number same_pair (paired_tails g b) p)) (λ p. refl) (paired_tails g b))

group_heads_typed : (h t : Option Kind) (g : Pairs) → list_all (pair_is h t) g ≡ true → list_all (pair_is (Some kind.Oid) h) (group_heads_of g) ≡ true
group_heads_typed h t g ok = numbered_typed h (heads_of (distinct (λ p q. same_cell p.1 q.1) g))
    (heads_typed h t (distinct (λ p q. same_cell p.1 q.1) g) (all_distinct (pair_is h t) (λ p q. same_cell p.1 q.1) g ok))

sum_is : (cells : List Cell) → is_of_kind (Some kind.Huge) (sum_of cells) ≡ true
sum_is [] = refl
sum_is (c ∷ cells) = refl

least_is : (k : Option Kind) (cells : List Cell) → list_all (is_of_kind k) cells ≡ true → is_of_kind k (least cells) ≡ true
least_is k cells ok = found_passes (is_of_kind k) (λ c. list_all (λ x. is_le (cell_cmp c x)) (known cells)) Nil (known cells) (nil_is k) (all_filter (is_of_kind k) (λ c. not (is_nil c)) cells ok)

greatest_is : (k : Option Kind) (cells : List Cell) → list_all (is_of_kind k) cells ≡ true → is_of_kind k (greatest cells) ≡ true
greatest_is k cells ok = found_passes (is_of_kind k) (λ c. list_all (λ x. is_ge (cell_cmp c x)) (known cells)) Nil (known cells) (nil_is k) (all_filter (is_of_kind k) (λ c. not (is_nil c)) cells ok)

members_typed : (h t h' t' : Option Kind) (b g : Pairs) (group : Cell) → list_all (pair_is h t) b ≡ true → list_all (pair_is h' t') g ≡ true → list_all (is_of_kind t) (members b g group) ≡ true
members_typed h t h' t' b g group ok ok' = all_map (pair_is t t') (is_of_kind t) (λ p. p.0) (λ p e. first_so (is_of_kind t p.0) (is_of_kind t' p.1) e)
    (filter (λ p. same_cell p.1 group) (paired_tails b g))
    (all_filter (pair_is t t') (λ p. same_cell p.1 group) (paired_tails b g)
    (all_zip (is_of_kind t) (is_of_kind t') (tails_of b) (tails_of g) (tails_typed h t b ok) (tails_typed h' t' g ok')))

by_group_typed : (h t h' t' k : Option Kind) (aggregate : List Cell → Cell) → ((cells : List Cell) → list_all (is_of_kind t) cells ≡ true → is_of_kind k (aggregate cells) ≡ true)
    → (b g : Pairs) → list_all (pair_is h t) b ≡ true → list_all (pair_is h' t') g ≡ true → list_all (pair_is (Some kind.Oid) k) (by_group aggregate b g) ≡ true
by_group_typed h t h' t' k aggregate step b g ok ok' = numbered_typed k (map (λ group. aggregate (members b g group)) (distinct same_cell (tails_of g)))
    (all_images (is_of_kind k) (λ group. aggregate (members b g group)) (λ group. step (members b g group) (members_typed h t h' t' b g group ok ok')) (distinct same_cell (tails_of g)))

-- ## Functions of cells

two_cells : (k : Option Kind) (f : Cell → Cell → Option Cell) → ((x y c : Cell) → f x y ≡ Some c → is_of_kind k c ≡ true)
    → (row : List Cell) (c : Cell) → over_two f row ≡ Some c → is_of_kind k c ≡ true
two_cells k f step (x ∷ y ∷ []) c e = step x y c e
two_cells k f step row c e = cc

one_cell : (k : Option Kind) (f : Cell → Option Cell) → ((x c : Cell) → f x ≡ Some c → is_of_kind k c ≡ true)
    → (row : List Cell) (c : Cell) → over_one f row ≡ Some c → is_of_kind k c ≡ true
one_cell k f step (x ∷ []) c e = step x c e
one_cell k f step row c e = cc

number_is : (unknown fits : Bool) (n : ℤ) (c : Cell) → cond unknown (Some Nil) (cond fits (Some (Int n)) None) ≡ Some c → is_of_kind (Some kind.Int) c ≡ true
number_is true fits n c e = cell_along (Some kind.Int) Nil c e refl
number_is false true n c e = cell_along (Some kind.Int) (Int n) c e refl
number_is false false n c e = cc

arithmetic_is : (f : ℤ → ℤ → ℤ) (x y c : Cell) → arithmetic f x y ≡ Some c → is_of_kind (Some kind.Int) c ≡ true
arithmetic_is f x y c e = number_is (is_nil x || is_nil y) (fits_int (f (number x) (number y))) (f (number x) (number y)) c e

comparison_is : (test : Ordering → Bool) (x y c : Cell) → Some (comparison test x y) ≡ Some c → is_of_kind (Some kind.Bit) c ≡ true
comparison_is test x y c e = cell_along (Some kind.Bit) (comparison test x y) c e (choice_is (Some kind.Bit) (is_nil x || is_nil y) Nil (Bit (test (cell_cmp x y))) refl refl)

conjunction_is : (x y c : Cell) → Some (conjunction x y) ≡ Some c → is_of_kind (Some kind.Bit) c ≡ true
conjunction_is x y c e = cell_along (Some kind.Bit) (conjunction x y) c e
    (choice_is (Some kind.Bit) (is_false x || is_false y) (Bit false) (cond (is_true x && is_true y) (Bit true) Nil) refl (choice_is (Some kind.Bit) (is_true x && is_true y) (Bit true) Nil refl refl))

disjunction_is : (x y c : Cell) → Some (disjunction x y) ≡ Some c → is_of_kind (Some kind.Bit) c ≡ true
disjunction_is x y c e = cell_along (Some kind.Bit) (disjunction x y) c e
    (choice_is (Some kind.Bit) (is_true x || is_true y) (Bit true) (cond (is_false x && is_false y) (Bit false) Nil) refl (choice_is (Some kind.Bit) (is_false x && is_false y) (Bit false) Nil refl refl))

opposite_is : (x : Cell) → is_of_kind (Some kind.Bit) (negation x) ≡ true
opposite_is (Bit b) = refl
opposite_is _ = refl

negation_is : (x c : Cell) → Some (negation x) ≡ Some c → is_of_kind (Some kind.Bit) c ≡ true
negation_is x c e = cell_along (Some kind.Bit) (negation x) c e (opposite_is x)

nil_test_is : (x c : Cell) → Some (nil_test x) ≡ Some c → is_of_kind (Some kind.Bit) c ≡ true
nil_test_is x c e = cell_along (Some kind.Bit) (nil_test x) c e refl

-- scalars alone yield a scalar
scalar_type : (k : Kind) (args : List Value) (types : List ValueType) → are_of_types args types ≡ true → shortest args ≡ None → calculated_type k types ≡ OneOf (Some k)
scalar_type k [] [] ok e = refl
scalar_type k (One c ∷ args) (OneOf a ∷ types) ok e = scalar_type k args types (second_so (is_of_kind a c) (are_of_types args types) ok) e
scalar_type k args types ok e = cc

-- the heads of the first BAT are of its head kind
bat_type : (k : Kind) (args : List Value) (types : List ValueType) (count : ℕ) → are_of_types args types ≡ true → shortest args ≡ Some count
    → (h : Option Kind) × (calculated_type k types ≡ BatOf h (Some k)) × (list_all (is_of_kind h) (first_heads (bats_in args)) ≡ true)
bat_type k (Bat b ∷ args) (BatOf h t ∷ types) count ok e = (h, refl, heads_typed h t b (first_so (list_all (pair_is h t) b) (are_of_types args types) ok))
bat_type k (One c ∷ args) (OneOf a ∷ types) count ok e = bat_type k args types count (second_so (is_of_kind a c) (are_of_types args types) ok) e
bat_type k args types count ok e = absurd (cc)

scalar_result : (k : Kind) (found : Option Cell) (v : Value) → ((c : Cell) → found ≡ Some c → is_of_kind (Some k) c ≡ true)
    → option_map (λ cell. One cell) found ≡ Some v → is_of_type v (OneOf (Some k)) ≡ true
scalar_result k None v step e = cc
scalar_result k (Some c) v step e = valued (One c) v (OneOf (Some k)) e (step c refl)

bat_result : (h : Option Kind) (k : Kind) (heads : List Cell) (found : Option (List Cell)) (v : Value) → list_all (is_of_kind h) heads ≡ true
    → ((cells : List Cell) → found ≡ Some cells → list_all (is_of_kind (Some k)) cells ≡ true)
    → option_map (λ cells. Bat (zip heads cells)) found ≡ Some v → is_of_type v (BatOf h (Some k)) ≡ true
bat_result h k heads None v ok step e = cc
bat_result h k heads (Some cells) v ok step e = valued (Bat (zip heads cells)) v (BatOf h (Some k)) e (all_zip (is_of_kind h) (is_of_kind (Some k)) heads cells ok (step cells refl))

found_is : (k : Kind) (found : Option Cell) → ((c : Cell) → found ≡ Some c → is_of_kind (Some k) c ≡ true) → option_map_or (is_of_kind (Some k)) found true ≡ true
found_is k None step = refl
found_is k (Some c) step = step c refl

rows_typed : (k : Kind) (f : List Cell → Option Cell) → ((row : List Cell) (c : Cell) → f row ≡ Some c → is_of_kind (Some k) c ≡ true)
    → (rows : List (List Cell)) (cells : List Cell) → all_or_none (map f rows) ≡ Some cells → list_all (is_of_kind (Some k)) cells ≡ true
rows_typed k f step rows cells e = all_found (is_of_kind (Some k)) (map f rows) cells (all_images (λ x. option_map_or (is_of_kind (Some k)) x true) f (λ row. found_is k (f row) (step row)) rows) e

calculated_at_typed : (k : Kind) (f : List Cell → Option Cell) → ((row : List Cell) (c : Cell) → f row ≡ Some c → is_of_kind (Some k) c ≡ true)
    → (args : List Value) (types : List ValueType) (v : Value) (length : Option ℕ) → are_of_types args types ≡ true → shortest args ≡ length
    → calculated_at length f args ≡ Some v → is_of_type v (calculated_type k types) ≡ true
calculated_at_typed k f step args types v None ok s e =
    let P : ValueType → Type 0 = λ t. is_of_type v t ≡ true in
    subst P (sym (scalar_type k args types ok s)) (scalar_result k (f (row_at args 0)) v (step (row_at args 0)) e)
calculated_at_typed k f step args types v (Some count) ok s e =
    let P : ValueType → Type 0 = λ t. is_of_type v t ≡ true in
    let first : (h : Option Kind) × (calculated_type k types ≡ BatOf h (Some k)) × (list_all (is_of_kind h) (first_heads (bats_in args)) ≡ true) = bat_type k args types count ok s in
    subst P (sym first.1) (bat_result first.0 k (first_heads (bats_in args)) (all_or_none (map f (rows_of args count))) v first.2 (rows_typed k f step (rows_of args count)) e)

-- ## Arguments

from_one_bat : (f : Option Kind → Option Kind → Option ValueType) (g : Pairs → Value)
    → ((h t : Option Kind) (b : Pairs) (r : ValueType) → list_all (pair_is h t) b ≡ true → f h t ≡ Some r → is_of_type (g b) r ≡ true)
    → (args : List Value) (types : List ValueType) (v : Value) (r : ValueType)
    → are_of_types args types ≡ true → from_bat f types ≡ Some r → of_bat g args ≡ Some v → is_of_type v r ≡ true
from_one_bat f g step (Bat b ∷ []) (BatOf h t ∷ []) v r ok fit e = valued (g b) v r e (step h t b r (first_so (list_all (pair_is h t) b) true ok) fit)
from_one_bat f g step args types v r ok fit e = cc

from_two_bats : (f : Option Kind → Option Kind → Option Kind → Option Kind → Option ValueType) (g : Pairs → Pairs → Value)
    → ((h t h' t' : Option Kind) (l b : Pairs) (r : ValueType) → list_all (pair_is h t) l ≡ true → list_all (pair_is h' t') b ≡ true → f h t h' t' ≡ Some r → is_of_type (g l b) r ≡ true)
    → (args : List Value) (types : List ValueType) (v : Value) (r : ValueType)
    → are_of_types args types ≡ true → from_bats f types ≡ Some r → of_bats g args ≡ Some v → is_of_type v r ≡ true
from_two_bats f g step (Bat l ∷ Bat b ∷ []) (BatOf h t ∷ BatOf h' t' ∷ []) v r ok fit e =
    valued (g l b) v r e (step h t h' t' l b r (first_so (list_all (pair_is h t) l) (list_all (pair_is h' t') b && true) ok)
    (first_so (list_all (pair_is h' t') b) true (second_so (list_all (pair_is h t) l) (list_all (pair_is h' t') b && true) ok)) fit)
from_two_bats f g step args types v r ok fit e = cc

from_a_bat_and_cell : (f : Option Kind → Option Kind → Option Kind → Option ValueType) (g : Pairs → Cell → Value)
    → ((h t k : Option Kind) (b : Pairs) (c : Cell) (r : ValueType) → list_all (pair_is h t) b ≡ true → is_of_kind k c ≡ true → f h t k ≡ Some r → is_of_type (g b c) r ≡ true)
    → (args : List Value) (types : List ValueType) (v : Value) (r : ValueType)
    → are_of_types args types ≡ true → from_bat_and_cell f types ≡ Some r → of_bat_and_cell g args ≡ Some v → is_of_type v r ≡ true
from_a_bat_and_cell f g step (Bat b ∷ One c ∷ []) (BatOf h t ∷ OneOf k ∷ []) v r ok fit e =
    valued (g b c) v r e (step h t k b c r (first_so (list_all (pair_is h t) b) (is_of_kind k c && true) ok)
    (first_so (is_of_kind k c) true (second_so (list_all (pair_is h t) b) (is_of_kind k c && true) ok)) fit)
from_a_bat_and_cell f g step args types v r ok fit e = cc

range_result : (h t low high li hi : Option Kind) (args : List Value) (v : Value) (r : ValueType)
    → are_of_types args (BatOf h t ∷ OneOf low ∷ OneOf high ∷ OneOf li ∷ OneOf hi ∷ []) ≡ true
    → from_range (BatOf h t ∷ OneOf low ∷ OneOf high ∷ OneOf li ∷ OneOf hi ∷ []) ≡ Some r → of_range args ≡ Some v → is_of_type v r ≡ true
range_result h t low high li hi (Bat b ∷ One a ∷ One c ∷ One x ∷ One y ∷ []) v r ok fit e =
    valued (Bat (selected a c (is_true x) (is_true y) b)) v r e
    (guarded (agrees low t && agrees high t && agrees li (Some kind.Bit) && agrees hi (Some kind.Bit)) (Bat (selected a c (is_true x) (is_true y) b)) (BatOf h t) r fit
    (λ _. all_filter (pair_is h t) (λ p. is_within a c (is_true x) (is_true y) p.1) b
    (first_so (list_all (pair_is h t) b) (is_of_kind low a && (is_of_kind high c && (is_of_kind li x && (is_of_kind hi y && true)))) ok)))
range_result h t low high li hi args v r ok fit e = cc

from_a_range : (args : List Value) (types : List ValueType) (v : Value) (r : ValueType)
    → are_of_types args types ≡ true → from_range types ≡ Some r → of_range args ≡ Some v → is_of_type v r ≡ true
from_a_range args (BatOf h t ∷ OneOf low ∷ OneOf high ∷ OneOf li ∷ OneOf hi ∷ []) v r ok fit e = range_result h t low high li hi args v r ok fit e
from_a_range args types v r ok fit e = cc

from_two_cells : (test : Option Kind → Option Kind → Bool) (k : Kind) (f : Cell → Cell → Option Cell) → ((x y c : Cell) → f x y ≡ Some c → is_of_kind (Some k) c ≡ true)
    → (args : List Value) (types : List ValueType) (v : Value) (r : ValueType)
    → are_of_types args types ≡ true → from_two test k types ≡ Some r → calculated (over_two f) args ≡ Some v → is_of_type v r ≡ true
from_two_cells test k f step args (x ∷ y ∷ []) v r ok fit e =
    guarded (test (cells_kind x) (cells_kind y)) v (calculated_type k (x ∷ y ∷ [])) r fit
    (λ _. calculated_at_typed k (over_two f) (two_cells (Some k) f step) args (x ∷ y ∷ []) v (shortest args) ok refl e)
from_two_cells test k f step args types v r ok fit e = cc

from_one_cell : (taken k : Kind) (f : Cell → Option Cell) → ((x c : Cell) → f x ≡ Some c → is_of_kind (Some k) c ≡ true)
    → (args : List Value) (types : List ValueType) (v : Value) (r : ValueType)
    → are_of_types args types ≡ true → from_one taken k types ≡ Some r → calculated (over_one f) args ≡ Some v → is_of_type v r ≡ true
from_one_cell taken k f step args (x ∷ []) v r ok fit e =
    guarded (agrees (cells_kind x) (Some taken)) v (calculated_type k (x ∷ [])) r fit
    (λ _. calculated_at_typed k (over_one f) (one_cell (Some k) f step) args (x ∷ []) v (shortest args) ok refl e)
from_one_cell taken k f step args types v r ok fit e = cc

from_any_cell : (k : Kind) (f : Cell → Option Cell) → ((x c : Cell) → f x ≡ Some c → is_of_kind (Some k) c ≡ true)
    → (args : List Value) (types : List ValueType) (v : Value) (r : ValueType)
    → are_of_types args types ≡ true → from_any k types ≡ Some r → calculated (over_one f) args ≡ Some v → is_of_type v r ≡ true
from_any_cell k f step args (x ∷ []) v r ok fit e =
    typed v (calculated_type k (x ∷ [])) r fit (calculated_at_typed k (over_one f) (one_cell (Some k) f step) args (x ∷ []) v (shortest args) ok refl e)
from_any_cell k f step args types v r ok fit e = cc

-- ## The table

-- the value of an operator of arguments that fit it is of the type that the table says
pub typed_result : (operator : Op) (args : List Value) (types : List ValueType) (v : Value) (t : ValueType)
    → are_of_types args types ≡ true → result_type operator types ≡ Some t → operate operator args ≡ Some v → is_of_type v t ≡ true
typed_result op.Bind args types v t ok fit e = cc
typed_result op.Select args types v t ok fit e = from_a_range args types v t ok fit e
typed_result op.Semijoin args types v t ok fit e = from_two_bats (λ h t h' t'. then_some (agrees h h') (BatOf h t)) (λ l r. Bat (semijoined l r))
    (λ h t h' t' l r s okl okr fits. guarded (agrees h h') (Bat (semijoined l r)) (BatOf h t) s fits (λ _. all_filter (pair_is h t) (λ p. has_head r p.0) l okl)) args types v t ok fit e
typed_result op.Kdifference args types v t ok fit e = from_two_bats (λ h t h' t'. then_some (agrees h h') (BatOf h t)) (λ l r. Bat (kdifference_of l r))
    (λ h t h' t' l r s okl okr fits. guarded (agrees h h') (Bat (kdifference_of l r)) (BatOf h t) s fits (λ _. all_filter (pair_is h t) (λ p. not (has_head r p.0)) l okl)) args types v t ok fit e
typed_result op.Kunion args types v t ok fit e = from_two_bats (λ h t h' t'. then_some (agrees h h' && agrees t t') (BatOf (option_or h h') (option_or t t'))) (λ l r. Bat (kunion_of l r))
    (λ h t h' t' l r s okl okr fits. guarded (agrees h h' && agrees t t') (Bat (kunion_of l r)) (BatOf (option_or h h') (option_or t t')) s fits (λ agree. kunion_typed h t h' t' l r agree okl okr)) args types v t ok fit e
typed_result op.Reverse args types v t ok fit e = from_one_bat (λ h t. Some (BatOf t h)) (λ b. Bat (reversed b))
    (λ h t b s okb fits. typed (Bat (reversed b)) (BatOf t h) s fits (reversed_typed h t b okb)) args types v t ok fit e
typed_result op.Mirror args types v t ok fit e = from_one_bat (λ h t. Some (BatOf h h)) (λ b. Bat (mirrored b))
    (λ h t b s okb fits. typed (Bat (mirrored b)) (BatOf h h) s fits (beside_heads_typed h t h (λ p. p.0) (λ p g. first_so (is_of_kind h p.0) (is_of_kind t p.1) g) b okb)) args types v t ok fit e
typed_result op.MarkT args types v t ok fit e = from_a_bat_and_cell (λ h t base. then_some (agrees base (Some kind.Oid)) (BatOf h (Some kind.Oid))) (λ b base. Bat (marked base b))
    (λ h t k b base s okb okc fits. guarded (agrees k (Some kind.Oid)) (Bat (marked base b)) (BatOf h (Some kind.Oid)) s fits (λ _. marked_typed h t base b okb)) args types v t ok fit e
typed_result op.Project args types v t ok fit e = from_a_bat_and_cell (λ h t k. Some (BatOf h k)) (λ b cell. Bat (projected cell b))
    (λ h t k b c s okb okc fits. typed (Bat (projected c b)) (BatOf h k) s fits (beside_heads_typed h t k (λ p. c) (λ p g. okc) b okb)) args types v t ok fit e
typed_result op.Cross args types v t ok fit e = from_two_bats (λ h t h' t'. Some (BatOf h h')) (λ l r. Bat (crossed l r))
    (λ h t h' t' l r s okl okr fits. typed (Bat (crossed l r)) (BatOf h h') s fits (crossed_typed h t h' t' l r okl okr)) args types v t ok fit e
typed_result op.Join args types v t ok fit e = from_two_bats (λ h t h' t'. then_some (agrees t h') (BatOf h t')) (λ l r. Bat (joined l r))
    (λ h t h' t' l r s okl okr fits. guarded (agrees t h') (Bat (joined l r)) (BatOf h t') s fits (λ _. joined_typed h t h' t' l r okl okr)) args types v t ok fit e
typed_result op.GroupNew args types v t ok fit e = from_one_bat (λ h t. Some (BatOf h (Some kind.Oid))) (λ b. Bat (grouped b))
    (λ h t b s okb fits. typed (Bat (grouped b)) (BatOf h (Some kind.Oid)) s fits (beside_heads_typed h t (Some kind.Oid) (λ p. Oid (group_number same_cell (tails_of b) p.1)) (λ p g. refl) b okb)) args types v t ok fit e
typed_result op.GroupDerive args types v t ok fit e = from_two_bats (λ h g h' t. then_some (agrees g (Some kind.Oid)) (BatOf h (Some kind.Oid))) (λ g b. Bat (derived g b))
    (λ h t h' t' l r s okl okr fits. guarded (agrees t (Some kind.Oid)) (Bat (derived l r)) (BatOf h (Some kind.Oid)) s fits (λ _. derived_typed h t l r okl)) args types v t ok fit e
typed_result op.GroupHeads args types v t ok fit e = from_one_bat (λ h g. then_some (agrees g (Some kind.Oid)) (BatOf (Some kind.Oid) h)) (λ g. Bat (group_heads_of g))
    (λ h t b s okb fits. guarded (agrees t (Some kind.Oid)) (Bat (group_heads_of b)) (BatOf (Some kind.Oid) h) s fits (λ _. group_heads_typed h t b okb)) args types v t ok fit e
typed_result op.Count args types v t ok fit e = from_one_bat (λ h t. Some (OneOf (Some kind.Int))) (λ b. One (counted (tails_of b)))
    (λ h t b s okb fits. typed (One (counted (tails_of b))) (OneOf (Some kind.Int)) s fits refl) args types v t ok fit e
typed_result op.Sum args types v t ok fit e = from_one_bat (λ h t. then_some (agrees t (Some kind.Int)) (OneOf (Some kind.Huge))) (λ b. One (summed (tails_of b)))
    (λ h t b s okb fits. guarded (agrees t (Some kind.Int)) (One (summed (tails_of b))) (OneOf (Some kind.Huge)) s fits (λ _. sum_is (known (tails_of b)))) args types v t ok fit e
typed_result op.Min args types v t ok fit e = from_one_bat (λ h t. Some (OneOf t)) (λ b. One (least (tails_of b)))
    (λ h t b s okb fits. typed (One (least (tails_of b))) (OneOf t) s fits (least_is t (tails_of b) (tails_typed h t b okb))) args types v t ok fit e
typed_result op.Max args types v t ok fit e = from_one_bat (λ h t. Some (OneOf t)) (λ b. One (greatest (tails_of b)))
    (λ h t b s okb fits. typed (One (greatest (tails_of b))) (OneOf t) s fits (greatest_is t (tails_of b) (tails_typed h t b okb))) args types v t ok fit e
typed_result op.Subcount args types v t ok fit e = from_two_bats (λ h t h' g. then_some (agrees g (Some kind.Oid)) (BatOf (Some kind.Oid) (Some kind.Int))) (λ b g. Bat (by_group counted b g))
    (λ h t h' g l r s okl okr fits. guarded (agrees g (Some kind.Oid)) (Bat (by_group counted l r)) (BatOf (Some kind.Oid) (Some kind.Int)) s fits (λ _. by_group_typed h t h' g (Some kind.Int) counted (λ cells _. refl) l r okl okr)) args types v t ok fit e
typed_result op.Subsum args types v t ok fit e = from_two_bats (λ h t h' g. then_some (agrees g (Some kind.Oid) && agrees t (Some kind.Int)) (BatOf (Some kind.Oid) (Some kind.Huge))) (λ b g. Bat (by_group summed b g))
    (λ h t h' g l r s okl okr fits. guarded (agrees g (Some kind.Oid) && agrees t (Some kind.Int)) (Bat (by_group summed l r)) (BatOf (Some kind.Oid) (Some kind.Huge)) s fits (λ _. by_group_typed h t h' g (Some kind.Huge) summed (λ cells _. sum_is (known cells)) l r okl okr)) args types v t ok fit e
typed_result op.Submin args types v t ok fit e = from_two_bats (λ h t h' g. then_some (agrees g (Some kind.Oid)) (BatOf (Some kind.Oid) t)) (λ b g. Bat (by_group least b g))
    (λ h t h' g l r s okl okr fits. guarded (agrees g (Some kind.Oid)) (Bat (by_group least l r)) (BatOf (Some kind.Oid) t) s fits (λ _. by_group_typed h t h' g t least (least_is t) l r okl okr)) args types v t ok fit e
typed_result op.Submax args types v t ok fit e = from_two_bats (λ h t h' g. then_some (agrees g (Some kind.Oid)) (BatOf (Some kind.Oid) t)) (λ b g. Bat (by_group greatest b g))
    (λ h t h' g l r s okl okr fits. guarded (agrees g (Some kind.Oid)) (Bat (by_group greatest l r)) (BatOf (Some kind.Oid) t) s fits (λ _. by_group_typed h t h' g t greatest (greatest_is t) l r okl okr)) args types v t ok fit e
typed_result op.Plus args types v t ok fit e = from_two_cells (both_are kind.Int) kind.Int (arithmetic (λ x y. x +ℤ y)) (arithmetic_is (λ x y. x +ℤ y)) args types v t ok fit e
typed_result op.Minus args types v t ok fit e = from_two_cells (both_are kind.Int) kind.Int (arithmetic (λ x y. x -ℤ y)) (arithmetic_is (λ x y. x -ℤ y)) args types v t ok fit e
typed_result op.Times args types v t ok fit e = from_two_cells (both_are kind.Int) kind.Int (arithmetic (λ x y. x *ℤ y)) (arithmetic_is (λ x y. x *ℤ y)) args types v t ok fit e
typed_result op.Eq args types v t ok fit e = from_two_cells are_comparable kind.Bit (λ x y. Some (comparison is_eq x y)) (comparison_is is_eq) args types v t ok fit e
typed_result op.Ne args types v t ok fit e = from_two_cells are_comparable kind.Bit (λ x y. Some (comparison is_ne x y)) (comparison_is is_ne) args types v t ok fit e
typed_result op.Lt args types v t ok fit e = from_two_cells are_comparable kind.Bit (λ x y. Some (comparison is_lt x y)) (comparison_is is_lt) args types v t ok fit e
typed_result op.Le args types v t ok fit e = from_two_cells are_comparable kind.Bit (λ x y. Some (comparison is_le x y)) (comparison_is is_le) args types v t ok fit e
typed_result op.Gt args types v t ok fit e = from_two_cells are_comparable kind.Bit (λ x y. Some (comparison is_gt x y)) (comparison_is is_gt) args types v t ok fit e
typed_result op.Ge args types v t ok fit e = from_two_cells are_comparable kind.Bit (λ x y. Some (comparison is_ge x y)) (comparison_is is_ge) args types v t ok fit e
typed_result op.And args types v t ok fit e = from_two_cells (both_are kind.Bit) kind.Bit (λ x y. Some (conjunction x y)) conjunction_is args types v t ok fit e
typed_result op.Or args types v t ok fit e = from_two_cells (both_are kind.Bit) kind.Bit (λ x y. Some (disjunction x y)) disjunction_is args types v t ok fit e
typed_result op.Not args types v t ok fit e = from_one_cell kind.Bit kind.Bit (λ x. Some (negation x)) negation_is args types v t ok fit e
typed_result op.IsNil args types v t ok fit e = from_any_cell kind.Bit (λ x. Some (nil_test x)) nil_test_is args types v t ok fit e
