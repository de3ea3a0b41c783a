-- A column condition passes a cell just where the condition that it was read from is true.
use Rattle.std.proofs.Common.{◌≡◌, ℕ, ℤ, ◌+ℤ◌, ◌-ℤ◌, ◌*ℤ◌, List, [], Bool, true, false, not, ◌&&◌, ◌||◌, cond, Option, Some, None, refl, ap, sym, ◌∙◌, subst, ◌==◌}
use Rattle.std.specs.Prelude.{unwrap_or}
use Rattle.std.specs.Option.{option_map, option_and_then}
use Rattle.std.specs.Ordering.{is_eq, is_ne, is_lt, is_le, is_gt, is_ge, ordering_reverse}
use Rattle.std.specs.declared.cmp.Ordering.{Ordering}
use Rattle.std.specs.declared.cmp.Ordering.TheVariants.{Less, Equal, Greater}
use Rattle.std.proofs.lemmas.Option.{same_Some, some_pair_parts}
use Rattle.std.proofs.lemmas.Bool.{and_parts, not-true, eqb-true}
use Rattle.cell_core.specs.declared.cell.Cell.{Cell}
use Rattle.cell_core.specs.declared.cell.Cell.TheVariants.{Nil, Int, Huge, Text, Day, Bit, Oid}
use Rattle.cell_core.specs.Order.{number, cell_cmp, cell_cmp_total}
use Rattle.cell_core.specs.Pairs.{is_nil, is_true}
use Rattle.cell_core.specs.Calc.{comparison, conjunction, disjunction, negation, arithmetic, as_int, fits_int}
use Rattle.sql_tree.specs.Tree.{ExprTree, CondTree}
use Rattle.sql_tree.specs.Tree.ExprTree.{Literal, ColumnOf, Operator, AggregateAll, Aggregate}
use Rattle.sql_tree.specs.Tree.{CondTree as tree}
use Rattle.sql_tree.specs.declared.tree.ArithOp.{ArithOp}
use Rattle.sql_tree.specs.declared.tree.ArithOp.TheVariants as arith_op
use Rattle.sql_tree.specs.declared.tree.CmpOp.{CmpOp}
use Rattle.sql_tree.specs.declared.tree.CmpOp.TheVariants as cmp
use Rattle.sql_definitions.specs.Sources.{NamedSource}
use Rattle.sql_definitions.specs.Truth.{compared, truth}
use Rattle.sql_definitions.specs.Values.{Choice, value, cell_over, result_of, cell_at}
use Rattle.pick_laws.proofs.ListLemmas.{and_swaps}
use Rattle.rows_to_mal.specs.Candidates.{Leaf, Least, Most, Same, Between, ColumnCond, Within, Outside, Either}
use Rattle.rows_to_mal.specs.Reading.{placed, column_of, is_known, left_leaf, right_leaf, both, read_compare, read_leaf, of_one_column, read_cond}
use Rattle.rows_to_mal.proofs.CandidateLemmas.{Bounds, leaf_bounds, within, cond_test}
use Rattle.rows_to_mal.proofs.ChoiceLemmas.{cell_of}
use Rattle.rows_to_mal.proofs.SaidLemmas.{cell_at_is}

-- ## Orders

at_least_reversed : (o : Ordering) → is_ge (ordering_reverse o) ≡ is_le o
at_least_reversed Less = refl
at_least_reversed Equal = refl
at_least_reversed Greater = refl

above_reversed : (o : Ordering) → is_gt (ordering_reverse o) ≡ is_lt o
above_reversed Less = refl
above_reversed Equal = refl
above_reversed Greater = refl

equal_reversed : (o : Ordering) → is_eq (ordering_reverse o) ≡ is_le o && is_le (ordering_reverse o)
equal_reversed Less = refl
equal_reversed Equal = refl
equal_reversed Greater = refl

ge_is : (a b : Cell) → is_ge (cell_cmp a b) ≡ is_le (cell_cmp b a)
ge_is a b = ap is_ge (cell_cmp_total.antisymm a b) ∙ at_least_reversed (cell_cmp b a)

gt_is : (a b : Cell) → is_gt (cell_cmp a b) ≡ is_lt (cell_cmp b a)
gt_is a b = ap is_gt (cell_cmp_total.antisymm a b) ∙ above_reversed (cell_cmp b a)

eq_is : (a b : Cell) → is_eq (cell_cmp a b) ≡ is_le (cell_cmp b a) && is_le (cell_cmp a b)
eq_is a b = ap is_eq (cell_cmp_total.antisymm a b) ∙ equal_reversed (cell_cmp b a) ∙ ap (λ o. is_le (cell_cmp b a) && is_le o) (sym (cell_cmp_total.antisymm a b))

-- ## Three values

-- unknown, or a bit
abbrev tri : Bool → Bool → Cell
tri n b = cond n Nil (Bit b)

left_tri : (n x c w : Bool) → x ≡ false → (n ≡ false → c ≡ w) → cond (n || x) Nil (Bit c) ≡ tri n w
left_tri true x c w e f = refl
left_tri false x c w e f = ap (λ b. cond b Nil (Bit c)) e ∙ ap Bit (f refl)

right_tri : (n x c w : Bool) → x ≡ false → (n ≡ false → c ≡ w) → cond (x || n) Nil (Bit c) ≡ tri n w
right_tri n x c w e f = ap (λ b. cond (b || n) Nil (Bit c)) e ∙ again n f
  where
    again : (n : Bool) → (n ≡ false → c ≡ w) → cond n Nil (Bit c) ≡ tri n w
    again true f = refl
    again false f = ap Bit (f refl)

-- what a range tests of a cell that isn't Nil, where its bounds aren't Nil
low_is : (n x b : Bool) → x ≡ false → n ≡ false → b ≡ (not n && (x || b)) && true
low_is true x b e f = cc
low_is false true b e f = cc
low_is false false true e f = refl
low_is false false false e f = refl

high_is : (n x b : Bool) → x ≡ false → n ≡ false → b ≡ (not n && true) && (x || b)
high_is true x b e f = cc
high_is false true b e f = cc
high_is false false b e f = refl

both_is : (n x y a b : Bool) → x ≡ false → y ≡ false → n ≡ false → a && b ≡ (not n && (x || a)) && (y || b)
both_is true x y a b e g f = cc
both_is false true y a b e g f = cc
both_is false false true a b e g f = cc
both_is false false false a b e g f = refl

both_tri : (n a b : Bool) → conjunction (tri n a) (tri n b) ≡ tri n (a && b)
both_tri true a b = refl
both_tri false true true = refl
both_tri false true false = refl
both_tri false false b = refl

-- the bounds of a leaf that is this one
same_bounds : (leaf leaf' : Leaf) (r r' : Bounds) → Some leaf ≡ Some leaf' → leaf_bounds leaf ≡ Some r → leaf_bounds leaf' ≡ Some r' → r ≡ r'
same_bounds leaf leaf' r r' e f g = same_Some r r' (sym f ∙ ap leaf_bounds (same_Some leaf leaf' e) ∙ g)

module _ (v x : Cell) (known : is_nil x ≡ false) (expr : ExprTree) (is : value [] [] expr ≡ Some x) (leaf : Leaf) (r : Bounds) (bounds : leaf_bounds leaf ≡ Some r) where
  abbrev Says : Cell → Type 0
  Says truth = truth ≡ tri (is_nil v) (within r v)

  along : (leaf' : Leaf) (r' : Bounds) (truth : Cell) → Some leaf' ≡ Some leaf → leaf_bounds leaf' ≡ Some r' → truth ≡ tri (is_nil v) (within r' v) → Says truth
  along leaf' r' truth e f h = h ∙ ap (λ b. tri (is_nil v) (within b v)) (same_bounds leaf' leaf r' r e f bounds)

  least_is : (li : Bool) → leaf_bounds (Least expr li) ≡ Some (x, Nil, li, true)
  least_is li = ap (option_map (λ x. (x, Nil, li, true))) is

  most_is : (hi : Bool) → leaf_bounds (Most expr hi) ≡ Some (Nil, x, true, hi)
  most_is hi = ap (option_map (λ x. (Nil, x, true, hi))) is

  same_is : leaf_bounds (Same expr) ≡ Some (x, x, true, true)
  same_is = ap (option_map (λ x. (x, x, true, true))) is

  -- a column on the left of a constant
  left_truth : (operator : CmpOp) → left_leaf operator expr ≡ Some leaf → Says (compared operator v x)
  left_truth cmp.Ge e = along (Least expr true) (x, Nil, true, true) (compared cmp.Ge v x) e (least_is true)
      (left_tri (is_nil v) (is_nil x) (is_ge (cell_cmp v x)) (within (x, Nil, true, true) v) known (λ n. ge_is v x ∙ low_is (is_nil v) (is_nil x) (is_le (cell_cmp x v)) known n))
  left_truth cmp.Gt e = along (Least expr false) (x, Nil, false, true) (compared cmp.Gt v x) e (least_is false)
      (left_tri (is_nil v) (is_nil x) (is_gt (cell_cmp v x)) (within (x, Nil, false, true) v) known (λ n. gt_is v x ∙ low_is (is_nil v) (is_nil x) (is_lt (cell_cmp x v)) known n))
  left_truth cmp.Le e = along (Most expr true) (Nil, x, true, true) (compared cmp.Le v x) e (most_is true)
      (left_tri (is_nil v) (is_nil x) (is_le (cell_cmp v x)) (within (Nil, x, true, true) v) known (λ n. high_is (is_nil v) (is_nil x) (is_le (cell_cmp v x)) known n))
  left_truth cmp.Lt e = along (Most expr false) (Nil, x, true, false) (compared cmp.Lt v x) e (most_is false)
      (left_tri (is_nil v) (is_nil x) (is_lt (cell_cmp v x)) (within (Nil, x, true, false) v) known (λ n. high_is (is_nil v) (is_nil x) (is_lt (cell_cmp v x)) known n))
  left_truth cmp.Eq e = along (Same expr) (x, x, true, true) (compared cmp.Eq v x) e same_is
      (left_tri (is_nil v) (is_nil x) (is_eq (cell_cmp v x)) (within (x, x, true, true) v) known (λ n. eq_is v x ∙ both_is (is_nil v) (is_nil x) (is_nil x) (is_le (cell_cmp x v)) (is_le (cell_cmp v x)) known known n))
  left_truth cmp.Ne e = cc

  -- a column on its right
  right_truth : (operator : CmpOp) → right_leaf operator expr ≡ Some leaf → Says (compared operator x v)
  right_truth cmp.Lt e = along (Least expr false) (x, Nil, false, true) (compared cmp.Lt x v) e (least_is false)
      (right_tri (is_nil v) (is_nil x) (is_lt (cell_cmp x v)) (within (x, Nil, false, true) v) known (λ n. low_is (is_nil v) (is_nil x) (is_lt (cell_cmp x v)) known n))
  right_truth cmp.Le e = along (Least expr true) (x, Nil, true, true) (compared cmp.Le x v) e (least_is true)
      (right_tri (is_nil v) (is_nil x) (is_le (cell_cmp x v)) (within (x, Nil, true, true) v) known (λ n. low_is (is_nil v) (is_nil x) (is_le (cell_cmp x v)) known n))
  right_truth cmp.Gt e = along (Most expr false) (Nil, x, true, false) (compared cmp.Gt x v) e (most_is false)
      (right_tri (is_nil v) (is_nil x) (is_gt (cell_cmp x v)) (within (Nil, x, true, false) v) known (λ n. gt_is x v ∙ high_is (is_nil v) (is_nil x) (is_lt (cell_cmp v x)) known n))
  right_truth cmp.Ge e = along (Most expr true) (Nil, x, true, true) (compared cmp.Ge x v) e (most_is true)
      (right_tri (is_nil v) (is_nil x) (is_ge (cell_cmp x v)) (within (Nil, x, true, true) v) known (λ n. ge_is x v ∙ high_is (is_nil v) (is_nil x) (is_le (cell_cmp v x)) known n))
  right_truth cmp.Eq e = along (Same expr) (x, x, true, true) (compared cmp.Eq x v) e same_is
      (right_tri (is_nil v) (is_nil x) (is_eq (cell_cmp x v)) (within (x, x, true, true) v) known
      (λ n. eq_is x v ∙ and_swaps (is_le (cell_cmp v x)) (is_le (cell_cmp x v)) ∙ both_is (is_nil v) (is_nil x) (is_nil x) (is_le (cell_cmp x v)) (is_le (cell_cmp v x)) known known n))
  right_truth cmp.Ne e = cc

-- a cell that lies in a range, or doesn't
tri_true : (r : Bounds) (v : Cell) → is_true (tri (is_nil v) (within r v)) ≡ within r v
tri_true r Nil = refl
tri_true r (Int n) = refl
tri_true r (Huge n) = refl
tri_true r (Text bs) = refl
tri_true r (Day n) = refl
tri_true r (Bit b) = refl
tri_true r (Oid n) = refl

not_tri : (n w : Bool) → is_true (negation (tri n w)) ≡ not n && not w
not_tri true w = refl
not_tri false w = refl

-- ## Constants

module _ (sources : List NamedSource) (choice : Choice) where
  two_same : (f : Cell → Cell → Option Cell) (a b c d : Option Cell) → a ≡ c → b ≡ d → option_and_then (λ x. option_and_then (λ y. f x y) b) a ≡ option_and_then (λ x. option_and_then (λ y. f x y) d) c
  two_same f a b c d e h = ap (λ o. option_and_then (λ x. option_and_then (λ y. f x y) b) o) e ∙ ap (λ o. option_and_then (λ x. option_and_then (λ y. f x y) o) c) h

  known_value : (expr : ExprTree) → is_known expr ≡ true → value sources choice expr ≡ value [] [] expr
  known_value (Literal cell) e = refl
  known_value (ColumnOf ref) e = cc
  known_value (Operator operator left right) e =
      let parts = and_parts (is_known left) (is_known right) e in
      two_same (result_of operator) (value sources choice left) (value sources choice right) (value [] [] left) (value [] [] right) (known_value left parts.0) (known_value right parts.1)
  known_value (AggregateAll f) e = cc
  known_value (Aggregate f of) e = cc

int_known : (b : Bool) (n : ℤ) (x : Cell) → cond b (Some (Int n)) None ≡ Some x → is_nil x ≡ false
int_known true n x e = ap is_nil (sym (same_Some (Int n) x e))
int_known false n x e = cc

arithmetic_known : (f : ℤ → ℤ → ℤ) (a b x : Cell) → is_nil a ≡ false → is_nil b ≡ false → arithmetic f a b ≡ Some x → is_nil x ≡ false
arithmetic_known f a b x e g h =
    int_known (fits_int (f (number a) (number b))) (f (number a) (number b)) x
    (sym (ap (λ n. cond (n || is_nil b) (Some Nil) (as_int (f (number a) (number b)))) e
    ∙ ap (λ n. cond n (Some Nil) (as_int (f (number a) (number b)))) g) ∙ h)

result_known : (operator : ArithOp) (a b x : Cell) → is_nil a ≡ false → is_nil b ≡ false → result_of operator a b ≡ Some x → is_nil x ≡ false
result_known arith_op.Plus a b x e g h = arithmetic_known (λ m n. m +ℤ n) a b x e g h
result_known arith_op.Minus a b x e g h = arithmetic_known (λ m n. m -ℤ n) a b x e g h
result_known arith_op.Times a b x e g h = arithmetic_known (λ m n. m *ℤ n) a b x e g h

operator_known : (operator : ArithOp) (o p : Option Cell) (x : Cell) → ((a : Cell) → o ≡ Some a → is_nil a ≡ false) → ((b : Cell) → p ≡ Some b → is_nil b ≡ false)
    → option_and_then (λ a. option_and_then (λ b. result_of operator a b) p) o ≡ Some x → is_nil x ≡ false
operator_known operator None p x f g e = cc
operator_known operator (Some a) None x f g e = cc
operator_known operator (Some a) (Some b) x f g e = result_known operator a b x (f a refl) (g b refl) e

-- a constant without NULL isn't Nil
known_not_nil : (expr : ExprTree) → is_known expr ≡ true → (x : Cell) → value [] [] expr ≡ Some x → is_nil x ≡ false
known_not_nil (Literal cell) e x h = ap is_nil (sym (same_Some cell x h)) ∙ not-true (is_nil cell) e
known_not_nil (ColumnOf ref) e x h = cc
known_not_nil (Operator operator left right) e x h =
    let parts = and_parts (is_known left) (is_known right) e in
    operator_known operator (value [] [] left) (value [] [] right) x (λ a g. known_not_nil left parts.0 a g) (λ b g. known_not_nil right parts.1 b g) h
known_not_nil (AggregateAll f) e x h = cc
known_not_nil (Aggregate f of) e x h = cc

-- the constant of a leaf that has bounds has a value
value_found : {X : Type 0} (f : Cell → X) (o : Option Cell) (r : X) → option_map f o ≡ Some r → (x : Cell) × (o ≡ Some x)
value_found f None r e = cc
value_found f (Some x) r e = (x, refl)

left_value : (operator : CmpOp) (expr : ExprTree) (leaf : Leaf) (r : Bounds) → left_leaf operator expr ≡ Some leaf → leaf_bounds leaf ≡ Some r → (x : Cell) × (value [] [] expr ≡ Some x)
left_value cmp.Eq expr leaf r e f = value_found (λ x. (x, x, true, true)) (value [] [] expr) r (ap leaf_bounds (same_Some (Same expr) leaf e) ∙ f)
left_value cmp.Ne expr leaf r e f = cc
left_value cmp.Lt expr leaf r e f = value_found (λ x. (Nil, x, true, false)) (value [] [] expr) r (ap leaf_bounds (same_Some (Most expr false) leaf e) ∙ f)
left_value cmp.Le expr leaf r e f = value_found (λ x. (Nil, x, true, true)) (value [] [] expr) r (ap leaf_bounds (same_Some (Most expr true) leaf e) ∙ f)
left_value cmp.Gt expr leaf r e f = value_found (λ x. (x, Nil, false, true)) (value [] [] expr) r (ap leaf_bounds (same_Some (Least expr false) leaf e) ∙ f)
left_value cmp.Ge expr leaf r e f = value_found (λ x. (x, Nil, true, true)) (value [] [] expr) r (ap leaf_bounds (same_Some (Least expr true) leaf e) ∙ f)

right_value : (operator : CmpOp) (expr : ExprTree) (leaf : Leaf) (r : Bounds) → right_leaf operator expr ≡ Some leaf → leaf_bounds leaf ≡ Some r → (x : Cell) × (value [] [] expr ≡ Some x)
right_value cmp.Eq expr leaf r e f = value_found (λ x. (x, x, true, true)) (value [] [] expr) r (ap leaf_bounds (same_Some (Same expr) leaf e) ∙ f)
right_value cmp.Ne expr leaf r e f = cc
right_value cmp.Lt expr leaf r e f = value_found (λ x. (x, Nil, false, true)) (value [] [] expr) r (ap leaf_bounds (same_Some (Least expr false) leaf e) ∙ f)
right_value cmp.Le expr leaf r e f = value_found (λ x. (x, Nil, true, true)) (value [] [] expr) r (ap leaf_bounds (same_Some (Least expr true) leaf e) ∙ f)
right_value cmp.Gt expr leaf r e f = value_found (λ x. (Nil, x, true, false)) (value [] [] expr) r (ap leaf_bounds (same_Some (Most expr false) leaf e) ∙ f)
right_value cmp.Ge expr leaf r e f = value_found (λ x. (Nil, x, true, true)) (value [] [] expr) r (ap leaf_bounds (same_Some (Most expr true) leaf e) ∙ f)

pub both_parts : {X Y : Type 0} (o : Option X) (p : Option Y) (x : X) (y : Y) → both o p ≡ Some (x, y) → (o ≡ Some x) × (p ≡ Some y)
both_parts None p x y e = cc
both_parts (Some a) None x y e = cc
both_parts (Some a) (Some b) x y e = (ap Some (some_pair_parts a x b y e).0, ap Some (some_pair_parts a x b y e).1)

-- ## Conditions

module _ (sources : List NamedSource) (choice : Choice) where
  abbrev cells : ExprTree → Cell
  cells expr = cell_over sources choice expr

  abbrev at_place : ℕ × ℕ → Cell
  at_place place = cell_of choice place.0 place.1

  pub column_cell_is : (expr : ExprTree) (place : ℕ × ℕ) → column_of sources expr ≡ Some place → cells expr ≡ at_place place
  column_cell_is (Literal cell) place e = cc
  column_cell_is (ColumnOf ref) place e = ap (λ o. unwrap_or (option_and_then (cell_at choice) o) Nil) e ∙ cell_at_is choice place.0 place.1
  column_cell_is (Operator operator left right) place e = cc
  column_cell_is (AggregateAll f) place e = cc
  column_cell_is (Aggregate f of) place e = cc

  constant_cell_is : (expr : ExprTree) (x : Cell) → is_known expr ≡ true → value [] [] expr ≡ Some x → cells expr ≡ x
  constant_cell_is expr x k e = ap (λ o. unwrap_or o Nil) (known_value sources choice expr k ∙ e)

  abbrev LeafSays : Cell → ℕ × ℕ → Bounds → Type 0
  LeafSays truth place r = truth ≡ tri (is_nil (at_place place)) (within r (at_place place))

  -- a comparison of a column with a constant
  compare_says : (operator : CmpOp) (left right : ExprTree) (place : ℕ × ℕ) (leaf : Leaf) (r : Bounds) (b c : Bool) → is_known right ≡ b → is_known left ≡ c
      → cond b (both (column_of sources left) (left_leaf operator right)) (cond c (both (column_of sources right) (right_leaf operator left)) None) ≡ Some (place, leaf)
      → leaf_bounds leaf ≡ Some r → LeafSays (compared operator (cells left) (cells right)) place r
  compare_says operator left right place leaf r true c k l e f =
      let parts = both_parts (column_of sources left) (left_leaf operator right) place leaf e in
      let found = left_value operator right leaf r parts.1 f in
      ap (λ v. compared operator v (cells right)) (column_cell_is left place parts.0)
      ∙ ap (λ x. compared operator (at_place place) x) (constant_cell_is right found.0 k found.1)
      ∙ left_truth (at_place place) found.0 (known_not_nil right k found.0 found.1) right found.1 leaf r f operator parts.1
  compare_says operator left right place leaf r false true k l e f =
      let parts = both_parts (column_of sources right) (right_leaf operator left) place leaf e in
      let found = right_value operator left leaf r parts.1 f in
      ap (λ v. compared operator (cells left) v) (column_cell_is right place parts.0)
      ∙ ap (λ x. compared operator x (at_place place)) (constant_cell_is left found.0 l found.1)
      ∙ right_truth (at_place place) found.0 (known_not_nil left l found.0 found.1) left found.1 leaf r f operator parts.1
  compare_says operator left right place leaf r false false k l e f = cc

  between_values : (low high : Option Cell) (r : Bounds) → option_and_then (λ x. option_map (λ y. (x, y, true, true)) high) low ≡ Some r → (x : Cell) × (y : Cell) × (low ≡ Some x) × (high ≡ Some y) × ((x, y, true, true) ≡ r)
  between_values None high r e = cc
  between_values (Some x) None r e = cc
  between_values (Some x) (Some y) r e = (x, y, refl, refl, same_Some (x, y, true, true) r e)

  between_says : (of low high : ExprTree) (place : ℕ × ℕ) (leaf : Leaf) (r : Bounds) (b c : Bool) → is_known low ≡ b → is_known high ≡ c
      → cond (b && c) (both (column_of sources of) (Some (Between low high))) None ≡ Some (place, leaf) → leaf_bounds leaf ≡ Some r
      → LeafSays (conjunction (compared cmp.Ge (cells of) (cells low)) (compared cmp.Le (cells of) (cells high))) place r
  between_says of low high place leaf r true true k l e f =
      let parts = both_parts (column_of sources of) (Some (Between low high)) place leaf e in
      let found = between_values (value [] [] low) (value [] [] high) r (ap leaf_bounds (same_Some (Between low high) leaf parts.1) ∙ f) in
      between_is (cells of) (cells low) (cells high) (at_place place) found.0 found.1 r (column_cell_is of place parts.0) (constant_cell_is low found.0 k found.2) (constant_cell_is high found.1 l found.3)
      (known_not_nil low k found.0 found.2) (known_not_nil high l found.1 found.3) found.4
    where
      between_is : (a b c v x y : Cell) (r : Bounds) → a ≡ v → b ≡ x → c ≡ y → is_nil x ≡ false → is_nil y ≡ false → (x, y, true, true) ≡ r
          → conjunction (compared cmp.Ge a b) (compared cmp.Le a c) ≡ tri (is_nil v) (within r v)
      between_is a b c v x y r e f g n m h =
          ap (λ z. conjunction (compared cmp.Ge z b) (compared cmp.Le z c)) e ∙ ap (λ z. conjunction (compared cmp.Ge v z) (compared cmp.Le v c)) f ∙ ap (λ z. conjunction (compared cmp.Ge v x) (compared cmp.Le v z)) g
          ∙ ap (λ z. conjunction z (compared cmp.Le v y)) (left_tri (is_nil v) (is_nil x) (is_ge (cell_cmp v x)) (is_le (cell_cmp x v)) n (λ k. ge_is v x))
          ∙ ap (λ z. conjunction (tri (is_nil v) (is_le (cell_cmp x v))) z) (left_tri (is_nil v) (is_nil y) (is_le (cell_cmp v y)) (is_le (cell_cmp v y)) m (λ k. refl))
          ∙ both_tri (is_nil v) (is_le (cell_cmp x v)) (is_le (cell_cmp v y))
          ∙ tri_same (is_nil v) (is_le (cell_cmp x v) && is_le (cell_cmp v y)) (within (x, y, true, true) v) (λ k. both_is (is_nil v) (is_nil x) (is_nil y) (is_le (cell_cmp x v)) (is_le (cell_cmp v y)) n m k)
          ∙ ap (λ r. tri (is_nil v) (within r v)) h
        where
          tri_same : (n a b : Bool) → (n ≡ false → a ≡ b) → tri n a ≡ tri n b
          tri_same true a b f = refl
          tri_same false a b f = ap Bit (f refl)
  between_says of low high place leaf r true false k l e f = cc
  between_says of low high place leaf r false c k l e f = cc

  -- a range leaf
  pub leaf_says : (c : CondTree) (place : ℕ × ℕ) (leaf : Leaf) (r : Bounds) → read_leaf sources c ≡ Some (place, leaf) → leaf_bounds leaf ≡ Some r → LeafSays (truth cells c) place r
  leaf_says (tree.Compare operator left right) place leaf r e f = compare_says operator left right place leaf r (is_known right) (is_known left) refl refl e f
  leaf_says (tree.Within of low high) place leaf r e f = between_says of low high place leaf r (is_known low) (is_known high) refl refl e f
  leaf_says (tree.IsNull of) place leaf r e f = cc
  leaf_says (tree.Negation c) place leaf r e f = cc
  leaf_says (tree.Both a b) place leaf r e f = cc
  leaf_says (tree.Either a b) place leaf r e f = cc

  -- ## Column conditions

  pub mapped : (k : Leaf → ColumnCond) (o : Option ((ℕ × ℕ) × Leaf)) (place : ℕ × ℕ) (c : ColumnCond) → option_map (placed k) o ≡ Some (place, c)
      → (leaf : Leaf) × (o ≡ Some (place, leaf)) × (k leaf ≡ c)
  mapped k None place c e = cc
  mapped k (Some x) place c e = let parts = some_pair_parts x.0 place (k x.1) c e in (x.1, ap (λ q. Some (q, x.1)) parts.0, parts.1)

  tested : {X : Type 0} (f : X → Cell → Bool) (o : Option X) (t : Cell → Bool) → option_map f o ≡ Some t → (r : X) × (o ≡ Some r) × (f r ≡ t)
  tested f None t e = cc
  tested f (Some r) t e = (r, refl, same_Some (f r) t e)

  -- the condition is true just where its cell passes
  abbrev pub Passes : CondTree → ℕ × ℕ → ColumnCond → Type 0
  Passes c place column = (t : Cell → Bool) → cond_test column ≡ Some t → is_true (truth cells c) ≡ t (at_place place)

  within_passes : (c : CondTree) (place : ℕ × ℕ) (leaf : Leaf) → ((r : Bounds) → leaf_bounds leaf ≡ Some r → LeafSays (truth cells c) place r) → Passes c place (Within leaf)
  within_passes c place leaf says t e =
      let found = tested within (leaf_bounds leaf) t e in
      ap is_true (says found.0 found.1) ∙ tri_true found.0 (at_place place) ∙ ap (λ (u : Cell → Bool). u (at_place place)) found.2

  outside_passes : (c d : CondTree) (place : ℕ × ℕ) (leaf : Leaf) → truth cells d ≡ negation (truth cells c) → ((r : Bounds) → leaf_bounds leaf ≡ Some r → LeafSays (truth cells c) place r) → Passes d place (Outside leaf)
  outside_passes c d place leaf is says t e =
      let found = tested (λ r cell. not (is_nil cell) && not (within r cell)) (leaf_bounds leaf) t e in
      ap is_true (is ∙ ap negation (says found.0 found.1)) ∙ not_tri (is_nil (at_place place)) (within found.0 (at_place place)) ∙ ap (λ (u : Cell → Bool). u (at_place place)) found.2

  passes_along : (c : CondTree) (place : ℕ × ℕ) (a b : ColumnCond) → a ≡ b → Passes c place a → Passes c place b
  passes_along c place a b e h = subst (λ x. Passes c place x) e h

  not_equal : (n : Bool) (o : Ordering) → cond n Nil (Bit (is_ne o)) ≡ negation (cond n Nil (Bit (is_eq o)))
  not_equal true o = refl
  not_equal false Less = refl
  not_equal false Equal = refl
  not_equal false Greater = refl

  test_passes : (operator : CmpOp) (left right : ExprTree) (place : ℕ × ℕ) (column : ColumnCond) → option_map (placed Within) (read_compare sources operator left right) ≡ Some (place, column)
      → Passes (tree.Compare operator left right) place column
  test_passes operator left right place column e =
      let found = mapped Within (read_compare sources operator left right) place column e in
      passes_along (tree.Compare operator left right) place (Within found.0) column found.2
      (within_passes (tree.Compare operator left right) place found.0 (λ r f. leaf_says (tree.Compare operator left right) place found.0 r found.1 f))

  differs_passes : (left right : ExprTree) (place : ℕ × ℕ) (column : ColumnCond) → option_map (placed Outside) (read_compare sources cmp.Eq left right) ≡ Some (place, column)
      → Passes (tree.Compare cmp.Ne left right) place column
  differs_passes left right place column e =
      let found = mapped Outside (read_compare sources cmp.Eq left right) place column e in
      passes_along (tree.Compare cmp.Ne left right) place (Outside found.0) column found.2
      (outside_passes (tree.Compare cmp.Eq left right) (tree.Compare cmp.Ne left right) place found.0 (not_equal (is_nil (cells left) || is_nil (cells right)) (cell_cmp (cells left) (cells right)))
      (λ r f. leaf_says (tree.Compare cmp.Eq left right) place found.0 r found.1 f))

  either_true : (x y : Cell) → is_true (disjunction x y) ≡ is_true x || is_true y
  either_true x y = by_case (is_true x || is_true y)
    where
      by_case : (b : Bool) → is_true (cond b (Bit true) (cond (Rattle.cell_core.specs.Calc.is_false x && Rattle.cell_core.specs.Calc.is_false y) (Bit false) Nil)) ≡ b
      by_case true = refl
      by_case false = again (Rattle.cell_core.specs.Calc.is_false x && Rattle.cell_core.specs.Calc.is_false y)
        where
          again : (b : Bool) → is_true (cond b (Bit false) Nil) ≡ false
          again true = refl
          again false = refl

  either_tests : (o p : Option (Cell → Bool)) (t : Cell → Bool) → option_and_then (λ f. option_map (λ (g : Cell → Bool) cell. f cell || g cell) p) o ≡ Some t
      → (f : Cell → Bool) × (g : Cell → Bool) × (o ≡ Some f) × (p ≡ Some g) × ((λ cell. f cell || g cell) ≡ t)
  either_tests None p t e = cc
  either_tests (Some f) None t e = cc
  either_tests (Some f) (Some g) t e = (f, g, refl, refl, same_Some (λ cell. f cell || g cell) t e)

  same_place : (a b : ℕ × ℕ) → ((a.0 == b.0) && (a.1 == b.1)) ≡ true → b ≡ a
  same_place a b e = let parts = and_parts (a.0 == b.0) (a.1 == b.1) e in sym (ap (λ n. (n, a.1)) (eqb-true a.0 b.0 parts.0) ∙ ap (λ n. (b.0, n)) (eqb-true a.1 b.1 parts.1))

  pub one_column : (a b : (ℕ × ℕ) × ColumnCond) (place : ℕ × ℕ) (column : ColumnCond) (s : Bool) → ((a.0.0 == b.0.0) && (a.0.1 == b.0.1)) ≡ s → cond {A = Option ((ℕ × ℕ) × ColumnCond)} s (Some (a.0, Either a.1 b.1)) None ≡ Some (place, column)
      → (a.0 ≡ place) × (b.0 ≡ place) × (Either a.1 b.1 ≡ column)
  one_column a b place column true s e = let parts = some_pair_parts a.0 place (Either a.1 b.1) column e in (parts.0, same_place a.0 b.0 s ∙ parts.0, parts.1)
  one_column a b place column false s e = cc

  either_passes : (left right : CondTree) (o p : Option ((ℕ × ℕ) × ColumnCond)) (place : ℕ × ℕ) (column : ColumnCond)
      → ((q : ℕ × ℕ) (c : ColumnCond) → o ≡ Some (q, c) → Passes left q c) → ((q : ℕ × ℕ) (c : ColumnCond) → p ≡ Some (q, c) → Passes right q c)
      → of_one_column o p ≡ Some (place, column) → Passes (tree.Either left right) place column
  either_passes left right None p place column f g e = cc
  either_passes left right (Some a) None place column f g e = cc
  either_passes left right (Some a) (Some b) place column f g e =
      let parts = one_column a b place column ((a.0.0 == b.0.0) && (a.0.1 == b.0.1)) refl e in
      passes_along (tree.Either left right) place (Either a.1 b.1) column parts.2
      (λ t h.
      let tests = either_tests (cond_test a.1) (cond_test b.1) t h in
      either_true (truth cells left) (truth cells right)
      ∙ ap (λ x. x || is_true (truth cells right)) (f a.0 a.1 refl tests.0 tests.2) ∙ ap (λ x. tests.0 (at_place a.0) || x) (g b.0 b.1 refl tests.1 tests.3)
      ∙ ap (λ q. tests.0 (at_place q) || tests.1 (at_place b.0)) parts.0 ∙ ap (λ q. tests.0 (at_place place) || tests.1 (at_place q)) parts.1
      ∙ ap (λ (u : Cell → Bool). u (at_place place)) tests.4)

  -- a condition that is read as a column condition is true of a choice just where the column's cell passes
  pub cond_passes : (c : CondTree) (place : ℕ × ℕ) (column : ColumnCond) → read_cond sources c ≡ Some (place, column) → Passes c place column
  cond_passes (tree.Compare cmp.Ne left right) place column e = differs_passes left right place column e
  cond_passes (tree.Compare cmp.Eq left right) place column e = test_passes cmp.Eq left right place column e
  cond_passes (tree.Compare cmp.Lt left right) place column e = test_passes cmp.Lt left right place column e
  cond_passes (tree.Compare cmp.Le left right) place column e = test_passes cmp.Le left right place column e
  cond_passes (tree.Compare cmp.Gt left right) place column e = test_passes cmp.Gt left right place column e
  cond_passes (tree.Compare cmp.Ge left right) place column e = test_passes cmp.Ge left right place column e
  cond_passes (tree.Within of low high) place column e =
      let found = mapped Within (read_leaf sources (tree.Within of low high)) place column e in
      passes_along (tree.Within of low high) place (Within found.0) column found.2 (within_passes (tree.Within of low high) place found.0 (λ r f. leaf_says (tree.Within of low high) place found.0 r found.1 f))
  cond_passes (tree.IsNull of) place column e = cc
  cond_passes (tree.Negation c) place column e =
      let found = mapped Outside (read_leaf sources c) place column e in
      passes_along (tree.Negation c) place (Outside found.0) column found.2 (outside_passes c (tree.Negation c) place found.0 refl (λ r f. leaf_says c place found.0 r found.1 f))
  cond_passes (tree.Both left right) place column e = cc
  cond_passes (tree.Either left right) place column e =
      either_passes left right (read_cond sources left) (read_cond sources right) place column (λ q c h. cond_passes left q c h) (λ q c h. cond_passes right q c h) e
