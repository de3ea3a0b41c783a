-- The truth of a test over picks, by the values of its sides.
use Rattle.std.proofs.Common.{◌≡◌, List, [], ◌∷◌, ◌++◌, Bool, true, false, ◌||◌, cond, Option, Some, None, refl, ap, sym, ◌∙◌, subst}
use Rattle.std.specs.Prelude.{is_none}
use Rattle.std.specs.List.{AllByRecursion, list_any}
use Rattle.std.specs.Option.{option_map, option_and_then}
use Rattle.std.proofs.lemmas.Bool.{or_from, or_left, or_right}
use Rattle.cell_core.specs.declared.cell.Cell.{Cell}
use Rattle.cell_core.specs.declared.operator.Op.{Op}
use Rattle.cell_core.specs.declared.operator.Op.TheVariants as op
use Rattle.cell_core.specs.declared.operator.Arg.{Arg}
use Rattle.cell_core.specs.declared.operator.Value.{Value}
use Rattle.cell_core.specs.declared.table.Db.{Db}
use Rattle.cell_core.specs.Calc.{calculated, over_two, over_one, conjunction, disjunction, negation, nil_test}
use Rattle.mal_meaning.specs.Meaning.{value_over}
use Rattle.sql_tree.specs.Tree.{ExprTree, CondTree}
use Rattle.sql_tree.specs.Tree.CondTree.{Compare, Within, IsNull, Negation, Both, Either}
use Rattle.sql_tree.specs.Exprs.{cond_exprs}
use Rattle.sql_tree.specs.declared.tree.CmpOp.{CmpOp}
use Rattle.sql_tree.specs.declared.tree.CmpOp.TheVariants as cmp
use Rattle.sql_definitions.specs.Truth.{truth, compared}
use Rattle.mal_emit.specs.Emitters.{Emitter, emits, followed}
use Rattle.mal_emit.specs.Machines.{over, Gives}
use Rattle.mal_emit.proofs.MachineLemmas.{At}
use Rattle.mal_emit.proofs.GivesLemmas.{emits_gives, then_maybe, behind_one, gives_same}
use Rattle.pick_laws.specs.Shapes.{Shape, Alone, Each, at, is_each, as_value, each_or_none}
use Rattle.pick_laws.proofs.ListLemmas.{any_append, all_both}
use Rattle.pick_laws.proofs.ShapeLemmas.{calculated_shape}
use Rattle.rows_to_mal.specs.Conjuncts.{comparison_of}
use Rattle.group_to_mal.specs.Values.{test_by, test_bat}

-- ## Functions that always return a cell

module _ {P : Type 0} where
  abbrev pub pair_shape : (Cell → Cell → Cell) → Shape P → Shape P → Shape P
  pair_shape f (Alone x) (Alone y) = Alone (f x y)
  pair_shape f s t = Each (λ p. f (at s p) (at t p))

  abbrev pub one_shape : (Cell → Cell) → Shape P → Shape P
  one_shape f (Alone x) = Alone (f x)
  one_shape f (Each g) = Each (λ p. f (g p))

  at_pair : (f : Cell → Cell → Cell) (s t : Shape P) (p : P) → at (pair_shape f s t) p ≡ f (at s p) (at t p)
  at_pair f (Alone x) (Alone y) p = refl
  at_pair f (Alone x) (Each h) p = refl
  at_pair f (Each g) (Alone y) p = refl
  at_pair f (Each g) (Each h) p = refl

  at_one : (f : Cell → Cell) (s : Shape P) (p : P) → at (one_shape f s) p ≡ f (at s p)
  at_one f (Alone x) p = refl
  at_one f (Each g) p = refl

  pair_kind : (f : Cell → Cell → Cell) (s t : Shape P) → is_each (pair_shape f s t) ≡ is_each s || is_each t
  pair_kind f (Alone x) (Alone y) = refl
  pair_kind f (Alone x) (Each h) = refl
  pair_kind f (Each g) (Alone y) = refl
  pair_kind f (Each g) (Each h) = refl

  one_kind : (f : Cell → Cell) (s : Shape P) → is_each (one_shape f s) ≡ is_each s
  one_kind f (Alone x) = refl
  one_kind f (Each g) = refl

  module _ (picks : List P) where
    none_none : (f : P → Cell) (ps : List P) → list_any (λ p. is_none (Some (f p))) ps ≡ false
    none_none f [] = refl
    none_none f (p ∷ ps) = none_none f ps

    each_is : (f : P → Cell) → option_map (as_value picks) (each_or_none (λ p. Some (f p)) picks) ≡ Some (as_value picks (Each f))
    each_is f = ap (λ b. option_map (as_value picks) (cond b None (Some (Each f)))) (none_none f picks)

    pair_is : (f : Cell → Cell → Cell) (s t : Shape P) → calculated (over_two (λ x y. Some (f x y))) (as_value picks s ∷ as_value picks t ∷ []) ≡ Some (as_value picks (pair_shape f s t))
    pair_is f (Alone x) (Alone y) = refl
    pair_is f (Alone x) (Each h) = calculated_shape (over_two (λ x y. Some (f x y))) (Alone x ∷ Each h ∷ []) refl picks ∙ each_is (λ p. f x (h p))
    pair_is f (Each g) (Alone y) = calculated_shape (over_two (λ x y. Some (f x y))) (Each g ∷ Alone y ∷ []) refl picks ∙ each_is (λ p. f (g p) y)
    pair_is f (Each g) (Each h) = calculated_shape (over_two (λ x y. Some (f x y))) (Each g ∷ Each h ∷ []) refl picks ∙ each_is (λ p. f (g p) (h p))

    one_is : (f : Cell → Cell) (s : Shape P) → calculated (over_one (λ x. Some (f x))) (as_value picks s ∷ []) ≡ Some (as_value picks (one_shape f s))
    one_is f (Alone x) = refl
    one_is f (Each g) = calculated_shape (over_one (λ x. Some (f x))) (Each g ∷ []) refl picks ∙ each_is (λ p. f (g p))

    compare_is : (db : Db) (operator : CmpOp) (s t : Shape P) → value_over db (comparison_of operator) (as_value picks s ∷ as_value picks t ∷ []) ≡ Some (as_value picks (pair_shape (compared operator) s t))
    compare_is db cmp.Eq s t = pair_is (compared cmp.Eq) s t
    compare_is db cmp.Ne s t = pair_is (compared cmp.Ne) s t
    compare_is db cmp.Lt s t = pair_is (compared cmp.Lt) s t
    compare_is db cmp.Le s t = pair_is (compared cmp.Le) s t
    compare_is db cmp.Gt s t = pair_is (compared cmp.Gt) s t
    compare_is db cmp.Ge s t = pair_is (compared cmp.Ge) s t

-- ## What values mean

module _ {P : Type 0} where
  -- the value is these cells for the picks and doesn't overflow, or it does
  abbrev pub Means : List P → Option (Shape P) → Bool → (P → Cell) → Type 0
  Means picks None overflows cell = overflows ≡ true
  Means picks (Some s) overflows cell = (overflows ≡ false) × AllByRecursion (λ p. at s p ≡ cell p) picks

  -- it has a cell for each pick, or one for all
  abbrev pub IsKind : Option (Shape P) → Bool → Type 0
  IsKind None bat = Unit {0}
  IsKind (Some s) bat = is_each s ≡ bat

-- ## Tests

module _ {P : Type 0} (picks : List P) (shape : ExprTree → Option (Shape P)) where
  abbrev pub two_of : (Cell → Cell → Cell) → Option (Shape P) → Option (Shape P) → Option (Shape P)
  two_of f o q = option_and_then (λ s. option_map (pair_shape f s) q) o

  -- the truth of a test for each pick, where the sides are these
  abbrev pub test_shape : CondTree → Option (Shape P)
  test_shape (Compare operator left right) = two_of (compared operator) (shape left) (shape right)
  test_shape (Within of low high) = two_of conjunction (two_of (compared cmp.Ge) (shape of) (shape low)) (two_of (compared cmp.Le) (shape of) (shape high))
  test_shape (IsNull of) = option_map (one_shape nil_test) (shape of)
  test_shape (Negation c) = option_map (one_shape negation) (test_shape c)
  test_shape (Both left right) = two_of conjunction (test_shape left) (test_shape right)
  test_shape (Either left right) = two_of disjunction (test_shape left) (test_shape right)

  -- all sides of a condition
  abbrev pub AllSides : (ExprTree → Type 0) → CondTree → Type 0
  AllSides Q c = AllByRecursion Q (cond_exprs c)

  all_left : {X : Type 0} (Q : X → Type 0) (xs ys : List X) → AllByRecursion Q (xs ++ ys) → AllByRecursion Q xs
  all_left Q [] ys a = tt
  all_left Q (x ∷ xs) ys a = (a.0, all_left Q xs ys a.1)

  all_right : {X : Type 0} (Q : X → Type 0) (xs ys : List X) → AllByRecursion Q (xs ++ ys) → AllByRecursion Q ys
  all_right Q [] ys a = a
  all_right Q (x ∷ xs) ys a = all_right Q xs ys a.1

  -- ### What instructions compute

  module _ (db : Db) (value : ExprTree → Emitter Arg) where
    -- an emitter computes this value for the picks
    abbrev pub GivesShape : List Arg → List Value → Emitter Arg → Option (Shape P) → Type 0
    GivesShape args are emitter o = Gives (over db) args are emitter (option_map (as_value picks) o)

    two_maybe : (f : Cell → Cell → Cell) (o q : Option (Shape P))
        → option_and_then (λ s. option_and_then (λ t. Some (as_value picks (pair_shape f s t))) q) o ≡ option_map (as_value picks) (two_of f o q)
    two_maybe f None q = refl
    two_maybe f (Some s) None = refl
    two_maybe f (Some s) (Some t) = refl

    one_maybe : (f : Cell → Cell) (o : Option (Shape P)) → option_and_then (λ s. Some (as_value picks (one_shape f s))) o ≡ option_map (as_value picks) (option_map (one_shape f) o)
    one_maybe f None = refl
    one_maybe f (Some s) = refl

    both_are : {args : List Arg} {are : List Value} {first second : Emitter Arg} (o q : Option (Shape P)) (operator : Op) (f : Cell → Cell → Cell)
        → ((s t : Shape P) → value_over db operator (as_value picks s ∷ as_value picks t ∷ []) ≡ Some (as_value picks (pair_shape f s t)))
        → GivesShape args are first o → GivesShape args are second q → GivesShape args are (followed first (λ x. followed second (λ y. emits operator (x ∷ y ∷ [])))) (two_of f o q)
    both_are o q operator f is g h =
        gives_same (two_maybe f o q) (then_maybe (as_value picks) o g (λ a s. then_maybe (as_value picks) q (behind_one h) (λ b t. emits_gives operator (At 1 ∷ At 0 ∷ []) (is s t))))

    module _ (args : List Arg) (are : List Value) where
      abbrev Given : ExprTree → Type 0
      Given e = GivesShape args are (value e) (shape e)

      pub test_gives : (c : CondTree) → AllSides Given c → GivesShape args are (test_by value c) (test_shape c)
      test_gives (Compare operator left right) a = both_are (shape left) (shape right) (comparison_of operator) (compared operator) (compare_is picks db operator) a.0 a.1.0
      test_gives (Within of low high) a =
          both_are (two_of (compared cmp.Ge) (shape of) (shape low)) (two_of (compared cmp.Le) (shape of) (shape high)) op.And conjunction (pair_is picks conjunction)
          (both_are (shape of) (shape low) op.Ge (compared cmp.Ge) (compare_is picks db cmp.Ge) a.0 a.1.0)
          (both_are (shape of) (shape high) op.Le (compared cmp.Le) (compare_is picks db cmp.Le) a.0 a.1.1.0)
      test_gives (IsNull of) a = gives_same (one_maybe nil_test (shape of)) (then_maybe (as_value picks) (shape of) a.0 (λ v s. emits_gives op.IsNil (At 0 ∷ []) (one_is picks nil_test s)))
      test_gives (Negation c) a = gives_same (one_maybe negation (test_shape c)) (then_maybe (as_value picks) (test_shape c) (test_gives c a) (λ v s. emits_gives op.Not (At 0 ∷ []) (one_is picks negation s)))
      test_gives (Both left right) a =
          both_are (test_shape left) (test_shape right) op.And conjunction (pair_is picks conjunction)
          (test_gives left (all_left Given (cond_exprs left) (cond_exprs right) a)) (test_gives right (all_right Given (cond_exprs left) (cond_exprs right) a))
      test_gives (Either left right) a =
          both_are (test_shape left) (test_shape right) op.Or disjunction (pair_is picks disjunction)
          (test_gives left (all_left Given (cond_exprs left) (cond_exprs right) a)) (test_gives right (all_right Given (cond_exprs left) (cond_exprs right) a))

  -- ### What SQL means

  means_two : (f : Cell → Cell → Cell) (o q : Option (Shape P)) (a b : Bool) (t u : P → Cell) → Means picks o a t → Means picks q b u → Means picks (two_of f o q) (a || b) (λ p. f (t p) (u p))
  means_two f None q a b t u k l = or_left a b k
  means_two f (Some s) None a b t u k l = or_right a b l
  means_two f (Some s) (Some s') a b t u k l = (
    or_from a b k.0 l.0,
    all_both (λ p. at s p ≡ t p) (λ p. at s' p ≡ u p) (λ p. at (pair_shape f s s') p ≡ f (t p) (u p)) (λ p e h. at_pair f s s' p ∙ ap (λ x. f x (at s' p)) e ∙ ap (λ y. f (t p) y) h) picks k.1 l.1,
  )

  means_one : (f : Cell → Cell) (o : Option (Shape P)) (a : Bool) (t : P → Cell) → Means picks o a t → Means picks (option_map (one_shape f) o) a (λ p. f (t p))
  means_one f None a t k = k
  means_one f (Some s) a t k = (k.0, all_both (λ p. at s p ≡ t p) (λ p. at s p ≡ t p) (λ p. at (one_shape f s) p ≡ f (t p)) (λ p e h. at_one f s p ∙ ap f e) picks k.1 k.1)

  means_along : (o : Option (Shape P)) (a b : Bool) (t : P → Cell) → a ≡ b → Means picks o a t → Means picks o b t
  means_along o a b t e k = subst (λ c. Means picks o c t) e k

  kind_two : (f : Cell → Cell → Cell) (o q : Option (Shape P)) (a b : Bool) → IsKind o a → IsKind q b → IsKind (two_of f o q) (a || b)
  kind_two f None q a b k l = tt
  kind_two f (Some s) None a b k l = tt
  kind_two f (Some s) (Some t) a b k l = pair_kind f s t ∙ ap (λ x. x || is_each t) k ∙ ap (λ x. a || x) l

  kind_one : (f : Cell → Cell) (o : Option (Shape P)) (a : Bool) → IsKind o a → IsKind (option_map (one_shape f) o) a
  kind_one f None a k = tt
  kind_one f (Some s) a k = one_kind f s ∙ k

  module _ (overflows : ExprTree → Bool) (cell : P → ExprTree → Cell) where
    abbrev pub MeansCells : ExprTree → Type 0
    MeansCells e = Means picks (shape e) (overflows e) (λ p. cell p e)

    or_none : (a b : Bool) → a || b ≡ a || (b || false)
    or_none true b = refl
    or_none false true = refl
    or_none false false = refl

    or_alone : (a : Bool) → a ≡ a || false
    or_alone true = refl
    or_alone false = refl

    or_again : (a b c : Bool) → (a || b) || (a || c) ≡ a || (b || (c || false))
    or_again true b c = refl
    or_again false true c = refl
    or_again false false true = refl
    or_again false false false = refl

    -- the truth of a test is what SQL means, and it overflows where one of its sides does
    pub test_means : (c : CondTree) → AllSides MeansCells c → Means picks (test_shape c) (list_any overflows (cond_exprs c)) (λ p. truth (cell p) c)
    test_means (Compare operator left right) a =
        means_along (test_shape (Compare operator left right)) (overflows left || overflows right) (overflows left || (overflows right || false)) (λ p. truth (cell p) (Compare operator left right)) (or_none (overflows left) (overflows right))
        (means_two (compared operator) (shape left) (shape right) (overflows left) (overflows right) (λ p. cell p left) (λ p. cell p right) a.0 a.1.0)
    test_means (Within of low high) a =
        means_along (test_shape (Within of low high)) ((overflows of || overflows low) || (overflows of || overflows high)) (overflows of || (overflows low || (overflows high || false))) (λ p. truth (cell p) (Within of low high))
        (or_again (overflows of) (overflows low) (overflows high))
        (means_two conjunction (two_of (compared cmp.Ge) (shape of) (shape low)) (two_of (compared cmp.Le) (shape of) (shape high)) (overflows of || overflows low) (overflows of || overflows high)
        (λ p. compared cmp.Ge (cell p of) (cell p low)) (λ p. compared cmp.Le (cell p of) (cell p high))
        (means_two (compared cmp.Ge) (shape of) (shape low) (overflows of) (overflows low) (λ p. cell p of) (λ p. cell p low) a.0 a.1.0)
        (means_two (compared cmp.Le) (shape of) (shape high) (overflows of) (overflows high) (λ p. cell p of) (λ p. cell p high) a.0 a.1.1.0))
    test_means (IsNull of) a =
        means_along (test_shape (IsNull of)) (overflows of) (overflows of || false) (λ p. truth (cell p) (IsNull of)) (or_alone (overflows of)) (means_one nil_test (shape of) (overflows of) (λ p. cell p of) a.0)
    test_means (Negation c) a = means_one negation (test_shape c) (list_any overflows (cond_exprs c)) (λ p. truth (cell p) c) (test_means c a)
    test_means (Both left right) a =
        means_along (test_shape (Both left right)) (list_any overflows (cond_exprs left) || list_any overflows (cond_exprs right)) (list_any overflows (cond_exprs left ++ cond_exprs right)) (λ p. truth (cell p) (Both left right))
        (sym (any_append overflows (cond_exprs left) (cond_exprs right)))
        (means_two conjunction (test_shape left) (test_shape right) (list_any overflows (cond_exprs left)) (list_any overflows (cond_exprs right)) (λ p. truth (cell p) left) (λ p. truth (cell p) right)
        (test_means left (all_left MeansCells (cond_exprs left) (cond_exprs right) a)) (test_means right (all_right MeansCells (cond_exprs left) (cond_exprs right) a)))
    test_means (Either left right) a =
        means_along (test_shape (Either left right)) (list_any overflows (cond_exprs left) || list_any overflows (cond_exprs right)) (list_any overflows (cond_exprs left ++ cond_exprs right)) (λ p. truth (cell p) (Either left right))
        (sym (any_append overflows (cond_exprs left) (cond_exprs right)))
        (means_two disjunction (test_shape left) (test_shape right) (list_any overflows (cond_exprs left)) (list_any overflows (cond_exprs right)) (λ p. truth (cell p) left) (λ p. truth (cell p) right)
        (test_means left (all_left MeansCells (cond_exprs left) (cond_exprs right) a)) (test_means right (all_right MeansCells (cond_exprs left) (cond_exprs right) a)))

  module _ (is_bat : ExprTree → Bool) where
    abbrev pub KindIs : ExprTree → Type 0
    KindIs e = IsKind (shape e) (is_bat e)

    pub test_kind : (c : CondTree) → AllSides KindIs c → IsKind (test_shape c) (test_bat is_bat c)
    test_kind (Compare operator left right) a = kind_two (compared operator) (shape left) (shape right) (is_bat left) (is_bat right) a.0 a.1.0
    test_kind (Within of low high) a =
        kind_two conjunction (two_of (compared cmp.Ge) (shape of) (shape low)) (two_of (compared cmp.Le) (shape of) (shape high)) (is_bat of || is_bat low) (is_bat of || is_bat high)
        (kind_two (compared cmp.Ge) (shape of) (shape low) (is_bat of) (is_bat low) a.0 a.1.0) (kind_two (compared cmp.Le) (shape of) (shape high) (is_bat of) (is_bat high) a.0 a.1.1.0)
    test_kind (IsNull of) a = kind_one nil_test (shape of) (is_bat of) a.0
    test_kind (Negation c) a = kind_one negation (test_shape c) (test_bat is_bat c) (test_kind c a)
    test_kind (Both left right) a =
        kind_two conjunction (test_shape left) (test_shape right) (test_bat is_bat left) (test_bat is_bat right) (test_kind left (all_left KindIs (cond_exprs left) (cond_exprs right) a)) (test_kind right (all_right KindIs (cond_exprs left) (cond_exprs right) a))
    test_kind (Either left right) a =
        kind_two disjunction (test_shape left) (test_shape right) (test_bat is_bat left) (test_bat is_bat right) (test_kind left (all_left KindIs (cond_exprs left) (cond_exprs right) a)) (test_kind right (all_right KindIs (cond_exprs left) (cond_exprs right) a))
