-- The types of tests, by those of their sides; of values one after the other; and of the items made of them.
use Rattle.std.proofs.Common.{◌≡◌, List, [], ◌∷◌, map, Bool, true, false, not, ◌||◌, ◌&&◌, Option, Some, None, refl, ap, ◌∙◌, subst}
use Rattle.std.specs.Bool.{then_some as some_if}
use Rattle.std.specs.List.{AllByRecursion}
use Rattle.std.proofs.lemmas.Bool.{or_parts}
use Rattle.cell_core.specs.declared.cell.Kind.{Kind}
use Rattle.cell_core.specs.declared.cell.Kind.TheVariants as kind
use Rattle.cell_core.specs.declared.operator.Instr.{Instr}
use Rattle.cell_core.specs.declared.operator.Op.{Op}
use Rattle.cell_core.specs.declared.operator.Op.TheVariants as op
use Rattle.cell_core.specs.declared.operator.Arg.{Arg}
use Rattle.cell_core.specs.declared.table.Db.{Db}
use Rattle.cell_core.specs.Kinds.{ValueType, agrees, are_comparable, cells_kind, calculated_type}
use Rattle.sql_tree.specs.Tree.{ExprTree, CondTree}
use Rattle.sql_tree.specs.Tree.CondTree.{Compare, Within, IsNull, Negation, Both, Either}
use Rattle.sql_tree.specs.Exprs.{cond_exprs, exprs_of_cond}
use Rattle.sql_tree.specs.declared.tree.CmpOp.{CmpOp}
use Rattle.sql_tree.specs.declared.tree.CmpOp.TheVariants as cmp
use Rattle.mal_emit.specs.Emitters.{Emitter, followed, emits}
use Rattle.mal_emit.specs.Machines.{Gives, GivesAll, Holds, checking}
use Rattle.mal_emit.proofs.GivesLemmas.{gives_same, then_some, behind_one, emits_gives, cons_gives, nothing_gives}
use Rattle.mal_emit.proofs.MachineLemmas.{At, stays, and_holds}
use Rattle.mal_emit.proofs.TypeLemmas.{oids_type}
use Rattle.rows_to_mal.specs.Conjuncts.{comparison_of}
use Rattle.rows_to_mal.proofs.FitLemmas.{all_parts}
use Rattle.sql_definitions.specs.Check.{is_misfit_cond}
use Rattle.sql_definitions.specs.Kinds.{kind_of_expr, is_misfit, compares, is_cond_misfit}
use Rattle.sql_definitions.specs.Sources.{NamedSource}
use Rattle.group_to_mal.specs.Columns.{values_by, with_bat, spread_by, spread_first, undoubled}
use Rattle.group_to_mal.specs.QueryPlan.{kept_columns, items_by}
use Rattle.group_to_mal.specs.Values.{both_by, test_by, test_bat}
use Rattle.group_to_mal.proofs.TypedColumns.{Column, column_type, types, bats, first_bat, first_any, first_typed, spread_typed, keep_typed, undoubled_typed}

kind_in : (b : Bool) (k : Option Kind) → cells_kind (column_type b k) ≡ k
kind_in true k = refl
kind_in false k = refl

two_columns : (k : Kind) (a b : Bool) (x y : Option Kind) → calculated_type k (column_type a x ∷ column_type b y ∷ []) ≡ column_type (a || b) (Some k)
two_columns k true b x y = refl
two_columns k false true x y = refl
two_columns k false false x y = refl

one_column : (k : Kind) (a : Bool) (x : Option Kind) → calculated_type k (column_type a x ∷ []) ≡ column_type a (Some k)
one_column k true x = refl
one_column k false x = refl

bits : (a b : Bool) → agrees (cells_kind (column_type a (Some kind.Bit))) (Some kind.Bit) && agrees (cells_kind (column_type b (Some kind.Bit))) (Some kind.Bit) ≡ true
bits true true = refl
bits true false = refl
bits false true = refl
bits false false = refl

one_bit : (a : Bool) → agrees (cells_kind (column_type a (Some kind.Bit))) (Some kind.Bit) ≡ true
one_bit true = refl
one_bit false = refl

fits_not : (c : Bool) → not c ≡ false → c ≡ true
fits_not true e = refl
fits_not false e = cc

module _ (db : Db) (called : List NamedSource) (value : ExprTree → Emitter Arg) (is_bat : ExprTree → Bool) (args : List Arg) (are : List ValueType) where
  abbrev Typed : Emitter Arg → Bool → Option Kind → Type 0
  Typed emitter b k = Gives (checking db) args are emitter (Some (column_type b k))

  -- an expression's value is a column of its kind
  abbrev pub IsTyped : ExprTree → Type 0
  IsTyped e = Typed (value e) (is_bat e) (kind_of_expr called e)

  -- ## Tests

  two_typed : {first second : Emitter Arg} (a b : Bool) (x y : Option Kind) (operator : Op)
      → ((c d : Arg) → (checking db).apply operator (c ∷ d ∷ []) (column_type a x ∷ column_type b y ∷ []) ≡ Some (calculated_type kind.Bit (column_type a x ∷ column_type b y ∷ [])))
      → Typed first a x → Typed second b y → Typed (followed first (λ v. followed second (λ w. emits operator (v ∷ w ∷ [])))) (a || b) (Some kind.Bit)
  two_typed a b x y operator is g h =
      gives_same (ap Some (two_columns kind.Bit a b x y)) (then_some g (λ c. then_some (behind_one h) (λ d. emits_gives operator (At 1 ∷ At 0 ∷ []) (is c d))))

  compare_typed : (operator : CmpOp) (c d : Arg) (a b : Bool) (x y : Option Kind) → are_comparable x y ≡ true
      → (checking db).apply (comparison_of operator) (c ∷ d ∷ []) (column_type a x ∷ column_type b y ∷ []) ≡ Some (calculated_type kind.Bit (column_type a x ∷ column_type b y ∷ []))
  compare_typed operator c d a b x y e = by_operator operator
    where
      fits : are_comparable (cells_kind (column_type a x)) (cells_kind (column_type b y)) ≡ true
      fits = ap (λ k. are_comparable k (cells_kind (column_type b y))) (kind_in a x) ∙ ap (are_comparable x) (kind_in b y) ∙ e

      by_operator : (operator : CmpOp) → (checking db).apply (comparison_of operator) (c ∷ d ∷ []) (column_type a x ∷ column_type b y ∷ []) ≡ Some (calculated_type kind.Bit (column_type a x ∷ column_type b y ∷ []))
      by_operator cmp.Eq = ap (λ t. some_if t (calculated_type kind.Bit (column_type a x ∷ column_type b y ∷ []))) fits
      by_operator cmp.Ne = ap (λ t. some_if t (calculated_type kind.Bit (column_type a x ∷ column_type b y ∷ []))) fits
      by_operator cmp.Lt = ap (λ t. some_if t (calculated_type kind.Bit (column_type a x ∷ column_type b y ∷ []))) fits
      by_operator cmp.Le = ap (λ t. some_if t (calculated_type kind.Bit (column_type a x ∷ column_type b y ∷ []))) fits
      by_operator cmp.Gt = ap (λ t. some_if t (calculated_type kind.Bit (column_type a x ∷ column_type b y ∷ []))) fits
      by_operator cmp.Ge = ap (λ t. some_if t (calculated_type kind.Bit (column_type a x ∷ column_type b y ∷ []))) fits

  compared_typed : (operator : CmpOp) (left right : ExprTree) → IsTyped left → IsTyped right → compares called left right ≡ true
      → Typed (both_by value left right (comparison_of operator)) (is_bat left || is_bat right) (Some kind.Bit)
  compared_typed operator left right l r fit =
      two_typed (is_bat left) (is_bat right) (kind_of_expr called left) (kind_of_expr called right) (comparison_of operator)
      (λ c d. compare_typed operator c d (is_bat left) (is_bat right) (kind_of_expr called left) (kind_of_expr called right) fit) l r

  pub test_typed : (c : CondTree) → AllByRecursion IsTyped (cond_exprs c) → is_cond_misfit called c ≡ false → Typed (test_by value c) (test_bat is_bat c) (Some kind.Bit)
  test_typed (Compare operator left right) typed fit =
      compared_typed operator left right typed.0 typed.1.0 (fits_not (compares called left right) (or_parts (is_misfit called left || is_misfit called right) (not (compares called left right)) fit).1)
  test_typed (Within of low high) typed fit =
      let last = or_parts (is_misfit called of || is_misfit called low || is_misfit called high || not (compares called of low)) (not (compares called of high)) fit in
      let lower = or_parts (is_misfit called of || is_misfit called low || is_misfit called high) (not (compares called of low)) last.0 in
      two_typed (is_bat of || is_bat low) (is_bat of || is_bat high) (Some kind.Bit) (Some kind.Bit) op.And
      (λ c d. ap (λ t. some_if t (calculated_type kind.Bit (column_type (is_bat of || is_bat low) (Some kind.Bit) ∷ column_type (is_bat of || is_bat high) (Some kind.Bit) ∷ []))) (bits (is_bat of || is_bat low) (is_bat of || is_bat high)))
      (compared_typed cmp.Ge of low typed.0 typed.1.0 (fits_not (compares called of low) lower.1))
      (compared_typed cmp.Le of high typed.0 typed.1.1.0 (fits_not (compares called of high) last.1))
  test_typed (IsNull of) typed fit =
      then_some typed.0 (λ x. emits_gives op.IsNil (At 0 ∷ []) (ap Some (one_column kind.Bit (is_bat of) (kind_of_expr called of))))
  test_typed (Negation c) typed fit =
      then_some (test_typed c typed fit)
      (λ x. emits_gives op.Not (At 0 ∷ []) (ap (λ t. some_if t (calculated_type kind.Bit (column_type (test_bat is_bat c) (Some kind.Bit) ∷ []))) (one_bit (test_bat is_bat c)) ∙ ap Some (one_column kind.Bit (test_bat is_bat c) (Some kind.Bit))))
  test_typed (Both left right) typed fit =
      let parts = or_parts (is_cond_misfit called left) (is_cond_misfit called right) fit in
      let exprs = all_parts IsTyped (cond_exprs left) (cond_exprs right) typed in
      two_typed (test_bat is_bat left) (test_bat is_bat right) (Some kind.Bit) (Some kind.Bit) op.And
      (λ c d. ap (λ t. some_if t (calculated_type kind.Bit (column_type (test_bat is_bat left) (Some kind.Bit) ∷ column_type (test_bat is_bat right) (Some kind.Bit) ∷ []))) (bits (test_bat is_bat left) (test_bat is_bat right)))
      (test_typed left exprs.0 parts.0) (test_typed right exprs.1 parts.1)
  test_typed (Either left right) typed fit =
      let parts = or_parts (is_cond_misfit called left) (is_cond_misfit called right) fit in
      let exprs = all_parts IsTyped (cond_exprs left) (cond_exprs right) typed in
      two_typed (test_bat is_bat left) (test_bat is_bat right) (Some kind.Bit) (Some kind.Bit) op.Or
      (λ c d. ap (λ t. some_if t (calculated_type kind.Bit (column_type (test_bat is_bat left) (Some kind.Bit) ∷ column_type (test_bat is_bat right) (Some kind.Bit) ∷ []))) (bits (test_bat is_bat left) (test_bat is_bat right)))
      (test_typed left exprs.0 parts.0) (test_typed right exprs.1 parts.1)

  -- ## Items

  -- the columns of items
  abbrev pub columns_of : List ExprTree → List Column
  columns_of items = map (λ x. (is_bat x, kind_of_expr called x)) items

  pub bats_are : (items : List ExprTree) → bats (columns_of items) ≡ map is_bat items
  bats_are [] = refl
  bats_are (x ∷ items) = ap (λ r. is_bat x ∷ r) (bats_are items)

  pub values_typed : (items : List ExprTree) → AllByRecursion IsTyped items → GivesAll (checking db) args are (values_by value items) (Some (types (columns_of items)))
  values_typed [] typed = nothing_gives
  values_typed (x ∷ items) typed = cons_gives (Some (column_type (is_bat x) (kind_of_expr called x))) (Some (types (columns_of items))) typed.0 (values_typed items typed.1)

  module _ (h : Arg) where
    -- where the values are known, and the heads beside which scalars go
    pub record Known (before : List Instr) : Type 0 where
      pub values : Holds (checking db) before args are
      pub heads : Holds (checking db) before (h ∷ []) (oids_type ∷ [])

    kept_typed : (having : Option CondTree) → AllByRecursion IsTyped (exprs_of_cond having) → is_misfit_cond called having ≡ false → (ws : List Arg) (cs : List Column) (before : List Instr) → Known before
        → Holds (checking db) before ws (types cs)
        → Holds (checking db) ((kept_columns value is_bat h having (bats cs) ws).run before).0 ((kept_columns value is_bat h having (bats cs) ws).run before).1 (types cs)
    kept_typed None typed fit ws cs before k j = j
    kept_typed (Some c) typed fit ws cs before k j = (keep_typed db (spread.run (test.run before).0).1 ws cs).told (spread.run (test.run before).0).0 (and_holds (checking db) one columns)
      where
        test : Emitter Arg
        test = test_by value c

        known : Holds (checking db) (test.run before).0 ((test.run before).1 ∷ args) (column_type (test_bat is_bat c) (Some kind.Bit) ∷ are)
        known = (test_typed c typed fit).told before k.values

        spread : Emitter Arg
        spread = spread_by h (test_bat is_bat c) (test.run before).1

        both : Holds (checking db) (test.run before).0 (h ∷ (test.run before).1 ∷ args) (oids_type ∷ column_type (test_bat is_bat c) (Some kind.Bit) ∷ are)
        both = and_holds (checking db) (stays (checking db) (test.grows before) k.heads known) known

        one : Holds (checking db) (spread.run (test.run before).0).0 ((spread.run (test.run before).0).1 ∷ h ∷ (test.run before).1 ∷ args) (column_type true (Some kind.Bit) ∷ oids_type ∷ column_type (test_bat is_bat c) (Some kind.Bit) ∷ are)
        one = (spread_typed db (test_bat is_bat c) (Some kind.Bit)).told (test.run before).0 both

        columns : Holds (checking db) (spread.run (test.run before).0).0 ws (types cs)
        columns = stays (checking db) (spread.grows (test.run before).0) (stays (checking db) (test.grows before) j known) one

    -- HAVING and DISTINCT after the first column
    abbrev last_phrases : Option CondTree → Bool → List Bool → List Arg → Emitter (List Arg)
    last_phrases having distinct bs ws = followed (kept_columns value is_bat h having bs ws) (λ xs. undoubled distinct bs xs)

    last_typed : (having : Option CondTree) → AllByRecursion IsTyped (exprs_of_cond having) → is_misfit_cond called having ≡ false → (distinct : Bool) (ws : List Arg) (c : Column) (cs : List Column) (before : List Instr) → Known before
        → Holds (checking db) before ws (types (first_bat (c ∷ cs)))
        → Holds (checking db) ((last_phrases having distinct (bats (first_bat (c ∷ cs))) ws).run before).0 ((last_phrases having distinct (bats (first_bat (c ∷ cs))) ws).run before).1 (types (first_bat (c ∷ cs)))
    last_typed having typed fit distinct ws c cs before k j =
        undoubled_typed db distinct ((kept_columns value is_bat h having (bats (first_bat (c ∷ cs))) ws).run before).1 (first_bat (c ∷ cs)) (first_any c cs) ((kept_columns value is_bat h having (bats (first_bat (c ∷ cs))) ws).run before).0
        (kept_typed having typed fit ws (first_bat (c ∷ cs)) before k j)

    all_phrases : (having : Option CondTree) → AllByRecursion IsTyped (exprs_of_cond having) → is_misfit_cond called having ≡ false → (distinct : Bool) (vs : List Arg) (c : Column) (cs : List Column) (before : List Instr) → Known before
        → Holds (checking db) before vs (types (c ∷ cs))
        → Holds (checking db) ((followed (spread_first h (bats (c ∷ cs)) vs) (λ ws. last_phrases having distinct (with_bat (bats (c ∷ cs))) ws)).run before).0
        ((followed (spread_first h (bats (c ∷ cs)) vs) (λ ws. last_phrases having distinct (with_bat (bats (c ∷ cs))) ws)).run before).1 (types (first_bat (c ∷ cs)))
    all_phrases having typed fit distinct vs c cs before k j =
        let first = spread_first h (bats (c ∷ cs)) vs in
        let one = first_typed db h vs (c ∷ cs) before k.heads j in
        last_typed having typed fit distinct (first.run before).1 c cs (first.run before).0
        (record { values = stays (checking db) (first.grows before) k.values one; heads = stays (checking db) (first.grows before) k.heads one }) one

    -- the items, of which there is one
    pub items_typed : (having : Option CondTree) → AllByRecursion IsTyped (exprs_of_cond having) → is_misfit_cond called having ≡ false → (distinct : Bool) (x : ExprTree) (items : List ExprTree) → AllByRecursion IsTyped (x ∷ items)
        → (before : List Instr) → Known before
        → Holds (checking db) ((items_by value is_bat h having distinct (x ∷ items)).run before).0 ((items_by value is_bat h having distinct (x ∷ items)).run before).1 (types (first_bat (columns_of (x ∷ items))))
    items_typed having typed fit distinct x items each before k =
        subst (λ bs. Holds (checking db) ((followed (spread_first h bs (values.run before).1) (λ ws. last_phrases having distinct (with_bat bs) ws)).run (values.run before).0).0
        ((followed (spread_first h bs (values.run before).1) (λ ws. last_phrases having distinct (with_bat bs) ws)).run (values.run before).0).1 (types (first_bat (columns_of (x ∷ items))))) (bats_are (x ∷ items))
        (all_phrases having typed fit distinct (values.run before).1 (is_bat x, kind_of_expr called x) (columns_of items) (values.run before).0
        (record { values = stays (checking db) (values.grows before) k.values one; heads = stays (checking db) (values.grows before) k.heads one }) one)
      where
        values : Emitter (List Arg)
        values = values_by value (x ∷ items)

        one : Holds (checking db) (values.run before).0 (values.run before).1 (types (columns_of (x ∷ items)))
        one = (values_typed (x ∷ items) each).told before k.values
