-- The types of the values of expressions and conditions over the rows so far, and of the rows that they keep.
use Rattle.std.proofs.Common.{◌≡◌, ℕ, ◌<◌, List, [], ◌∷◌, length, Bool, true, false, not, ◌&&◌, ◌||◌, Option, Some, None, refl, ap, sym, ◌∙◌, subst}
use Rattle.std.specs.Prelude.{get_or}
use Rattle.std.specs.Bool.{then_some as some_if}
use Rattle.std.specs.List.{AllByRecursion}
use Rattle.std.specs.Option.{option_map}
use Rattle.std.proofs.lemmas.Bool.{or_parts}
use Rattle.std.proofs.lemmas.Option.{get_or_from_slice_get}
use Rattle.cell_core.specs.declared.cell.Cell.TheVariants.{Nil}
use Rattle.cell_core.specs.declared.cell.Kind.{Kind}
use Rattle.cell_core.specs.declared.cell.Kind.TheVariants as kind
use Rattle.cell_core.specs.declared.operator.Op.{Op}
use Rattle.cell_core.specs.declared.operator.Op.TheVariants as op
use Rattle.cell_core.specs.declared.operator.Arg.{Arg}
use Rattle.cell_core.specs.declared.operator.Arg.TheVariants.{Const}
use Rattle.cell_core.specs.declared.table.Column.{Column}
use Rattle.cell_core.specs.declared.table.Db.{Db}
use Rattle.cell_core.specs.Kinds.{ValueType, OneOf, BatOf, agrees, cells_kind, calculated_type, are_comparable}
use Rattle.sql_tree.specs.Tree.{ExprTree, CondTree}
use Rattle.sql_tree.specs.Tree.ExprTree.{Literal, ColumnOf, Operator, AggregateAll, Aggregate}
use Rattle.sql_tree.specs.Tree.CondTree.{Compare, Within, IsNull, Negation, Both, Either}
use Rattle.sql_tree.specs.Exprs.{cond_exprs}
use Rattle.sql_tree.specs.declared.tree.ColRef.{ColRef}
use Rattle.sql_tree.specs.declared.tree.CmpOp.{CmpOp}
use Rattle.sql_tree.specs.declared.tree.CmpOp.TheVariants as cmp
use Rattle.sql_grammar.specs.Written.{IsPlainCond, IsPlain as IsWritten}
use Rattle.sql_definitions.specs.declared.source.Source.{Source}
use Rattle.mal_emit.specs.Emitters.{Emitter, followed, emits}
use Rattle.mal_emit.specs.Machines.{Gives, GivesAll, checking}
use Rattle.mal_emit.proofs.GivesLemmas.{gives_same, then_some, behind_one, emits_gives, constant_gives, known_gives, all_then, then_all}
use Rattle.mal_emit.proofs.MachineLemmas.{At}
use Rattle.mal_emit.proofs.TypeLemmas.{oid_bats, bits_type, keep_typed}
use Rattle.rows_to_mal.specs.Candidates.{column_kind, no_column, calc_of}
use Rattle.rows_to_mal.specs.Conjuncts.{Scope, no_source, place_value, expr_value, is_alone, comparison_of, cond_value, is_cond_alone, spread_value, keep_all}
use Rattle.rows_to_mal.specs.Reading.{column_of}
use Rattle.rows_to_mal.proofs.AlikeLemmas.{kind_found, column_found}
use Rattle.rows_to_mal.proofs.FitLemmas.{all_at, ArePlaced, only_place, all_parts, IsPlaced}
use Rattle.rows_to_mal.proofs.FoundLemmas.{InDb}
use Rattle.rows_to_mal.proofs.PlaceLemmas.{scope_of, table_at, column_in}
use Rattle.rows_to_mal.proofs.TypedLemmas.{int_parts, calc_typed}
use Rattle.rows_to_mal.proofs.TypedRowLemmas.{column_value_typed, oid_at}
use Rattle.sql_definitions.specs.Sources.{place_of, places}
use Rattle.sql_definitions.specs.References.{references}
use Rattle.sql_definitions.specs.Kinds.{kind_of_expr, is_misfit, compares, is_cond_misfit}

-- a cell of a kind, or a BAT with such a cell for each row so far
abbrev pub value_type : Bool → Option Kind → ValueType
value_type true k = OneOf k
value_type false k = BatOf (Some kind.Oid) k

kind_in : (b : Bool) (k : Option Kind) → cells_kind (value_type b k) ≡ k
kind_in true k = refl
kind_in false k = refl

two_values : (k : Kind) (a b : Bool) (x y : Option Kind) → calculated_type k (value_type a x ∷ value_type b y ∷ []) ≡ value_type (a && b) (Some k)
two_values k true true x y = refl
two_values k true false x y = refl
two_values k false b x y = refl

one_value : (k : Kind) (a : Bool) (x : Option Kind) → calculated_type k (value_type a x ∷ []) ≡ value_type a (Some k)
one_value k true x = refl
one_value k false x = refl

twice_alone : (a b c : Bool) → (a && b) && (a && c) ≡ (a && b) && c
twice_alone true b c = refl
twice_alone false b c = refl

fits_not : (c : Bool) → not c ≡ false → c ≡ true
fits_not true e = refl
fits_not false e = cc

module _ (db : Db) (names : List (List ℕ)) (sources : List Source) (there : AllByRecursion (InDb db) sources) where
  abbrev scope : Scope
  scope = scope_of names sources

  -- one BAT of oids for each table
  abbrev rows_type : List ValueType
  rows_type = oid_bats sources

  all_found : (all : List Source) (n : ℕ) (d : Source) → AllByRecursion (InDb db) all → n < length all → InDb db (get_or all n d)
  all_found all n d a few = all_at (InDb db) all n d a few

  -- the kind of a column that is there
  pub column_kind_is : (expr : ExprTree) (place : ℕ × ℕ) → column_of scope.called expr ≡ Some place → kind_of_expr scope.called expr ≡ Some (column_kind (table_at names sources place.0) place.1)
  column_kind_is expr place e =
      let found = column_found db names sources there expr place e in
      kind_found db names sources there expr place e ∙ ap (option_map (λ (column : Column). column.kind)) found.named
      ∙ ap (λ (column : Column). Some column.kind) (sym (ap (λ (s : Source). get_or s.columns place.1 no_column) (get_or_from_slice_get sources place.0 found.source no_source found.table) ∙ get_or_from_slice_get found.source.columns place.1 found.column no_column found.is))

  abbrev HasType : List Arg → Emitter Arg → Bool → Option Kind → Type 0
  HasType rs emitter b k = Gives (checking db) rs rows_type emitter (Some (value_type b k))

  place_typed : (rs : List Arg) (ref : ColRef) (o : Option (ℕ × ℕ)) → place_of scope.called ref ≡ o → (place : ℕ × ℕ) → o ≡ Some place → HasType rs (place_value scope rs o) false (kind_of_expr scope.called (ColumnOf ref))
  place_typed rs ref None f place e = cc
  place_typed rs ref (Some p) f place e =
      let within = column_in names sources (ColumnOf ref) p f in
      gives_same (ap (λ k. Some (BatOf (Some kind.Oid) k)) (sym (column_kind_is (ColumnOf ref) p f)))
      (column_value_typed db scope.called p.0 (oid_at db scope.called sources p.0 within.table) (table_at names sources p.0) (all_found sources p.0 no_source there within.table) p.1 within.column)

  -- two values, and an operator that takes them
  both_typed : {rs : List Arg} {first second : Emitter Arg} (a b : Bool) (x y : Option Kind) (operator : Op) (k : Kind)
      → ((c d : Arg) → (checking db).apply operator (c ∷ d ∷ []) (value_type a x ∷ value_type b y ∷ []) ≡ Some (calculated_type k (value_type a x ∷ value_type b y ∷ [])))
      → HasType rs first a x → HasType rs second b y → HasType rs (followed first (λ v. followed second (λ w. emits operator (v ∷ w ∷ [])))) (a && b) (Some k)
  both_typed a b x y operator k is g h =
      gives_same (ap Some (two_values k a b x y)) (then_some g (λ c. then_some (behind_one h) (λ d. emits_gives operator (At 1 ∷ At 0 ∷ []) (is c d))))

  pub expr_typed : (expr : ExprTree) → IsWritten expr → ArePlaced scope.called expr → is_misfit scope.called expr ≡ false → {rs : List Arg}
      → HasType rs (expr_value scope rs expr) (is_alone expr) (kind_of_expr scope.called expr)
  expr_typed (Literal cell) plain placed fit = constant_gives cell
  expr_typed (ColumnOf ref) plain placed fit {rs} = let one = only_place ref (places scope.called ref) placed.0 in place_typed rs ref (place_of scope.called ref) refl one.0 one.1
  expr_typed (Operator operator left right) plain placed fit {rs} =
      let parts = all_parts (IsPlaced scope.called) (references left) (references right) placed in
      let ints = int_parts db scope.called operator left right fit in
      both_typed (is_alone left) (is_alone right) (kind_of_expr scope.called left) (kind_of_expr scope.called right) (calc_of operator) kind.Int
      (λ c d. calc_typed db operator c d (value_type (is_alone left) (kind_of_expr scope.called left)) (value_type (is_alone right) (kind_of_expr scope.called right))
      (ap (λ k. agrees k (Some kind.Int)) (kind_in (is_alone left) (kind_of_expr scope.called left)) ∙ ints.left_int)
      (ap (λ k. agrees k (Some kind.Int)) (kind_in (is_alone right) (kind_of_expr scope.called right)) ∙ ints.right_int))
      (expr_typed left plain.0 parts.0 ints.left_fit) (expr_typed right plain.1 parts.1 ints.right_fit)
  expr_typed (AggregateAll f) plain placed fit = absurd plain
  expr_typed (Aggregate f of) plain placed fit = absurd plain

  -- ## Conditions

  compare_typed : (operator : CmpOp) (c d : Arg) (a b : Bool) (x y : Option Kind) → are_comparable x y ≡ true
      → (checking db).apply (comparison_of operator) (c ∷ d ∷ []) (value_type a x ∷ value_type b y ∷ []) ≡ Some (calculated_type kind.Bit (value_type a x ∷ value_type b y ∷ []))
  compare_typed operator c d a b x y e = by_operator operator
    where
      fits : are_comparable (cells_kind (value_type a x)) (cells_kind (value_type b y)) ≡ true
      fits = ap (λ k. are_comparable k (cells_kind (value_type b y))) (kind_in a x) ∙ ap (are_comparable x) (kind_in b y) ∙ e

      by_operator : (operator : CmpOp) → (checking db).apply (comparison_of operator) (c ∷ d ∷ []) (value_type a x ∷ value_type b y ∷ []) ≡ Some (calculated_type kind.Bit (value_type a x ∷ value_type b y ∷ []))
      by_operator cmp.Eq = ap (λ t. some_if t (calculated_type kind.Bit (value_type a x ∷ value_type b y ∷ []))) fits
      by_operator cmp.Ne = ap (λ t. some_if t (calculated_type kind.Bit (value_type a x ∷ value_type b y ∷ []))) fits
      by_operator cmp.Lt = ap (λ t. some_if t (calculated_type kind.Bit (value_type a x ∷ value_type b y ∷ []))) fits
      by_operator cmp.Le = ap (λ t. some_if t (calculated_type kind.Bit (value_type a x ∷ value_type b y ∷ []))) fits
      by_operator cmp.Gt = ap (λ t. some_if t (calculated_type kind.Bit (value_type a x ∷ value_type b y ∷ []))) fits
      by_operator cmp.Ge = ap (λ t. some_if t (calculated_type kind.Bit (value_type a x ∷ value_type b y ∷ []))) fits

  bits : (a b : Bool) → agrees (cells_kind (value_type a (Some kind.Bit))) (Some kind.Bit) && agrees (cells_kind (value_type b (Some kind.Bit))) (Some kind.Bit) ≡ true
  bits true true = refl
  bits true false = refl
  bits false true = refl
  bits false false = refl

  one_bit : (a : Bool) → agrees (cells_kind (value_type a (Some kind.Bit))) (Some kind.Bit) ≡ true
  one_bit true = refl
  one_bit false = refl

  compared_typed : (operator : CmpOp) (left right : ExprTree) → IsWritten left → IsWritten right → ArePlaced scope.called left → ArePlaced scope.called right
      → is_misfit scope.called left ≡ false → is_misfit scope.called right ≡ false → compares scope.called left right ≡ true → {rs : List Arg}
      → HasType rs (followed (expr_value scope rs left) (λ x. followed (expr_value scope rs right) (λ y. emits (comparison_of operator) (x ∷ y ∷ [])))) (is_alone left && is_alone right) (Some kind.Bit)
  compared_typed operator left right p q l r f g fit =
      both_typed (is_alone left) (is_alone right) (kind_of_expr scope.called left) (kind_of_expr scope.called right) (comparison_of operator) kind.Bit
      (λ c d. compare_typed operator c d (is_alone left) (is_alone right) (kind_of_expr scope.called left) (kind_of_expr scope.called right) fit)
      (expr_typed left p l f) (expr_typed right q r g)

  pub cond_typed : (c : CondTree) → IsPlainCond c → AllByRecursion (ArePlaced scope.called) (cond_exprs c) → is_cond_misfit scope.called c ≡ false → {rs : List Arg}
      → HasType rs (cond_value scope rs c) (is_cond_alone c) (Some kind.Bit)
  cond_typed (Compare operator left right) plain placed fit =
      let last = or_parts (is_misfit scope.called left || is_misfit scope.called right) (not (compares scope.called left right)) fit in
      let first = or_parts (is_misfit scope.called left) (is_misfit scope.called right) last.0 in
      compared_typed operator left right plain.0 plain.1 placed.0 placed.1.0 first.0 first.1 (fits_not (compares scope.called left right) last.1)
  cond_typed (Within of low high) plain placed fit {rs} =
      let last = or_parts (is_misfit scope.called of || is_misfit scope.called low || is_misfit scope.called high || not (compares scope.called of low)) (not (compares scope.called of high)) fit in
      let lower = or_parts (is_misfit scope.called of || is_misfit scope.called low || is_misfit scope.called high) (not (compares scope.called of low)) last.0 in
      let third = or_parts (is_misfit scope.called of || is_misfit scope.called low) (is_misfit scope.called high) lower.0 in
      let first = or_parts (is_misfit scope.called of) (is_misfit scope.called low) third.0 in
      subst (λ b. HasType rs (cond_value scope rs (Within of low high)) b (Some kind.Bit)) (twice_alone (is_alone of) (is_alone low) (is_alone high))
      (both_typed (is_alone of && is_alone low) (is_alone of && is_alone high) (Some kind.Bit) (Some kind.Bit) op.And kind.Bit
      (λ c d. ap (λ t. some_if t (calculated_type kind.Bit (value_type (is_alone of && is_alone low) (Some kind.Bit) ∷ value_type (is_alone of && is_alone high) (Some kind.Bit) ∷ []))) (bits (is_alone of && is_alone low) (is_alone of && is_alone high)))
      (compared_typed cmp.Ge of low plain.0 plain.1 placed.0 placed.1.0 first.0 first.1 (fits_not (compares scope.called of low) lower.1))
      (compared_typed cmp.Le of high plain.0 plain.2 placed.0 placed.1.1.0 first.0 third.1 (fits_not (compares scope.called of high) last.1)))
  cond_typed (IsNull of) plain placed fit =
      then_some (expr_typed of plain placed.0 fit) (λ x. emits_gives op.IsNil (At 0 ∷ []) (ap Some (one_value kind.Bit (is_alone of) (kind_of_expr scope.called of))))
  cond_typed (Negation c) plain placed fit =
      then_some (cond_typed c plain placed fit)
      (λ x. emits_gives op.Not (At 0 ∷ []) (ap (λ t. some_if t (calculated_type kind.Bit (value_type (is_cond_alone c) (Some kind.Bit) ∷ []))) (one_bit (is_cond_alone c)) ∙ ap Some (one_value kind.Bit (is_cond_alone c) (Some kind.Bit))))
  cond_typed (Both left right) plain placed fit =
      let parts = or_parts (is_cond_misfit scope.called left) (is_cond_misfit scope.called right) fit in
      let exprs = all_parts (ArePlaced scope.called) (cond_exprs left) (cond_exprs right) placed in
      both_typed (is_cond_alone left) (is_cond_alone right) (Some kind.Bit) (Some kind.Bit) op.And kind.Bit
      (λ c d. ap (λ t. some_if t (calculated_type kind.Bit (value_type (is_cond_alone left) (Some kind.Bit) ∷ value_type (is_cond_alone right) (Some kind.Bit) ∷ []))) (bits (is_cond_alone left) (is_cond_alone right)))
      (cond_typed left plain.0 exprs.0 parts.0) (cond_typed right plain.1 exprs.1 parts.1)
  cond_typed (Either left right) plain placed fit =
      let parts = or_parts (is_cond_misfit scope.called left) (is_cond_misfit scope.called right) fit in
      let exprs = all_parts (ArePlaced scope.called) (cond_exprs left) (cond_exprs right) placed in
      both_typed (is_cond_alone left) (is_cond_alone right) (Some kind.Bit) (Some kind.Bit) op.Or kind.Bit
      (λ c d. ap (λ t. some_if t (calculated_type kind.Bit (value_type (is_cond_alone left) (Some kind.Bit) ∷ value_type (is_cond_alone right) (Some kind.Bit) ∷ []))) (bits (is_cond_alone left) (is_cond_alone right)))
      (cond_typed left plain.0 exprs.0 parts.0) (cond_typed right plain.1 exprs.1 parts.1)

  -- ## Conjuncts

  spread_value_typed : {v : Arg} {rs : List Arg} → 0 < length sources → (b : Bool) → Gives (checking db) (v ∷ rs) (value_type b (Some kind.Bit) ∷ rows_type) (spread_value rs b v) (Some bits_type)
  spread_value_typed {v} {rs} some true =
      emits_gives op.Project (At 1 ∷ At 0 ∷ []) (ap (λ t. (checking db).apply op.Project (get_or rs 0 (Const Nil) ∷ v ∷ []) (t ∷ OneOf (Some kind.Bit) ∷ [])) (oid_at db scope.called sources 0 some))
  spread_value_typed some false = known_gives

  -- what is known of a conjunct
  pub record IsChecked (c : CondTree) : Type 0 where
    pub plain : IsPlainCond c
    pub placed : AllByRecursion (ArePlaced scope.called) (cond_exprs c)
    pub fit : is_cond_misfit scope.called c ≡ false

  pub keep_all_typed : 0 < length sources → (cs : List CondTree) → AllByRecursion IsChecked cs → {rs : List Arg} → GivesAll (checking db) rs rows_type (keep_all scope rs cs) (Some rows_type)
  keep_all_typed some [] fits = record { told = λ before h. h }
  keep_all_typed some (c ∷ cs) fits {rs} =
      all_then (λ (b : Bool). rows_type) (Some true) {o = λ b. Some rows_type}
      (then_all {v = bits_type} (then_some (cond_typed c fits.0.plain fits.0.placed fits.0.fit) (λ v. spread_value_typed some (is_cond_alone c))) (λ v. keep_typed db sources))
      (λ results b e. keep_all_typed some cs fits.1)
