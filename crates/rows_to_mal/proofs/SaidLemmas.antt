-- The cells that a plan computes for picks are those that SQL means for their choices, and it overflows where SQL does.
use Rattle.std.proofs.Common.{◌≡◌, ℕ, suc, zero, List, [], ◌∷◌, Bool, true, false, ◌&&◌, ◌||◌, cond, Option, Some, None, refl, ap, sym, ◌∙◌, subst, ⊎_elim}
use Rattle.std.specs.Prelude.{slice_get, slice_index_or, unwrap_or, is_none}
use Rattle.std.specs.List.{AllByRecursion, list_any, list_all}
use Rattle.std.specs.Option.{option_map, option_and_then}
use Rattle.std.proofs.lemmas.Option.{unwrap_or-slice_get}
use Rattle.std.proofs.lemmas.Bool.{or_cases, or_from, and_parts, or_left, or_right, or_parts, and_left, and_right, true≢false}
use Rattle.cell_core.specs.declared.cell.Cell.{Cell}
use Rattle.cell_core.specs.declared.cell.Cell.TheVariants.{Nil}
use Rattle.cell_core.specs.declared.table.Db.{Db}
use Rattle.cell_core.specs.Pairs.{is_true}
use Rattle.cell_core.specs.Calc.{conjunction, disjunction, negation}
use Rattle.sql_tree.specs.Tree.{ExprTree, CondTree}
use Rattle.sql_tree.specs.Tree.ExprTree.{Literal, ColumnOf, Operator, AggregateAll, Aggregate}
use Rattle.sql_tree.specs.Tree.CondTree.{Compare, Within, IsNull, Negation, Both, Either}
use Rattle.sql_tree.specs.declared.tree.ArithOp.{ArithOp}
use Rattle.sql_tree.specs.declared.tree.CmpOp.TheVariants as cmp
use Rattle.sql_definitions.specs.Sources.{NamedSource, place_of}
use Rattle.sql_definitions.specs.References.{is_constant}
use Rattle.sql_definitions.specs.Values.{Choice, cell_over, value, column_cell, result_of, constant_overflows}
use Rattle.sql_tree.specs.Exprs.{cond_exprs}
use Rattle.sql_tree.specs.declared.tree.CmpOp.{CmpOp}
use Rattle.sql_definitions.specs.Truth.{compared, truth}
use Rattle.pick_laws.specs.Shapes.{Shape, Alone, Each, at}
use Rattle.pick_laws.proofs.ListLemmas.{all_any, all_both, any_append, all_along}
use Rattle.rows_to_mal.specs.Conjuncts.{Scope}
use Rattle.rows_to_mal.proofs.ChoiceLemmas.{choice_of, cell_of, row_of_seat}
use Rattle.rows_to_mal.proofs.ConjunctLemmas.{sure, one_shape, cond_shape, CondFits, two_shape, two_of, place_shape, expr_shape, PlaceFits, ExprFits, nil_bit}
use Rattle.rows_to_mal.proofs.JoinLemmas.{Pick, Seat}

-- ## Lists

found_at : (o : Option Cell) → is_none o ≡ false → o ≡ Some (unwrap_or o Nil)
found_at None e = cc
found_at (Some c) e = refl

module _ {P : Type 0} where
  any_weaker : (t u : P → Bool) → ((p : P) → t p ≡ true → u p ≡ true) → (ps : List P) → list_any t ps ≡ true → list_any u ps ≡ true
  any_weaker t u f [] e = e
  any_weaker t u f (p ∷ ps) e = ⊎_elim (λ h. or_left (u p) (list_any u ps) (f p h)) (λ h. or_right (u p) (list_any u ps) (any_weaker t u f ps h)) (or_cases (t p) (list_any t ps) e)

  any_agree : (t u : P → Bool) (ps : List P) → AllByRecursion (λ p. t p ≡ u p) ps → list_any t ps ≡ list_any u ps
  any_agree t u [] a = refl
  any_agree t u (p ∷ ps) a = ap (λ b. b || list_any t ps) a.0 ∙ ap (λ b. u p || b) (any_agree t u ps a.1)

  all_found : (h : P → Option Cell) (ps : List P) → list_any (λ p. is_none (h p)) ps ≡ false → AllByRecursion (λ p. h p ≡ Some (unwrap_or (h p) Nil)) ps
  all_found h [] e = tt
  all_found h (p ∷ ps) e = let parts = or_parts (is_none (h p)) (list_any (λ p. is_none (h p)) ps) e in (found_at (h p) parts.0, all_found h ps parts.1)

-- ## Columns

pub cell_at_is : (choice : Choice) (n place : ℕ) → unwrap_or (option_and_then (λ row. slice_get row place) (slice_get choice n)) Nil ≡ cell_of choice n place
cell_at_is [] n place = refl
cell_at_is (row ∷ choice) zero place = unwrap_or-slice_get row place Nil
cell_at_is (row ∷ choice) (suc n) place = cell_at_is choice n place

-- an operator without a column below it overflows in the condition
abbrev pub overflows : CondTree → Bool
overflows c = list_any constant_overflows (cond_exprs c)

abbrev pub any_overflows : List CondTree → Bool
any_overflows cs = list_any overflows cs

-- the condition is true of a choice
abbrev pub is_true_of : List NamedSource → Choice → CondTree → Bool
is_true_of called choice c = is_true (truth (cell_over called choice) c)

-- all conjuncts are
abbrev pub all_true : List NamedSource → List CondTree → Choice → Bool
all_true called cs choice = list_all (is_true_of called choice) cs

module _ (db : Db) (scope : Scope) (picks : List Pick) (seats : List Seat) where
  -- the value of an expression over a pick's choice
  abbrev pub value_at : ExprTree → Pick → Option Cell
  value_at expr p = value scope.called (choice_of seats p) expr

  place_said : (place : Option (ℕ × ℕ)) → PlaceFits db scope seats place → (p : Pick)
      → unwrap_or (option_and_then (Rattle.sql_definitions.specs.Values.cell_at (choice_of seats p)) place) Nil ≡ at (place_shape seats place) p
  place_said None fits p = absurd fits
  place_said (Some place) fits p = cell_at_is (choice_of seats p) place.0 place.1 ∙ ap (λ row. slice_index_or row place.1 Nil) (row_of_seat seats p place.0)

  -- ## Expressions

  -- what SQL says of the value: it is the same for all picks, or it isn't
  abbrev Constantly : ExprTree → Shape Pick → Type 0
  Constantly expr (Alone c) = (is_constant expr ≡ true) × (value [] [] expr ≡ Some c)
  Constantly expr (Each f) = is_constant expr ≡ false

  pub record SaidShape (expr : ExprTree) (s : Shape Pick) : Type 0 where
    pub fine : constant_overflows expr ≡ false
    pub cells : AllByRecursion (λ p. value_at expr p ≡ Some (at s p)) picks
    pub kind : Constantly expr s

  -- the plan's value is what SQL means, or SQL overflows too
  abbrev pub Said : ExprTree → Option (Shape Pick) → Type 0
  Said expr None = constant_overflows expr || list_any (λ p. is_none (value_at expr p)) picks ≡ true
  Said expr (Some s) = SaidShape expr s

  place_kind : (ref : Rattle.sql_tree.specs.declared.tree.ColRef.ColRef) (place : Option (ℕ × ℕ)) → PlaceFits db scope seats place → Constantly (ColumnOf ref) (place_shape seats place)
  place_kind ref None fits = absurd fits
  place_kind ref (Some place) fits = refl

  none_left : (f : Cell → Cell → Option Cell) (o p : Option Cell) → is_none o ≡ true → is_none (option_and_then (λ x. option_and_then (λ y. f x y) p) o) ≡ true
  none_left f None p e = refl
  none_left f (Some x) p e = cc

  none_right : (f : Cell → Cell → Option Cell) (o p : Option Cell) → is_none p ≡ true → is_none (option_and_then (λ x. option_and_then (λ y. f x y) p) o) ≡ true
  none_right f None p e = refl
  none_right f (Some x) None e = refl
  none_right f (Some x) (Some y) e = cc

  module _ (operator : ArithOp) (left right : ExprTree) where
    abbrev whole : ExprTree
    whole = Operator operator left right

    value_two : (x y : Cell) (p : Pick) → value_at left p ≡ Some x → value_at right p ≡ Some y → value_at whole p ≡ result_of operator x y
    value_two x y p e f =
        ap (λ o. option_and_then (λ a. option_and_then (λ b. result_of operator a b) (value_at right p)) o) e
        ∙ ap (λ o. option_and_then (λ b. result_of operator x b) o) f

    left_none : constant_overflows left || list_any (λ p. is_none (value_at left p)) picks ≡ true → constant_overflows whole || list_any (λ p. is_none (value_at whole p)) picks ≡ true
    left_none e = ⊎_elim
        (λ h. or_left (constant_overflows whole) (list_any (λ p. is_none (value_at whole p)) picks) (or_left (constant_overflows left || constant_overflows right) _ (or_left (constant_overflows left) (constant_overflows right) h)))
        (λ h. or_right (constant_overflows whole) (list_any (λ p. is_none (value_at whole p)) picks)
        (any_weaker (λ p. is_none (value_at left p)) (λ p. is_none (value_at whole p)) (λ p n. none_left (result_of operator) (value_at left p) (value_at right p) n) picks h))
        (or_cases (constant_overflows left) (list_any (λ p. is_none (value_at left p)) picks) e)

    right_none : constant_overflows right || list_any (λ p. is_none (value_at right p)) picks ≡ true → constant_overflows whole || list_any (λ p. is_none (value_at whole p)) picks ≡ true
    right_none e = ⊎_elim
        (λ h. or_left (constant_overflows whole) (list_any (λ p. is_none (value_at whole p)) picks) (or_left (constant_overflows left || constant_overflows right) _ (or_right (constant_overflows left) (constant_overflows right) h)))
        (λ h. or_right (constant_overflows whole) (list_any (λ p. is_none (value_at whole p)) picks)
        (any_weaker (λ p. is_none (value_at right p)) (λ p. is_none (value_at whole p)) (λ p n. none_right (result_of operator) (value_at left p) (value_at right p) n) picks h))
        (or_cases (constant_overflows right) (list_any (λ p. is_none (value_at right p)) picks) e)

    -- one of them isn't constant
    each_said : (s t : Shape Pick) → SaidShape left s → SaidShape right t → is_constant whole ≡ false
        → (b : Bool) → list_any (λ p. is_none (result_of operator (at s p) (at t p))) picks ≡ b
        → Said whole (cond b None (Some (Each (λ p. unwrap_or (result_of operator (at s p) (at t p)) Nil))))
    each_said s t l r varies true e =
        or_right (constant_overflows whole) (list_any (λ p. is_none (value_at whole p)) picks)
        (any_agree (λ p. is_none (value_at whole p)) (λ p. is_none (result_of operator (at s p) (at t p))) picks
        (all_both (λ p. value_at left p ≡ Some (at s p)) (λ p. value_at right p ≡ Some (at t p)) (λ p. is_none (value_at whole p) ≡ is_none (result_of operator (at s p) (at t p)))
        (λ p x y. ap is_none (value_two (at s p) (at t p) p x y)) picks l.cells r.cells) ∙ e)
    each_said s t l r varies false e = record {
      fine = ap (λ b. (b || constant_overflows right) || (is_constant whole && is_none (value [] [] whole))) l.fine
          ∙ ap (λ b. b || (is_constant whole && is_none (value [] [] whole))) r.fine
          ∙ ap (λ b. b && is_none (value [] [] whole)) varies;
      cells = all_both (λ p. value_at whole p ≡ result_of operator (at s p) (at t p)) (λ p. result_of operator (at s p) (at t p) ≡ Some (unwrap_or (result_of operator (at s p) (at t p)) Nil))
          (λ p. value_at whole p ≡ Some (unwrap_or (result_of operator (at s p) (at t p)) Nil)) (λ p x y. x ∙ y) picks
          (all_both (λ p. value_at left p ≡ Some (at s p)) (λ p. value_at right p ≡ Some (at t p)) (λ p. value_at whole p ≡ result_of operator (at s p) (at t p))
          (λ p x y. value_two (at s p) (at t p) p x y) picks l.cells r.cells)
          (all_found (λ p. result_of operator (at s p) (at t p)) picks e);
      kind = varies;
    }

    alone_said : (x y : Cell) → SaidShape left (Alone x) → SaidShape right (Alone y) → (o : Option Cell) → result_of operator x y ≡ o → Said whole (option_map Alone o)
    alone_said x y l r None e =
        or_left (constant_overflows whole) (list_any (λ p. is_none (value_at whole p)) picks)
        (or_right (constant_overflows left || constant_overflows right) (is_constant whole && is_none (value [] [] whole))
        (ap (λ b. (b && is_constant right) && is_none (value [] [] whole)) l.kind.0 ∙ ap (λ b. b && is_none (value [] [] whole)) r.kind.0 ∙ ap is_none (constant_two ∙ e)))
      where
        constant_two : value [] [] whole ≡ result_of operator x y
        constant_two =
            ap (λ o. option_and_then (λ a. option_and_then (λ b. result_of operator a b) (value [] [] right)) o) l.kind.1
            ∙ ap (λ o. option_and_then (λ b. result_of operator x b) o) r.kind.1
    alone_said x y l r (Some c) e = record {
      fine = ap (λ b. (b || constant_overflows right) || (is_constant whole && is_none (value [] [] whole))) l.fine
          ∙ ap (λ b. b || (is_constant whole && is_none (value [] [] whole))) r.fine
          ∙ and_right (is_constant whole) (is_none (value [] [] whole)) (ap is_none (constant_two ∙ e));
      cells = all_both (λ p. value_at left p ≡ Some x) (λ p. value_at right p ≡ Some y) (λ p. value_at whole p ≡ Some c) (λ p a b. value_two x y p a b ∙ e) picks l.cells r.cells;
      kind = (ap (λ b. b && is_constant right) l.kind.0 ∙ r.kind.0, constant_two ∙ e);
    }
      where
        constant_two : value [] [] whole ≡ result_of operator x y
        constant_two =
            ap (λ o. option_and_then (λ a. option_and_then (λ b. result_of operator a b) (value [] [] right)) o) l.kind.1
            ∙ ap (λ o. option_and_then (λ b. result_of operator x b) o) r.kind.1

    two_said : (s t : Shape Pick) → SaidShape left s → SaidShape right t → Said whole (two_shape picks (result_of operator) s t)
    two_said (Alone x) (Alone y) l r = alone_said x y l r (result_of operator x y) refl
    two_said (Alone x) (Each h) l r = each_said (Alone x) (Each h) l r (and_right (is_constant left) (is_constant right) r.kind) (list_any (λ p. is_none (result_of operator x (h p))) picks) refl
    two_said (Each g) (Alone y) l r = each_said (Each g) (Alone y) l r (and_left (is_constant left) (is_constant right) l.kind) (list_any (λ p. is_none (result_of operator (g p) y)) picks) refl
    two_said (Each g) (Each h) l r = each_said (Each g) (Each h) l r (and_left (is_constant left) (is_constant right) l.kind) (list_any (λ p. is_none (result_of operator (g p) (h p))) picks) refl

    operator_said : (o p : Option (Shape Pick)) → Said left o → Said right p → Said whole (two_of db scope picks seats (result_of operator) o p)
    operator_said None p l r = left_none l
    operator_said (Some s) None l r = right_none r
    operator_said (Some s) (Some t) l r = two_said s t l r

  -- the plan's value of an expression is what SQL means, and where it overflows SQL does
  pub said : (expr : ExprTree) → ExprFits db scope seats expr → Said expr (expr_shape db scope picks seats expr)
  said (Literal cell) fits = record { fine = refl; cells = all_any (λ p. Some cell ≡ Some cell) (λ p. refl) picks; kind = (refl, refl) }
  said (ColumnOf ref) fits = record {
    fine = refl;
    cells = all_any (λ p. value_at (ColumnOf ref) p ≡ Some (at (place_shape seats (place_of scope.called ref)) p)) (λ p. ap Some (place_said (place_of scope.called ref) fits p)) picks;
    kind = place_kind ref (place_of scope.called ref) fits;
  }
  said (Operator operator left right) fits = operator_said operator left right (expr_shape db scope picks seats left) (expr_shape db scope picks seats right) (said left fits.0) (said right fits.1)
  said (AggregateAll f) fits = absurd fits
  said (Aggregate f of) fits = absurd fits

  -- ## Conditions

  -- a constant, or a column: no operator over a column
  abbrev pub IsPlain : ExprTree → Type 0
  IsPlain (Literal cell) = Unit {0}
  IsPlain (ColumnOf ref) = Unit {0}
  IsPlain (Operator operator left right) = is_constant (Operator operator left right) ≡ true
  IsPlain (AggregateAll f) = ⊥
  IsPlain (Aggregate f of) = ⊥

  two_same : (f : Cell → Cell → Option Cell) (a b c d : Option Cell) → a ≡ c → b ≡ d → option_and_then (λ x. option_and_then (λ y. f x y) b) a ≡ option_and_then (λ x. option_and_then (λ y. f x y) d) c
  two_same f a b c d e h = ap (λ o. option_and_then (λ x. option_and_then (λ y. f x y) b) o) e ∙ ap (λ o. option_and_then (λ x. option_and_then (λ y. f x y) o) c) h

  constant_at : (expr : ExprTree) → ExprFits db scope seats expr → is_constant expr ≡ true → (p : Pick) → value_at expr p ≡ value [] [] expr
  constant_at (Literal cell) fits e p = refl
  constant_at (ColumnOf ref) fits e p = cc
  constant_at (Operator operator left right) fits e p =
      let parts = and_parts (is_constant left) (is_constant right) e in
      two_same (result_of operator) (value_at left p) (value_at right p) (value [] [] left) (value [] [] right) (constant_at left fits.0 parts.0 p) (constant_at right fits.1 parts.1 p)
  constant_at (AggregateAll f) fits e p = absurd fits
  constant_at (Aggregate f of) fits e p = absurd fits

  none_any : (t : Pick → Bool) → ((p : Pick) → t p ≡ false) → (ps : List Pick) → list_any t ps ≡ false
  none_any t f [] = refl
  none_any t f (p ∷ ps) = ap (λ b. b || list_any t ps) (f p) ∙ none_any t f ps

  constant_none : (operator : ArithOp) (left right : ExprTree) → ExprFits db scope seats (Operator operator left right) → is_constant (Operator operator left right) ≡ true
      → (b : Bool) → is_none (value [] [] (Operator operator left right)) ≡ b
      → list_any (λ p. is_none (value_at (Operator operator left right) p)) picks ≡ true → constant_overflows (Operator operator left right) ≡ true
  constant_none operator left right fits e true n h =
      or_right (constant_overflows left || constant_overflows right) (is_constant (Operator operator left right) && is_none (value [] [] (Operator operator left right)))
      (ap (λ b. b && is_none (value [] [] (Operator operator left right))) e ∙ n)
  constant_none operator left right fits e false n h =
      absurd (true≢false (sym h ∙ none_any (λ p. is_none (value_at (Operator operator left right) p)) (λ p. ap is_none (constant_at (Operator operator left right) fits e p) ∙ n) picks))

  plain_none : (expr : ExprTree) → ExprFits db scope seats expr → IsPlain expr → list_any (λ p. is_none (value_at expr p)) picks ≡ true → constant_overflows expr ≡ true
  plain_none (Literal cell) fits plain h = absurd (true≢false (sym h ∙ none_any (λ p. false) (λ p. refl) picks))
  plain_none (ColumnOf ref) fits plain h = absurd (true≢false (sym h ∙ none_any (λ p. false) (λ p. refl) picks))
  plain_none (Operator operator left right) fits plain h = constant_none operator left right fits plain (is_none (value [] [] (Operator operator left right))) refl h
  plain_none (AggregateAll f) fits plain h = absurd fits
  plain_none (Aggregate f of) fits plain h = absurd fits

  -- the plan's cells are these, or something overflows
  abbrev pub TruthIs : Option (Shape Pick) → Bool → (Pick → Cell) → Type 0
  TruthIs None overflows t = overflows ≡ true
  TruthIs (Some s) overflows t = (overflows ≡ false) × AllByRecursion (λ p. at s p ≡ t p) picks

  -- the cell that SQL means
  abbrev pub cell_for : Pick → ExprTree → Cell
  cell_for p expr = cell_over scope.called (choice_of seats p) expr

  expr_truth : (expr : ExprTree) (o : Option (Shape Pick)) → ExprFits db scope seats expr → IsPlain expr → Said expr o → TruthIs o (constant_overflows expr) (λ p. cell_for p expr)
  expr_truth expr None fits plain h =
      ⊎_elim (λ e. e) (λ e. plain_none expr fits plain e) (or_cases (constant_overflows expr) (list_any (λ p. is_none (value_at expr p)) picks) h)
  expr_truth expr (Some s) fits plain h =
      (h.fine, all_both (λ p. value_at expr p ≡ Some (at s p)) (λ p. Unit {0}) (λ p. at s p ≡ cell_for p expr) (λ p e u. sym (ap (λ o. unwrap_or o Nil) e)) picks h.cells (all_any (λ p. Unit {0}) (λ p. tt) picks))

  abbrev pair_shape : (Cell → Cell → Cell) → Shape Pick → Shape Pick → Shape Pick
  pair_shape f (Alone x) (Alone y) = Alone (f x y)
  pair_shape f s t = Each (λ p. f (at s p) (at t p))

  each_sure : (h : Pick → Cell) → cond (list_any (λ p. is_none (Some (h p))) picks) None (Some (Each (λ p. unwrap_or (Some (h p)) Nil))) ≡ Some (Each h)
  each_sure h = ap (λ b. cond b None (Some (Each h))) (none_any (λ p. is_none (Some (h p))) (λ p. refl) picks)

  sure_shape : (f : Cell → Cell → Cell) (s t : Shape Pick) → two_shape picks (sure picks f) s t ≡ Some (pair_shape f s t)
  sure_shape f (Alone x) (Alone y) = refl
  sure_shape f (Alone x) (Each h) = each_sure (λ p. f x (h p))
  sure_shape f (Each g) (Alone y) = each_sure (λ p. f (g p) y)
  sure_shape f (Each g) (Each h) = each_sure (λ p. f (g p) (h p))

  at_pair : (f : Cell → Cell → Cell) (s t : Shape Pick) (p : Pick) → at (pair_shape f s t) p ≡ f (at s p) (at t p)
  at_pair f (Alone x) (Alone y) p = refl
  at_pair f (Alone x) (Each h) p = refl
  at_pair f (Each g) (Alone y) p = refl
  at_pair f (Each g) (Each h) p = refl

  truth_two : (f : Cell → Cell → Cell) (o q : Option (Shape Pick)) (a b : Bool) (t u : Pick → Cell) → TruthIs o a t → TruthIs q b u
      → TruthIs (two_of db scope picks seats (sure picks f) o q) (a || b) (λ p. f (t p) (u p))
  truth_two f None q a b t u k l = or_left a b k
  truth_two f (Some s) None a b t u k l = or_right a b l
  truth_two f (Some s) (Some s') a b t u k l =
      subst (λ o. TruthIs o (a || b) (λ p. f (t p) (u p))) (sym (sure_shape f s s')) (
        or_from a b k.0 l.0,
        all_both (λ p. at s p ≡ t p) (λ p. at s' p ≡ u p) (λ p. at (pair_shape f s s') p ≡ f (t p) (u p)) (λ p e h. at_pair f s s' p ∙ ap (λ x. f x (at s' p)) e ∙ ap (λ y. f (t p) y) h) picks k.1 l.1,
      )

  truth_along : (o : Option (Shape Pick)) (a b : Bool) (t : Pick → Cell) → a ≡ b → TruthIs o a t → TruthIs o b t
  truth_along o a b t e k = subst (λ c. TruthIs o c t) e k

  truth_one : (f : Cell → Cell) (o : Option (Shape Pick)) (a : Bool) (t : Pick → Cell) → TruthIs o a t → TruthIs (option_map (one_shape picks f) o) a (λ p. f (t p))
  truth_one f None a t k = k
  truth_one f (Some (Alone c)) a t k = (k.0, all_along (λ p. c ≡ t p) (λ p. f c ≡ f (t p)) (λ p e. ap f e) picks k.1)
  truth_one f (Some (Each g)) a t k = (k.0, all_along (λ p. g p ≡ t p) (λ p. f (g p) ≡ f (t p)) (λ p e. ap f e) picks k.1)

  -- all sides of tests in the condition are constants or columns
  abbrev pub AllPlain : CondTree → Type 0
  AllPlain (Compare operator left right) = IsPlain left × IsPlain right
  AllPlain (Within of low high) = IsPlain of × IsPlain low × IsPlain high
  AllPlain (IsNull of) = IsPlain of
  AllPlain (Negation c) = AllPlain c
  AllPlain (Both left right) = AllPlain left × AllPlain right
  AllPlain (Either left right) = AllPlain left × AllPlain right

  or_false : (a b : Bool) → a || b ≡ a || (b || false)
  or_false true b = refl
  or_false false true = refl
  or_false false false = refl

  or_none : (a : Bool) → a ≡ a || false
  or_none true = refl
  or_none false = refl

  or_again : (a b c : Bool) → (a || b) || (a || c) ≡ a || (b || (c || false))
  or_again true b c = refl
  or_again false true c = refl
  or_again false false true = refl
  or_again false false false = refl

  -- the truth of a condition for a pick
  abbrev pub truth_for : CondTree → Pick → Cell
  truth_for c p = truth (cell_for p) c

  compared_said : (operator : CmpOp) (left right : ExprTree) → ExprFits db scope seats left → ExprFits db scope seats right → IsPlain left → IsPlain right
      → TruthIs (cond_shape db scope picks seats (Compare operator left right)) (constant_overflows left || constant_overflows right) (truth_for (Compare operator left right))
  compared_said operator left right f g p q =
      truth_two (compared operator) (expr_shape db scope picks seats left) (expr_shape db scope picks seats right) (constant_overflows left) (constant_overflows right) (λ p. cell_for p left) (λ p. cell_for p right)
      (expr_truth left (expr_shape db scope picks seats left) f p (said left f)) (expr_truth right (expr_shape db scope picks seats right) g q (said right g))

  pub cond_said : (c : CondTree) → CondFits db scope seats c → AllPlain c → TruthIs (cond_shape db scope picks seats c) (overflows c) (truth_for c)
  cond_said (Compare operator left right) fits plain =
      truth_along (cond_shape db scope picks seats (Compare operator left right)) (constant_overflows left || constant_overflows right) (overflows (Compare operator left right)) (truth_for (Compare operator left right))
      (or_false (constant_overflows left) (constant_overflows right))
      (compared_said operator left right fits.0 fits.1 plain.0 plain.1)
  cond_said (Within of low high) fits plain =
      truth_along (cond_shape db scope picks seats (Within of low high)) ((constant_overflows of || constant_overflows low) || (constant_overflows of || constant_overflows high)) (overflows (Within of low high)) (truth_for (Within of low high))
      (or_again (constant_overflows of) (constant_overflows low) (constant_overflows high))
      (truth_two conjunction (cond_shape db scope picks seats (Compare cmp.Ge of low)) (cond_shape db scope picks seats (Compare cmp.Le of high))
      (constant_overflows of || constant_overflows low) (constant_overflows of || constant_overflows high) (truth_for (Compare cmp.Ge of low)) (truth_for (Compare cmp.Le of high))
      (compared_said cmp.Ge of low fits.0 fits.1 plain.0 plain.1) (compared_said cmp.Le of high fits.0 fits.2 plain.0 plain.2))
  cond_said (IsNull of) fits plain =
      truth_along (cond_shape db scope picks seats (IsNull of)) (constant_overflows of) (overflows (IsNull of)) (truth_for (IsNull of)) (or_none (constant_overflows of))
      (truth_one nil_bit (expr_shape db scope picks seats of) (constant_overflows of) (λ p. cell_for p of) (expr_truth of (expr_shape db scope picks seats of) fits plain (said of fits)))
  cond_said (Negation c) fits plain = truth_one negation (cond_shape db scope picks seats c) (overflows c) (truth_for c) (cond_said c fits plain)
  cond_said (Both left right) fits plain =
      truth_along (cond_shape db scope picks seats (Both left right)) (overflows left || overflows right) (overflows (Both left right)) (truth_for (Both left right)) (sym (any_append constant_overflows (cond_exprs left) (cond_exprs right)))
      (truth_two conjunction (cond_shape db scope picks seats left) (cond_shape db scope picks seats right) (overflows left) (overflows right) (truth_for left) (truth_for right) (cond_said left fits.0 plain.0) (cond_said right fits.1 plain.1))
  cond_said (Either left right) fits plain =
      truth_along (cond_shape db scope picks seats (Either left right)) (overflows left || overflows right) (overflows (Either left right)) (truth_for (Either left right)) (sym (any_append constant_overflows (cond_exprs left) (cond_exprs right)))
      (truth_two disjunction (cond_shape db scope picks seats left) (cond_shape db scope picks seats right) (overflows left) (overflows right) (truth_for left) (truth_for right) (cond_said left fits.0 plain.0) (cond_said right fits.1 plain.1))
