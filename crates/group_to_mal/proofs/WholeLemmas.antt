-- The plan of a query that is grouped without GROUP BY shows one row, over all rows so far, or none.
use Rattle.std.proofs.Common.{◌≡◌, ℕ, suc, zero, List, [], ◌∷◌, ◌++◌, length, map, filter, Bool, true, false, ◌&&◌, ◌||◌, cond, Option, Some, None, pos, refl, ap, sym, ◌∙◌, subst}
use Rattle.std.specs.Prelude.{is_none, take, unwrap_or, drop, slice_index_or}
use Rattle.std.specs.List.{AllByRecursion, list_any}
use Rattle.std.specs.Option.{option_map, option_and_then}
use Rattle.std.proofs.lemmas.List.{length-map}
use Rattle.cell_core.specs.declared.cell.Cell.{Cell}
use Rattle.cell_core.specs.declared.cell.Cell.TheVariants.{Nil, Int, Oid}
use Rattle.cell_core.specs.declared.operator.Instr.{Instr}
use Rattle.cell_core.specs.declared.operator.Op.TheVariants as op
use Rattle.cell_core.specs.declared.operator.Arg.{Arg}
use Rattle.cell_core.specs.declared.operator.Value.{Value}
use Rattle.cell_core.specs.declared.operator.Value.TheVariants.{One}
use Rattle.cell_core.specs.declared.table.Db.{Db}
use Rattle.cell_core.specs.Pairs.{Pairs, numbered, is_true, rows_of}
use Rattle.cell_core.specs.Groups.{counted, known}
use Rattle.mal_meaning.specs.Meaning.{value_over, plan_rows}
use Rattle.mal_meaning.specs.Output.{arranged, limited, unordered}
use Rattle.sql_tree.specs.Tree.{ExprTree, CondTree}
use Rattle.sql_tree.specs.Tree.ExprTree.{Literal, ColumnOf, Operator, AggregateAll, Aggregate}
use Rattle.sql_tree.specs.Tree.CondTree.{Compare, Within, IsNull, Negation, Both, Either}
use Rattle.sql_tree.specs.Exprs.{cond_exprs, exprs_of_cond}
use Rattle.sql_tree.specs.declared.tree.AggOp.{AggOp}
use Rattle.sql_tree.specs.declared.tree.AggOp.TheVariants as aggregate
use Rattle.sql_tree.specs.declared.tree.ArithOp.{ArithOp}
use Rattle.sql_tree.specs.declared.tree.ArithOp.TheVariants as arith_op
use Rattle.sql_definitions.specs.References.{is_constant}
use Rattle.sql_definitions.specs.Truth.{truth, holds}
use Rattle.sql_definitions.specs.Values.{Choice, value, cell_over, first_choice, group_cell, aggregated, result_of, constant_overflows, over_choices}
use Rattle.sql_definitions.specs.Rows.{group_row}
use Rattle.mal_emit.specs.Emitters.{Emitter, emits}
use Rattle.mal_emit.specs.Machines.{over, Holds, Told, Gives}
use Rattle.mal_emit.proofs.MachineLemmas.{At, stays, and_holds, none_after}
use Rattle.mal_emit.proofs.GivesLemmas.{emits_gives, constant_gives, then_maybe, behind_one, gives_same}
use Rattle.mal_emit.proofs.PlanLemmas.{showing, rows_told, test_told}
use Rattle.pick_laws.specs.Shapes.{Shape, Alone, Each, at, any_each, as_value}
use Rattle.pick_laws.proofs.ListLemmas.{any_append, all_along, map_after, map_agree_all}
use Rattle.pick_laws.proofs.NumberLemmas.{tails_of_numbered}
use Rattle.pick_laws.proofs.ShapeLemmas.{rows_are, shortest_is}
use Rattle.rows_to_mal.specs.Candidates.{calc_of}
use Rattle.rows_to_mal.specs.Conjuncts.{Scope, expr_value}
use Rattle.group_to_mal.specs.Columns.{values_by}
use Rattle.group_to_mal.specs.Values.{test_by, test_bat, total_of, first_of, whole_value}
use Rattle.group_to_mal.specs.QueryPlan.{ShownColumns, whole_items}
use Rattle.group_to_mal.proofs.ColumnLemmas.{kinds, each}
use Rattle.group_to_mal.proofs.TestLemmas.{Means, IsKind, test_shape, test_gives, test_means, test_kind}
use Rattle.group_to_mal.proofs.ItemLemmas.{IsMeant, shapes_of, ShapesMean, AllMean, items_mean, mean_all, kind_all, Given, values_are}
use Rattle.group_to_mal.proofs.GroupValueLemmas.{RowFits, FirstKnown, row_overflows, row_cell, argument_gives}
use Rattle.cell_core.specs.Relations.{projected}

-- ## Constants

-- an expression of literals alone
abbrev pub IsLiteral : ExprTree → Type 0
IsLiteral (Literal c) = Unit {0}
IsLiteral (Operator operator left right) = IsLiteral left × IsLiteral right
IsLiteral _ = ⊥

calc_is : (db : Db) (operator : ArithOp) (x y : Cell) → value_over db (calc_of operator) (One x ∷ One y ∷ []) ≡ option_map One (result_of operator x y)
calc_is db arith_op.Plus x y = refl
calc_is db arith_op.Minus x y = refl
calc_is db arith_op.Times x y = refl

literal_gives : (db : Db) (scope : Scope) (rows : List Arg) {are : List Value} (e : ExprTree) → IsLiteral e → Gives (over db) rows are (expr_value scope rows e) (option_map One (value [] [] e))
literal_gives db scope rows (Literal c) is = constant_gives c
literal_gives db scope rows (Operator operator left right) is =
    gives_same (again (value [] [] left) (value [] [] right))
    (then_maybe One (value [] [] left) (literal_gives db scope rows left is.0) (λ a x. then_maybe One (value [] [] right) (behind_one (literal_gives db scope rows right is.1)) (λ b y. emits_gives (calc_of operator) (At 1 ∷ At 0 ∷ []) (calc_is db operator x y))))
  where
    again : (o p : Option Cell) → option_and_then (λ x. option_and_then (λ y. option_map One (result_of operator x y)) p) o ≡ option_map One (option_and_then (λ x. option_and_then (λ y. result_of operator x y) p) o)
    again None p = refl
    again (Some x) None = refl
    again (Some x) (Some y) = refl
literal_gives db scope rows (ColumnOf ref) is = absurd is
literal_gives db scope rows (AggregateAll f) is = absurd is
literal_gives db scope rows (Aggregate f of) is = absurd is

module _ (scope : Scope) where
  literal_same : (choice : Choice) (e : ExprTree) → IsLiteral e → value scope.called choice e ≡ value [] [] e
  literal_same choice (Literal c) is = refl
  literal_same choice (Operator operator left right) is =
      ap (λ o. option_and_then (λ x. option_and_then (λ y. result_of operator x y) (value scope.called choice right)) o) (literal_same choice left is.0)
      ∙ ap (λ o. option_and_then (λ x. option_and_then (λ y. result_of operator x y) o) (value [] [] left)) (literal_same choice right is.1)
  literal_same choice (ColumnOf ref) is = absurd is
  literal_same choice (AggregateAll f) is = absurd is
  literal_same choice (Aggregate f of) is = absurd is

literal_constant : (e : ExprTree) → IsLiteral e → is_constant e ≡ true
literal_constant (Literal c) is = refl
literal_constant (Operator operator left right) is = ap (λ b. b && is_constant right) (literal_constant left is.0) ∙ literal_constant right is.1
literal_constant (ColumnOf ref) is = absurd is
literal_constant (AggregateAll f) is = absurd is
literal_constant (Aggregate f of) is = absurd is

literal_overflows : (e : ExprTree) → IsLiteral e → constant_overflows e ≡ is_none (value [] [] e)
literal_overflows (Literal c) is = refl
literal_overflows (Operator operator left right) is =
    ap (λ b. (b || constant_overflows right) || (is_constant whole && is_none (value [] [] whole))) (literal_overflows left is.0)
    ∙ ap (λ b. (is_none (value [] [] left) || b) || (is_constant whole && is_none (value [] [] whole))) (literal_overflows right is.1)
    ∙ ap (λ b. (is_none (value [] [] left) || is_none (value [] [] right)) || (b && is_none (value [] [] whole))) (literal_constant whole is)
    ∙ again (value [] [] left) (value [] [] right)
  where
    whole : ExprTree
    whole = Operator operator left right

    again : (o p : Option Cell) → (is_none o || is_none p) || (true && is_none (option_and_then (λ x. option_and_then (λ y. result_of operator x y) p) o)) ≡ is_none (option_and_then (λ x. option_and_then (λ y. result_of operator x y) p) o)
    again None p = refl
    again (Some x) None = refl
    again (Some x) (Some y) = refl
literal_overflows (ColumnOf ref) is = absurd is
literal_overflows (AggregateAll f) is = absurd is
literal_overflows (Aggregate f of) is = absurd is

-- ## Values over all rows

-- the one row of the output
abbrev pub once : List Bool
once = true ∷ []

module _ (db : Db) (scope : Scope) (rows : List Arg) {P : Type 0} (picks : List P) (are : List Value) (shape : ExprTree → Option (Shape P)) (choice : P → Choice) where
  abbrev pub WholeFits : ExprTree → Type 0
  WholeFits (AggregateAll f) = Unit {0}
  WholeFits (Aggregate f of) = RowFits db scope rows picks are shape choice of
  WholeFits (ColumnOf ref) = ⊥
  WholeFits (Literal c) = Unit {0}
  WholeFits (Operator operator left right) = IsLiteral (Operator operator left right)

  -- the cell of an expression over all picks
  abbrev pub whole_found : (P → ℕ) → ExprTree → Option Cell
  whole_found r (AggregateAll f) = Some (counted (map (λ p. Oid (r p)) picks))
  whole_found r (Aggregate f of) = option_map (λ s. aggregated f (map (at s) picks)) (shape of)
  whole_found r (ColumnOf ref) = None
  whole_found r (Literal c) = Some c
  whole_found r (Operator operator left right) = value [] [] (Operator operator left right)

  abbrev pub whole_shape : (P → ℕ) → ExprTree → Option (Shape Bool)
  whole_shape r e = option_map Alone (whole_found r e)

  total_gives : {v : Arg} (f : AggOp) (w : P → Cell) → Gives (over db) (v ∷ rows) (each picks w ∷ are) (emits (total_of f) (v ∷ [])) (Some (One (aggregated f (map w picks))))
  total_gives aggregate.Count w = emits_gives op.Count (At 0 ∷ []) (ap (λ cells. Some (One (aggregated aggregate.Count cells))) (tails_of_numbered (map w picks)))
  total_gives aggregate.Sum w = emits_gives op.Sum (At 0 ∷ []) (ap (λ cells. Some (One (aggregated aggregate.Sum cells))) (tails_of_numbered (map w picks)))
  total_gives aggregate.Min w = emits_gives op.Min (At 0 ∷ []) (ap (λ cells. Some (One (aggregated aggregate.Min cells))) (tails_of_numbered (map w picks)))
  total_gives aggregate.Max w = emits_gives op.Max (At 0 ∷ []) (ap (λ cells. Some (One (aggregated aggregate.Max cells))) (tails_of_numbered (map w picks)))

  as_one : (o : Option Cell) → option_map One o ≡ option_map (as_value once) (option_map Alone o)
  as_one None = refl
  as_one (Some c) = refl

  whole_gives : (first : FirstKnown db scope rows picks are shape choice) (e : ExprTree) → WholeFits e → Gives (over db) rows are (whole_value scope rows e) (option_map (as_value once) (whole_shape first.number e))
  whole_gives first (AggregateAll f) fits =
      emits_gives op.Count (At 0 ∷ []) (ap (λ v. value_over db op.Count (v ∷ [])) first.first ∙ ap (λ cells. Some (One (counted cells))) (tails_of_numbered (map (λ p. Oid (first.number p)) picks)))
  whole_gives first (Aggregate f of) fits =
      gives_same (again (shape of)) (then_maybe (λ s. each picks (at s)) (shape of) (argument_gives db scope rows picks are shape choice first of fits) (λ v s. total_gives f (at s)))
    where
      again : (o : Option (Shape P)) → option_and_then (λ s. Some (One (aggregated f (map (at s) picks)))) o ≡ option_map (as_value once) (option_map Alone (option_map (λ s. aggregated f (map (at s) picks)) o))
      again None = refl
      again (Some s) = refl
  whole_gives first (ColumnOf ref) fits = absurd fits
  whole_gives first (Literal c) fits = constant_gives c
  whole_gives first (Operator operator left right) fits = gives_same (as_one (value [] [] (Operator operator left right))) (literal_gives db scope rows (Operator operator left right) fits)

  -- ## What SQL means

  abbrev pub whole_group : List Choice
  whole_group = map choice picks

  abbrev pub whole_overflows : ExprTree → Bool
  whole_overflows e = constant_overflows e || list_any (λ x. list_any (λ p. is_none (value scope.called (choice p) x)) picks) (over_choices e)

  abbrev pub whole_cell : Bool → ExprTree → Cell
  whole_cell b e = group_cell scope.called whole_group e

  or_alone : (a b : Bool) → a || b ≡ a || (b || false)
  or_alone true b = refl
  or_alone false true = refl
  or_alone false false = refl

  all_known : (r : P → ℕ) (ps : List P) → known (map (λ p. Oid (r p)) ps) ≡ map (λ p. Oid (r p)) ps
  all_known r [] = refl
  all_known r (p ∷ ps) = ap (λ cells. Oid (r p) ∷ cells) (all_known r ps)

  total_means : (f : AggOp) (of : ExprTree) → RowFits db scope rows picks are shape choice of
      → Means once (option_map Alone (option_map (λ s. aggregated f (map (at s) picks)) (shape of))) (whole_overflows (Aggregate f of)) (λ b. whole_cell b (Aggregate f of))
  total_means f of fits =
      subst (λ b. Means once (option_map Alone (option_map (λ s. aggregated f (map (at s) picks)) (shape of))) b (λ b. whole_cell b (Aggregate f of)))
      (or_alone (constant_overflows of) (list_any (λ p. is_none (value scope.called (choice p) of)) picks)) (by_shape (shape of) fits.means)
    where
      by_shape : (o : Option (Shape P)) → Means picks o (row_overflows db scope rows picks are shape choice of) (λ p. row_cell db scope rows picks are shape choice p of)
          → Means once (option_map Alone (option_map (λ s. aggregated f (map (at s) picks)) o)) (row_overflows db scope rows picks are shape choice of) (λ b. whole_cell b (Aggregate f of))
      by_shape None m = m
      by_shape (Some s) m = (
        m.0,
        (ap (aggregated f) (map_agree_all (at s) (λ p. cell_over scope.called (choice p) of) picks m.1 ∙ sym (map_after (λ c. cell_over scope.called c of) choice picks)), tt),
      )

  literal_means : (e : ExprTree) → IsLiteral e → (o : Option Cell) → value [] [] e ≡ o → Means once (option_map Alone o) (constant_overflows e || (list_any (λ p. is_none (value scope.called (choice p) e)) picks || false)) (λ b. cell_over scope.called (first_choice whole_group) e)
  literal_means e is None f = ap (λ b. b || (list_any (λ p. is_none (value scope.called (choice p) e)) picks || false)) (literal_overflows e is ∙ ap is_none f)
  literal_means e is (Some c) f = (
    ap (λ b. b || (list_any (λ p. is_none (value scope.called (choice p) e)) picks || false)) (literal_overflows e is ∙ ap is_none f) ∙ ap (λ b. b || false) (none picks),
    (sym (ap (λ o. unwrap_or o Nil) (literal_same scope (first_choice whole_group) e is ∙ f)), tt),
  )
    where
      none : (ps : List P) → list_any (λ p. is_none (value scope.called (choice p) e)) ps ≡ false
      none [] = refl
      none (p ∷ ps) = ap (λ o. is_none o || list_any (λ p. is_none (value scope.called (choice p) e)) ps) (literal_same scope (choice p) e is ∙ f) ∙ none ps

  whole_means : (r : P → ℕ) (e : ExprTree) → WholeFits e → Means once (whole_shape r e) (whole_overflows e) (λ b. whole_cell b e)
  whole_means r (AggregateAll f) fits = (refl, (ap (λ m. Int (pos m)) (ap length (all_known r picks) ∙ length-map picks (λ p. Oid (r p)) ∙ sym (length-map picks choice)), tt))
  whole_means r (Aggregate f of) fits = total_means f of fits
  whole_means r (ColumnOf ref) fits = absurd fits
  whole_means r (Literal c) fits = literal_means (Literal c) tt (Some c) refl
  whole_means r (Operator operator left right) fits = literal_means (Operator operator left right) fits (value [] [] (Operator operator left right)) refl

  abbrev never_bat : ExprTree → Bool
  never_bat e = false

  alone_kind : (o : Option Cell) → IsKind {P = Bool} (option_map Alone o) false
  alone_kind None = tt
  alone_kind (Some c) = refl

  meant : (r : P → ℕ) (es : List ExprTree) → AllByRecursion WholeFits es → AllByRecursion (IsMeant once (whole_shape r) whole_overflows whole_cell never_bat) es
  meant r es a = all_along WholeFits (IsMeant once (whole_shape r) whole_overflows whole_cell never_bat) (λ e f. record { means = whole_means r e f; kind = alone_kind (whole_found r e) }) es a

  -- ## The row

  one_head : Pairs
  one_head = (Oid 0, Nil) ∷ []

  one_wide : (c : Cell) → projected c one_head ≡ numbered (map (λ b. c) once)
  unfolding one_head
  one_wide c = refl

  module _ (first : FirstKnown db scope rows picks are shape choice) (order : List (ℕ × Bool)) (limit : Option ℕ) where
    abbrev shape_of : ExprTree → Option (Shape Bool)
    shape_of = whole_shape first.number

    given : (es : List ExprTree) → AllByRecursion WholeFits es → AllByRecursion (Given once shape_of whole_overflows whole_cell never_bat db (whole_value scope rows) rows are (first_of rows) one_head one_wide) es
    given es a = all_along WholeFits (Given once shape_of whole_overflows whole_cell never_bat db (whole_value scope rows) rows are (first_of rows) one_head one_wide) (λ e f. whole_gives first e f) es a

    abbrev in_order : List (List Cell) → List (List Cell)
    in_order rs = arranged (showing db [] [] order limit).out rs

    any_kinds : (shapes : List (Shape Bool)) (items : List ExprTree) → kinds shapes ≡ map never_bat items → any_each shapes ≡ false
    any_kinds [] items e = refl
    any_kinds (s ∷ shapes) [] e = cc
    any_kinds (Alone c ∷ shapes) (item ∷ items) e = any_kinds shapes items (ap (drop 1) e)
    any_kinds (Each f ∷ shapes) (item ∷ items) e = absurd (clash (ap (λ bs. slice_index_or bs 0 true) e))
      where
        clash : true ≡ false → ⊥
        clash e = cc

    -- scalars alone are one row
    one_row : (items : List ExprTree) (shapes : List (Shape Bool)) → ShapesMean once shape_of whole_overflows whole_cell never_bat items shapes → unordered (map (as_value once) shapes) ≡ group_row scope.called items whole_group ∷ []
    one_row items shapes m =
        ap (λ o. rows_of (map (as_value once) shapes) (unwrap_or o 1)) (shortest_is shapes once ∙ ap (λ b. cond b (Some 1) None) (any_kinds shapes items m.bats))
        ∙ rows_are shapes once ∙ ap (λ r. r ∷ []) m.cells.0

    -- the rows of a plan with this test, or none
    abbrev rows_by : List Instr × ShownColumns → Option (List (List Cell))
    rows_by emitted = plan_rows (record { instrs = emitted.0; out = record { cols = emitted.1.0; keep = emitted.1.1; order = order; limit = limit } }) db

    -- SQL's one group
    abbrev pub whole_meant : Option CondTree → List ExprTree → Option (List (List Cell))
    whole_meant having items =
        cond (list_any whole_overflows (items ++ exprs_of_cond having)) None
        (Some (in_order (map (group_row scope.called items) (filter (λ group. holds (group_cell scope.called group) having) (whole_group ∷ [])))))

    no_rows : in_order [] ≡ []
    no_rows = by_limit limit
      where
        none_taken : (rs : List (List Cell)) (n : ℕ) → rs ≡ [] → take n rs ≡ []
        none_taken rs zero e = refl
        none_taken rs (suc n) e = ap (take (suc n)) e

        by_limit : (l : Option ℕ) → limited l [] ≡ []
        by_limit None = refl
        by_limit (Some n) = none_taken [] n refl

    never_test : (c : CondTree) → test_bat never_bat c ≡ false
    never_test (Compare operator left right) = refl
    never_test (Within of low high) = refl
    never_test (IsNull of) = refl
    never_test (Negation c) = never_test c
    never_test (Both left right) = ap (λ b. b || test_bat never_bat right) (never_test left) ∙ never_test right
    never_test (Either left right) = ap (λ b. b || test_bat never_bat right) (never_test left) ∙ never_test right

    module _ (items : List ExprTree) (fits : AllByRecursion WholeFits items) where
      abbrev columns : Emitter (List Arg)
      columns = values_by (whole_value scope rows) items

      abbrev overflow_of : Option CondTree → Bool
      overflow_of having = list_any whole_overflows (items ++ exprs_of_cond having)

      overflow_is : (having : Option CondTree) (a b : Bool) → list_any whole_overflows items ≡ a → list_any whole_overflows (exprs_of_cond having) ≡ b → overflow_of having ≡ a || b
      overflow_is having a b e f = any_append whole_overflows items (exprs_of_cond having) ∙ ap (λ x. x || list_any whole_overflows (exprs_of_cond having)) e ∙ ap (λ x. a || x) f

      overflow_first : (having : Option CondTree) → list_any whole_overflows items ≡ true → overflow_of having ≡ true
      overflow_first having e = any_append whole_overflows items (exprs_of_cond having) ∙ ap (λ x. x || list_any whole_overflows (exprs_of_cond having)) e

      none_meant : (having : Option CondTree) → overflow_of having ≡ true → None ≡ whole_meant having items
      none_meant having e = ap (λ b. cond b None (Some (in_order (map (group_row scope.called items) (filter (λ group. holds (group_cell scope.called group) having) (whole_group ∷ [])))))) (sym e)

      rows_meant : (having : Option CondTree) → overflow_of having ≡ false
          → Some (in_order (map (group_row scope.called items) (filter (λ group. holds (group_cell scope.called group) having) (whole_group ∷ [])))) ≡ whole_meant having items
      rows_meant having e = ap (λ b. cond b None (Some (in_order (map (group_row scope.called items) (filter (λ group. holds (group_cell scope.called group) having) (whole_group ∷ [])))))) (sym e)

      module _ (vs : List Arg) (before : List Instr) (still : (shapes : List (Shape Bool)) → Holds (over db) before vs (map (as_value once) shapes) → Holds (over db) before rows are) where
        plain_shown : (o : Option (List (Shape Bool))) → Told (over db) before vs (option_map (map (as_value once)) o) → AllMean once shape_of whole_overflows whole_cell never_bat items o
            → rows_by (before, (vs, None)) ≡ whole_meant None items
        plain_shown None t m = rows_told db before vs order limit None t ∙ none_meant None (overflow_first None m)
        plain_shown (Some shapes) t m =
            rows_told db before vs order limit (Some (map (as_value once) shapes)) t ∙ ap (λ rs. Some (in_order rs)) (one_row items shapes m) ∙ rows_meant None (overflow_is None false false m.fine refl)

        module _ (c : CondTree) (c_fits : AllByRecursion WholeFits (cond_exprs c)) where
          abbrev test : Emitter Arg
          test = test_by (whole_value scope rows) c

          by_truth : (shapes : List (Shape Bool)) → ShapesMean once shape_of whole_overflows whole_cell never_bat items shapes → (x : Cell) → x ≡ truth (whole_cell true) c
              → cond (is_true x) (in_order (unordered (map (as_value once) shapes))) [] ≡ in_order (map (group_row scope.called items) (filter (λ group. holds (group_cell scope.called group) (Some c)) (whole_group ∷ [])))
          by_truth shapes m x e =
              ap (λ y. cond (is_true y) (in_order (unordered (map (as_value once) shapes))) []) e ∙ ap (λ rs. cond (is_true (truth (whole_cell true) c)) (in_order rs) []) (one_row items shapes m)
              ∙ by_case (is_true (truth (whole_cell true) c))
            where
              by_case : (b : Bool) → cond b (in_order (group_row scope.called items whole_group ∷ [])) [] ≡ in_order (map (group_row scope.called items) (cond b (whole_group ∷ []) []))
              by_case true = refl
              by_case false = sym no_rows

          tested : (shapes : List (Shape Bool)) → ShapesMean once shape_of whole_overflows whole_cell never_bat items shapes → Holds (over db) before vs (map (as_value once) shapes)
              → (o : Option (Shape Bool)) → Told (over db) (test.run before).0 ((test.run before).1 ∷ rows) (option_map (λ v. v ∷ are) (option_map (as_value once) o))
              → Means once o (list_any whole_overflows (cond_exprs c)) (λ b. truth (whole_cell b) c) → IsKind o false → rows_by ((test.run before).0, (vs, Some (test.run before).1)) ≡ whole_meant (Some c) items
          tested shapes m j None t means kind = test_told db (test.run before).0 (test.run before).1 vs order limit None t ∙ none_meant (Some c) (overflow_is (Some c) false true m.fine means)
          tested shapes m j (Some (Each f)) t means kind = cc
          tested shapes m j (Some (Alone x)) t means kind =
              test_told db (test.run before).0 (test.run before).1 vs order limit (Some (x, map (as_value once) shapes)) (and_holds (over db) t (stays (over db) (test.grows before) j t))
              ∙ ap Some (by_truth shapes m x means.1.0) ∙ rows_meant (Some c) (overflow_is (Some c) false false m.fine means.0)

          having_shown : (o : Option (List (Shape Bool))) → Told (over db) before vs (option_map (map (as_value once)) o) → AllMean once shape_of whole_overflows whole_cell never_bat items o
              → rows_by ((test.run before).0, (vs, Some (test.run before).1)) ≡ whole_meant (Some c) items
          having_shown None t m = test_told db (test.run before).0 (test.run before).1 vs order limit None (none_after (over db) (test.grows before) t) ∙ none_meant (Some c) (overflow_first (Some c) m)
          having_shown (Some shapes) t m =
              tested shapes m t (test_shape once shape_of c) ((test_gives once shape_of db (whole_value scope rows) rows are c (given (cond_exprs c) c_fits)).told before (still shapes t))
              (test_means once shape_of whole_overflows whole_cell c (mean_all once shape_of whole_overflows whole_cell never_bat (cond_exprs c) (meant first.number (cond_exprs c) c_fits)))
              (subst (λ b. IsKind (test_shape once shape_of c) b) (never_test c) (test_kind once shape_of never_bat c (kind_all once shape_of whole_overflows whole_cell never_bat (cond_exprs c) (meant first.number (cond_exprs c) c_fits))))

      -- after the rows, the plan shows the row of the one group where HAVING is true of it, or overflows where SQL does
      pub whole_shown : (having : Option CondTree) → AllByRecursion WholeFits (exprs_of_cond having) → (before : List Instr) → Holds (over db) before rows are
          → rows_by ((whole_items scope rows having items).run before) ≡ whole_meant having items
      whole_shown having having_fits before k = by_having having having_fits
        where
          told : Told (over db) (columns.run before).0 (columns.run before).1 (option_map (map (as_value once)) (shapes_of once shape_of whole_overflows whole_cell never_bat items))
          told = (values_are once shape_of whole_overflows whole_cell never_bat db (whole_value scope rows) rows are (first_of rows) one_head one_wide items (given items fits)).told before k

          means : AllMean once shape_of whole_overflows whole_cell never_bat items (shapes_of once shape_of whole_overflows whole_cell never_bat items)
          means = items_mean once shape_of whole_overflows whole_cell never_bat items (meant first.number items fits)

          -- the rows stay known where the columns have values
          still : (shapes : List (Shape Bool)) → Holds (over db) (columns.run before).0 (columns.run before).1 (map (as_value once) shapes) → Holds (over db) (columns.run before).0 rows are
          still shapes j = stays (over db) (columns.grows before) k j

          by_having : (having : Option CondTree) → AllByRecursion WholeFits (exprs_of_cond having) → rows_by ((whole_items scope rows having items).run before) ≡ whole_meant having items
          by_having None a = plain_shown (columns.run before).1 (columns.run before).0 still (shapes_of once shape_of whole_overflows whole_cell never_bat items) told means
          by_having (Some c) a = having_shown (columns.run before).1 (columns.run before).0 still c a (shapes_of once shape_of whole_overflows whole_cell never_bat items) told means
