-- The plan of a grouped query shows the rows of SQL's groups.
use Rattle.std.proofs.Common.{◌≡◌, ℕ, suc, ◌<◌, List, [], ◌∷◌, ◌++◌, length, map, filter, Bool, true, false, ◌&&◌, cond, Option, Some, None, refl, ap, sym, ◌∙◌, subst, arith}
use Rattle.std.specs.Prelude.{is_none}
use Rattle.std.specs.List.{AllByRecursion, list_any}
use Rattle.std.specs.Option.{option_map, option_and_then}
use Rattle.std.proofs.lemmas.Bool.{false≢true}
use Rattle.cell_core.specs.declared.cell.Cell.{Cell}
use Rattle.cell_core.specs.declared.operator.Instr.{Instr}
use Rattle.cell_core.specs.declared.operator.Op.TheVariants as op
use Rattle.cell_core.specs.declared.operator.Arg.{Arg}
use Rattle.cell_core.specs.declared.operator.Value.{Value}
use Rattle.cell_core.specs.declared.table.Db.{Db}
use Rattle.cell_core.specs.Calc.{all_or_none}
use Rattle.cell_core.specs.Same.{same_cell}
use Rattle.cell_core.specs.Groups.{distinct, group_heads_of}
use Rattle.mal_meaning.specs.Meaning.{plan_rows}
use Rattle.mal_meaning.specs.Output.{arranged}
use Rattle.sql_tree.specs.Tree.{ExprTree, CondTree}
use Rattle.sql_tree.specs.Tree.ExprTree.{ColumnOf}
use Rattle.sql_tree.specs.Exprs.{exprs_of_cond}
use Rattle.sql_tree.specs.declared.tree.ColRef.{ColRef}
use Rattle.sql_definitions.specs.Values.{Choice, value, column_cell, group_cell}
use Rattle.sql_definitions.specs.Truth.{holds}
use Rattle.sql_definitions.specs.Rows.{same_cells, groups_by, group_key, group_row}
use Rattle.sql_definitions.specs.Answer as answer
use Rattle.mal_emit.specs.Emitters.{Emitter}
use Rattle.mal_emit.specs.Machines.{over, Holds, GivesAll, Gives}
use Rattle.mal_emit.proofs.MachineLemmas.{At, step_to, rest_holds, first_holds, and_holds, stays}
use Rattle.mal_emit.proofs.GivesLemmas.{gives_all_same}
use Rattle.mal_emit.proofs.PlanLemmas.{showing}
use Rattle.pick_laws.specs.Shapes.{Shape, Alone, Each, as_value}
use Rattle.pick_laws.specs.Numbers.{through, alike, firsts, number_oids, all_same, Agrees}
use Rattle.pick_laws.proofs.ListLemmas.{all_both, all_any, all_along, map_after, map_agree, map_agree_all, filter_map_swaps, filter_agree_all}
use Rattle.pick_laws.proofs.GroupLemmas.{distinct_map, distinct_agree, heads_projected, all_distinct}
use Rattle.pick_laws.proofs.GroupNumbers.{group_numbers}
use Rattle.rows_to_mal.specs.Conjuncts.{Scope, expr_value}
use Rattle.group_to_mal.specs.Columns.{values_by, groups, heads}
use Rattle.group_to_mal.specs.Values.{group_value, is_grouped}
use Rattle.group_to_mal.specs.QueryPlan.{items_by, group_items}
use Rattle.group_to_mal.proofs.ColumnLemmas.{values_give, each, numbers, number_by, groups_told}
use Rattle.group_to_mal.proofs.TestLemmas.{Means, IsKind}
use Rattle.group_to_mal.proofs.ItemLemmas.{map_all, IsMeant, Given}
use Rattle.group_to_mal.proofs.ShownLemmas.{items_shown}
use Rattle.group_to_mal.proofs.GroupValueLemmas.{RowFits, FirstKnown, row_overflows, row_cell, group_of, group_shape, GroupFits, group_heads, group_gives, group_overflows, cell_of_group, group_means, group_kind}
use Rattle.cell_core.specs.Pairs.{Pairs}

-- what holds of all pairs, by the second elements first
transposed : {X : Type 0} (R : X → X → Type 0) (xs ys : List X) → AllByRecursion (λ x. AllByRecursion (λ y. R x y) ys) xs → AllByRecursion (λ y. AllByRecursion (λ x. R x y) xs) ys
transposed R [] ys a = all_any (λ y. Unit {0}) (λ y. tt) ys
transposed R (x ∷ xs) ys a = all_both (λ y. R x y) (λ y. AllByRecursion (λ z. R z y) xs) (λ y. AllByRecursion (λ z. R z y) (x ∷ xs)) (λ y b c. (b, c)) ys a.0 (transposed R xs ys a.1)

module _ (db : Db) (scope : Scope) (rows : List Arg) {P : Type 0} (picks : List P) (are : List Value) (shape : ExprTree → Option (Shape P)) (choice : P → Choice) where
  -- ## Keys

  -- the cells of a column for each pick
  pub record KeyIs (ref : ColRef) : Type 0 where
    pub cells : P → Cell
    pub is : shape (ColumnOf ref) ≡ Some (Each cells)
    pub same : AllByRecursion (λ p. cells p ≡ column_cell scope.called (choice p) ref) picks

  none_missing : (ref : ColRef) (ps : List P) → list_any (λ p. is_none (value scope.called (choice p) (ColumnOf ref))) ps ≡ false
  none_missing ref [] = refl
  none_missing ref (p ∷ ps) = none_missing ref ps

  key_is : (ref : ColRef) → RowFits db scope rows picks are shape choice (ColumnOf ref) → KeyIs ref
  key_is ref fits = by_shape (shape (ColumnOf ref)) refl fits.means fits.kind
    where
      by_shape : (o : Option (Shape P)) → shape (ColumnOf ref) ≡ o → Means picks o (row_overflows db scope rows picks are shape choice (ColumnOf ref)) (λ p. row_cell db scope rows picks are shape choice p (ColumnOf ref)) → IsKind o true → KeyIs ref
      by_shape None e m k = absurd (false≢true (sym (none_missing ref picks) ∙ m))
      by_shape (Some (Alone c)) e m k = cc
      by_shape (Some (Each w)) e m k = record { cells = w; is = e; same = m.1 }

  pub record KeysAre (refs : List ColRef) : Type 0 where
    pub columns : List (P → Cell)
    pub found : all_or_none (map shape (map ColumnOf refs)) ≡ Some (map Each columns)
    pub same : AllByRecursion (λ p. map (λ (w : P → Cell). w p) columns ≡ group_key scope.called refs (choice p)) picks
    pub long : length columns ≡ length refs

  pub keys_are : (refs : List ColRef) → AllByRecursion (λ ref. RowFits db scope rows picks are shape choice (ColumnOf ref)) refs → KeysAre refs
  keys_are [] a = record { columns = []; found = refl; same = all_any (λ p. [] ≡ group_key scope.called [] (choice p)) (λ p. refl) picks; long = refl }
  keys_are (ref ∷ refs) a =
      let key = key_is ref a.0 in
      let others = keys_are refs a.1 in
      record {
        columns = key.cells ∷ others.columns;
        found = ap (option_and_then (λ s. option_map (λ ss. s ∷ ss) (all_or_none (map shape (map ColumnOf refs))))) key.is ∙ ap (option_map (λ ss. Each key.cells ∷ ss)) others.found;
        same = all_both (λ p. key.cells p ≡ column_cell scope.called (choice p) ref) (λ p. map (λ (w : P → Cell). w p) others.columns ≡ group_key scope.called refs (choice p))
            (λ p. map (λ (w : P → Cell). w p) (key.cells ∷ others.columns) ≡ group_key scope.called (ref ∷ refs) (choice p))
            (λ p e f. ap (λ c. c ∷ map (λ (w : P → Cell). w p) others.columns) e ∙ ap (λ r. column_cell scope.called (choice p) ref ∷ r) f) picks key.same others.same;
        long = ap (λ n. suc n) others.long;
      }

  all_given : (refs : List ColRef) → AllByRecursion (λ ref. RowFits db scope rows picks are shape choice (ColumnOf ref)) refs
      → AllByRecursion (λ e. Gives (over db) rows are (expr_value scope rows e) (option_map (as_value picks) (shape e))) (map ColumnOf refs)
  all_given [] a = tt
  all_given (ref ∷ refs) a = (a.0.given, all_given refs a.1)

  keys_give : (refs : List ColRef) (a : AllByRecursion (λ ref. RowFits db scope rows picks are shape choice (ColumnOf ref)) refs)
      → GivesAll (over db) rows are (values_by (expr_value scope rows) (map ColumnOf refs)) (Some (map (each picks) (keys_are refs a).columns))
  keys_give refs a =
      gives_all_same (map_all (as_value picks) shape (map ColumnOf refs) ∙ ap (option_map (map (as_value picks))) (keys_are refs a).found ∙ ap Some (map_after (as_value picks) Each (keys_are refs a).columns))
      (values_give (expr_value scope rows) (λ e. option_map (as_value picks) (shape e)) (map ColumnOf refs) (all_given refs a))

  -- ## SQL's groups

  module _ (refs : List ColRef) (n : P → ℕ) where
    -- where numbers are the same just where keys are, the groups are SQL's
    pub groups_are : Agrees (alike n) (λ p q. same_cells (group_key scope.called refs (choice p)) (group_key scope.called refs (choice q))) picks picks
        → groups_by (group_key scope.called refs) (map choice picks) ≡ map (λ q. map choice (filter (λ p. alike n p q) picks)) (firsts n picks)
    groups_are agrees =
        ap (λ keys. map (λ cells. filter (λ c. same_cells (key c) cells) (map choice picks)) (distinct same_cells keys)) (map_after key choice picks)
        ∙ ap (map (λ cells. filter (λ c. same_cells (key c) cells) (map choice picks))) (distinct_map (λ p. key (choice p)) same_cells picks)
        ∙ map_after (λ cells. filter (λ c. same_cells (key c) cells) (map choice picks)) (λ p. key (choice p)) (distinct (through (λ p. key (choice p)) same_cells) picks)
        ∙ map_agree (λ q. filter (λ c. same_cells (key c) (key (choice q))) (map choice picks)) (λ q. map choice (filter (λ p. same_cells (key (choice p)) (key (choice q))) picks))
        (λ q. filter_map_swaps (λ c. same_cells (key c) (key (choice q))) choice picks) (distinct (through (λ p. key (choice p)) same_cells) picks)
        ∙ ap (map (λ q. map choice (filter (λ p. same_cells (key (choice p)) (key (choice q))) picks))) (sym (distinct_agree (alike n) (through (λ p. key (choice p)) same_cells) picks agrees))
        ∙ map_agree_all (λ q. map choice (filter (λ p. same_cells (key (choice p)) (key (choice q))) picks)) (λ q. map choice (filter (λ p. alike n p q) picks)) (firsts n picks)
        (all_distinct (alike n) (λ q. map choice (filter (λ p. same_cells (key (choice p)) (key (choice q))) picks) ≡ map choice (filter (λ p. alike n p q) picks)) picks
        (all_along (λ q. AllByRecursion (λ p. alike n p q ≡ same_cells (key (choice p)) (key (choice q))) picks)
        (λ q. map choice (filter (λ p. same_cells (key (choice p)) (key (choice q))) picks) ≡ map choice (filter (λ p. alike n p q) picks))
        (λ q a. ap (map choice) (sym (filter_agree_all (λ p. alike n p q) (λ p. same_cells (key (choice p)) (key (choice q))) picks a))) picks
        (transposed (λ p q. alike n p q ≡ same_cells (key (choice p)) (key (choice q))) picks picks agrees)))
      where
        key : Choice → List Cell
        key = group_key scope.called refs

  -- the numbers by the columns of the keys are the same just where the keys are
  keys_agree : (refs : List ColRef) (keys : KeysAre refs) (w : P → Cell) (ws : List (P → Cell)) → keys.columns ≡ w ∷ ws
      → Agrees (alike (number_by picks w ws)) (λ p q. same_cells (group_key scope.called refs (choice p)) (group_key scope.called refs (choice q))) picks picks
  keys_agree refs keys w ws e =
      all_both (λ p. AllByRecursion (λ q. alike n p q ≡ all_same (w ∷ ws) p q) picks) (λ p. cells p ≡ key p) (λ p. AllByRecursion (λ q. alike n p q ≡ same_cells (key p) (key q)) picks)
      (λ p a e. all_both (λ q. alike n p q ≡ all_same (w ∷ ws) p q) (λ q. cells q ≡ key q) (λ q. alike n p q ≡ same_cells (key p) (key q))
      (λ q b f. b ∙ by_cells (w ∷ ws) p q ∙ ap (λ x. same_cells x (cells q)) e ∙ ap (same_cells (key p)) f) picks a same) picks (group_numbers picks w ws) same
    where
      n : P → ℕ
      n = number_by picks w ws

      key : P → List Cell
      key p = group_key scope.called refs (choice p)

      cells : P → List Cell
      cells p = map (λ (v : P → Cell). v p) (w ∷ ws)

      same : AllByRecursion (λ p. cells p ≡ key p) picks
      same = subst (λ vs. AllByRecursion (λ p. map (λ (v : P → Cell). v p) vs ≡ key p) picks) e keys.same

      by_cells : (vs : List (P → Cell)) (p q : P) → all_same vs p q ≡ same_cells (map (λ (v : P → Cell). v p) vs) (map (λ (v : P → Cell). v q) vs)
      by_cells [] p q = refl
      by_cells (v ∷ vs) p q = ap (λ b. same_cell (v p) (v q) && b) (by_cells vs p q)

  -- ## The plan

  module _ (first : FirstKnown db scope rows picks are shape choice) (having : Option CondTree) (distinct : Bool) (items : List ExprTree) (order : List (ℕ × Bool)) (limit : Option ℕ) where
    abbrev Fits : (P → ℕ) → ExprTree → Type 0
    Fits n e = GroupFits db scope rows picks are shape choice n e

    -- the rows of SQL's groups, or an overflow
    abbrev pub groups_meant : List ColRef → Option (List (List Cell))
    groups_meant refs =
        cond (list_any (group_overflows db scope rows picks are shape choice (λ p. 0)) (items ++ exprs_of_cond having)) None
        (Some (arranged (showing db [] [] order limit).out (answer.undoubled distinct (map (group_row scope.called items) (filter (λ group. holds (group_cell scope.called group) having) (groups_by (group_key scope.called refs) (map choice picks)))))))

    module _ (n : P → ℕ) (fits : AllByRecursion (Fits n) items) (having_fits : AllByRecursion (Fits n) (exprs_of_cond having)) (long : 0 < length items) where
      abbrev shape_of : ExprTree → Option (Shape P)
      shape_of = group_shape db scope rows picks are shape choice n first.number

      abbrev overflows : ExprTree → Bool
      overflows = group_overflows db scope rows picks are shape choice n

      abbrev cell : P → ExprTree → Cell
      cell = cell_of_group db scope rows picks are shape choice n

      meant : (es : List ExprTree) → AllByRecursion (Fits n) es → AllByRecursion (IsMeant (firsts n picks) shape_of overflows cell is_grouped) es
      meant es a = all_along (Fits n) (IsMeant (firsts n picks) shape_of overflows cell is_grouped)
          (λ e f. record { means = group_means db scope rows picks are shape choice n first.number e f; kind = group_kind db scope rows picks are shape choice n first.number e f }) es a

      module _ (g h : Arg) where
        abbrev heads_pairs : Pairs
        heads_pairs = group_heads_of (number_oids n picks)

        abbrev known_args : List Arg
        known_args = h ∷ g ∷ rows

        abbrev known_are : List Value
        known_are = group_heads db scope rows picks are shape choice n ∷ numbers picks n ∷ are

        given : (es : List ExprTree) → AllByRecursion (Fits n) es
            → AllByRecursion (Given (firsts n picks) shape_of overflows cell is_grouped db (group_value scope rows g h) known_args known_are h heads_pairs (λ c. heads_projected n c picks)) es
        given es a = all_along (Fits n) (Given (firsts n picks) shape_of overflows cell is_grouped db (group_value scope rows g h) known_args known_are h heads_pairs (λ c. heads_projected n c picks))
            (λ e f. group_gives db scope rows picks are shape choice n g h first e f) es a

        behind_groups : (refs : List ColRef) → Agrees (alike n) (λ p q. same_cells (group_key scope.called refs (choice p)) (group_key scope.called refs (choice q))) picks picks
            → (before : List Instr) → Holds (over db) before known_args known_are
            → plan_rows (showing db ((items_by (group_value scope rows g h) is_grouped h having distinct items).run before).0 ((items_by (group_value scope rows g h) is_grouped h having distinct items).run before).1 order limit) db
            ≡ groups_meant refs
        behind_groups refs agrees before k =
            items_shown (firsts n picks) shape_of overflows cell is_grouped db (group_value scope rows g h) known_args known_are h heads_pairs (λ c. heads_projected n c picks) order limit having distinct items
            (given (exprs_of_cond having) having_fits) (meant (exprs_of_cond having) having_fits) (given items fits) (meant items fits) long before (record { values = k; heads = first_holds (over db) k })
            ∙ ap (λ rs. cond (list_any overflows (items ++ exprs_of_cond having)) None (Some (arranged (showing db [] [] order limit).out (answer.undoubled distinct rs))))
            (sym (map_after (group_row scope.called items) (group_of db scope rows picks are shape choice n) (filter (λ q. holds (cell q) having) (firsts n picks)))
            ∙ ap (map (group_row scope.called items)) (sym (filter_map_swaps (λ group. holds (group_cell scope.called group) having) (group_of db scope rows picks are shape choice n) (firsts n picks))
            ∙ ap (filter (λ group. holds (group_cell scope.called group) having)) (sym (groups_are refs n agrees))))

    -- after the rows, the plan of groups shows the rows of SQL's groups
    pub group_shown : (ref : ColRef) (refs : List ColRef) → AllByRecursion (λ ref. RowFits db scope rows picks are shape choice (ColumnOf ref)) (ref ∷ refs)
        → ((n : P → ℕ) → AllByRecursion (Fits n) items) → ((n : P → ℕ) → AllByRecursion (Fits n) (exprs_of_cond having)) → 0 < length items → (before : List Instr) → Holds (over db) before rows are
        → plan_rows (showing db ((group_items scope rows (ref ∷ refs) having distinct items).run before).0 ((group_items scope rows (ref ∷ refs) having distinct items).run before).1 order limit) db ≡ groups_meant (ref ∷ refs)
    group_shown ref refs key_fits fits having_fits long before k = by_columns keys.columns refl keys.long
      where
        all : List ColRef
        all = ref ∷ refs

        keys : KeysAre all
        keys = keys_are all key_fits

        values : Emitter (List Arg)
        values = values_by (expr_value scope rows) (map ColumnOf all)

        one : Holds (over db) (values.run before).0 (values.run before).1 (map (each picks) keys.columns)
        one = (keys_give all key_fits).told before k

        by_columns : (ws : List (P → Cell)) → keys.columns ≡ ws → length keys.columns ≡ length all
            → plan_rows (showing db ((group_items scope rows all having distinct items).run before).0 ((group_items scope rows all having distinct items).run before).1 order limit) db ≡ groups_meant all
        by_columns [] e l = absurd (none (length refs) (sym (ap length e) ∙ l))
          where
            none : (m : ℕ) → 0 ≡ suc m → ⊥
            none m h = omega arith
        by_columns (w ∷ ws) e l =
            behind_groups n (fits n) (having_fits n) long g h all (keys_agree all keys w ws e) ((heads g).run (grouping.run (values.run before).0).0).0
            (and_holds (over db) (first_holds (over db) three) (and_holds (over db) (rest_holds (over db) three) known))
          where
            n : P → ℕ
            n = number_by picks w ws

            grouping : Emitter Arg
            grouping = groups (values.run before).1

            g : Arg
            g = (grouping.run (values.run before).0).1

            h : Arg
            h = ((heads g).run (grouping.run (values.run before).0).0).1

            two : Holds (over db) (grouping.run (values.run before).0).0 (g ∷ []) (numbers picks n ∷ [])
            two = groups_told db picks (values.run before).1 w ws (values.run before).0 (subst (λ vs. Holds (over db) (values.run before).0 (values.run before).1 (map (each picks) vs)) e one)

            three : Holds (over db) ((heads g).run (grouping.run (values.run before).0).0).0 (h ∷ g ∷ []) (group_heads db scope rows picks are shape choice n ∷ numbers picks n ∷ [])
            three = step_to (over db) two op.GroupHeads (At 0 ∷ []) (Some (group_heads db scope rows picks are shape choice n)) refl

            known : Holds (over db) ((heads g).run (grouping.run (values.run before).0).0).0 rows are
            known = stays (over db) ((heads g).grows (grouping.run (values.run before).0).0) (stays (over db) (grouping.grows (values.run before).0) (stays (over db) (values.grows before) k one) two) three
