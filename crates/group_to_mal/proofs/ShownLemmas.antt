-- Behind the values of items, what a plan shows of them is what SQL means, overflow included.
use Rattle.std.proofs.Common.{◌≡◌, ℕ, ◌<◌, List, [], ◌++◌, length, map, filter, Bool, true, false, ◌||◌, cond, Option, Some, None, ap, sym, ◌∙◌, subst}
use Rattle.std.specs.List.{AllByRecursion, list_any}
use Rattle.std.specs.Option.{option_map}
use Rattle.std.proofs.lemmas.Bool.{or_left}
use Rattle.cell_core.specs.declared.cell.Cell.{Cell}
use Rattle.cell_core.specs.declared.operator.Instr.{Instr}
use Rattle.cell_core.specs.declared.operator.Arg.{Arg}
use Rattle.cell_core.specs.declared.operator.Value.{Value}
use Rattle.cell_core.specs.declared.table.Db.{Db}
use Rattle.cell_core.specs.Pairs.{Pairs}
use Rattle.mal_meaning.specs.Meaning.{plan_rows}
use Rattle.mal_meaning.specs.Output.{arranged}
use Rattle.sql_tree.specs.Tree.{ExprTree, CondTree}
use Rattle.sql_tree.specs.Exprs.{exprs_of_cond}
use Rattle.sql_definitions.specs.Answer as answer
use Rattle.mal_emit.specs.Emitters.{Emitter, followed}
use Rattle.mal_emit.specs.Machines.{over, ran, Holds, Told}
use Rattle.mal_emit.proofs.MachineLemmas.{stays, none_after}
use Rattle.mal_emit.proofs.PlanLemmas.{showing, rows_told}
use Rattle.pick_laws.specs.Shapes.{Shape, any_each, as_value, cells_at}
use Rattle.pick_laws.proofs.ListLemmas.{any_append, all_both, all_filter, map_agree_all}
use Rattle.pick_laws.proofs.ShapeLemmas.{rows_shown}
use Rattle.group_to_mal.specs.Columns.{values_by, with_bat, spread_first, undoubled}
use Rattle.group_to_mal.specs.QueryPlan.{kept_columns, items_by}
use Rattle.group_to_mal.proofs.ColumnLemmas.{Wide, kinds, each_first, first_told, undoubled_picks, undoubled_told}
use Rattle.group_to_mal.proofs.DistinctLemmas.{undoubled_rows}
use Rattle.group_to_mal.proofs.ItemLemmas.{first_kinds, first_each, first_cells, IsMeant, shapes_of, row_for, ShapesMean, AllMean, items_mean, passes, kept_on, KeptMeans, kept_means, Given, values_are, Known, kept_told}

module _ {P : Type 0} (picks : List P) (shape : ExprTree → Option (Shape P)) (overflows : ExprTree → Bool) (cell : P → ExprTree → Cell) (is_bat : ExprTree → Bool)
    (db : Db) (value : ExprTree → Emitter Arg) (args : List Arg) (are : List Value) (h : Arg) (b : Pairs) (wide : Wide b picks) (order : List (ℕ × Bool)) (limit : Option ℕ) where
  -- the rows that are shown after these instructions
  abbrev rows_behind : Emitter (List Arg) → List Instr → Option (List (List Cell))
  rows_behind emitter before = plan_rows (showing db (emitter.run before).0 (emitter.run before).1 order limit) db

  abbrev in_order : List (List Cell) → List (List Cell)
  in_order rows = arranged (showing db [] [] order limit).out rows

  none_behind : (emitter : Emitter (List Arg)) (before : List Instr) → ran (over db) [] before ≡ None → rows_behind emitter before ≡ None
  none_behind emitter before t = rows_told db (emitter.run before).0 (emitter.run before).1 order limit None (none_after (over db) (emitter.grows before) t)

  module _ (having : Option CondTree) (distinct : Bool) (items : List ExprTree) where
    -- the rows that SQL means
    abbrev pub rows_meant : List (List Cell)
    rows_meant = in_order (answer.undoubled distinct (map (row_for picks shape overflows cell is_bat items) (filter (passes picks shape overflows cell is_bat having) picks)))

    abbrev pub overflow_meant : Bool
    overflow_meant = list_any overflows (items ++ exprs_of_cond having)

    overflow_parts : (a b : Bool) → list_any overflows items ≡ a → list_any overflows (exprs_of_cond having) ≡ b → overflow_meant ≡ a || b
    overflow_parts a b e f = any_append overflows items (exprs_of_cond having) ∙ ap (λ x. x || list_any overflows (exprs_of_cond having)) e ∙ ap (λ x. a || x) f

    none_meant : overflow_meant ≡ true → None ≡ cond overflow_meant None (Some rows_meant)
    none_meant e = ap (λ b. cond b None (Some rows_meant)) (sym e)

    -- the last step: doubled rows go, and rows are shown
    end_shown : (shapes : List (Shape P)) (ps : List P) → any_each shapes ≡ true → AllByRecursion (λ p. cells_at shapes p ≡ row_for picks shape overflows cell is_bat items p) ps
        → (xs : List Arg) (before : List Instr) → Holds (over db) before xs (map (as_value ps) shapes)
        → rows_behind (undoubled distinct (kinds shapes) xs) before ≡ Some (in_order (answer.undoubled distinct (map (row_for picks shape overflows cell is_bat items) ps)))
    end_shown shapes ps some same xs before j =
        rows_told db ((undoubled distinct (kinds shapes) xs).run before).0 ((undoubled distinct (kinds shapes) xs).run before).1 order limit
        (Some (map (as_value (undoubled_picks distinct shapes ps)) shapes)) (undoubled_told db ps distinct xs shapes some before j)
        ∙ ap (λ rows. Some (in_order rows))
        (rows_shown shapes (undoubled_picks distinct shapes ps) some
        ∙ undoubled_rows distinct shapes ps some
        ∙ ap (answer.undoubled distinct) (map_agree_all (cells_at shapes) (row_for picks shape overflows cell is_bat items) ps same))

    module _ (given : AllByRecursion (Given picks shape overflows cell is_bat db value args are h b wide) (exprs_of_cond having)) (meant : AllByRecursion (IsMeant picks shape overflows cell is_bat) (exprs_of_cond having)) where
      kept_shown : (shapes : List (Shape P)) → any_each shapes ≡ true → AllByRecursion (λ p. cells_at shapes p ≡ row_for picks shape overflows cell is_bat items p) picks → list_any overflows items ≡ false
          → (ws : List Arg) (before : List Instr) → Known picks shape overflows cell is_bat db value args are h b wide before → Holds (over db) before ws (map (as_value picks) shapes)
          → rows_behind (followed (kept_columns value is_bat h having (kinds shapes) ws) (λ xs. undoubled distinct (kinds shapes) xs)) before ≡ cond overflow_meant None (Some rows_meant)
      kept_shown shapes some same fine ws before k j =
          by_kept (kept_on picks shape overflows cell is_bat having) (kept_told picks shape overflows cell is_bat db value args are h b wide having given meant ws shapes before k j) (kept_means picks shape overflows cell is_bat having meant)
        where
          keeps : Emitter (List Arg)
          keeps = kept_columns value is_bat h having (kinds shapes) ws

          by_kept : (o : Option (List P)) → Told (over db) (keeps.run before).0 (keeps.run before).1 (option_map (λ ps. map (as_value ps) shapes) o) → KeptMeans picks shape overflows cell is_bat having o
              → rows_behind (undoubled distinct (kinds shapes) (keeps.run before).1) (keeps.run before).0 ≡ cond overflow_meant None (Some rows_meant)
          by_kept None t m = none_behind (undoubled distinct (kinds shapes) (keeps.run before).1) (keeps.run before).0 t ∙ none_meant (overflow_parts false true fine m)
          by_kept (Some ps) t m =
              end_shown shapes ps some (subst (λ qs. AllByRecursion (λ p. cells_at shapes p ≡ row_for picks shape overflows cell is_bat items p) qs) (sym m.1)
              (all_filter (λ p. cells_at shapes p ≡ row_for picks shape overflows cell is_bat items p) (passes picks shape overflows cell is_bat having) picks same)) (keeps.run before).1 (keeps.run before).0 t
              ∙ ap (λ qs. Some (in_order (answer.undoubled distinct (map (row_for picks shape overflows cell is_bat items) qs)))) m.1
              ∙ ap (λ b. cond b None (Some rows_meant)) (sym (overflow_parts false false fine m.0))

      module _ (item_given : AllByRecursion (Given picks shape overflows cell is_bat db value args are h b wide) items) (item_meant : AllByRecursion (IsMeant picks shape overflows cell is_bat) items) (long : 0 < length items) where
        -- the columns from the items' values on, where these are BATs
        abbrev from_values : List Bool → List Arg → Emitter (List Arg)
        from_values bats vs =
            followed (spread_first h bats vs) (λ ws. followed (kept_columns value is_bat h having (with_bat bats) ws) (λ xs. undoubled distinct (with_bat bats) xs))

        abbrev from_first : List Bool → List Bool → List Arg → Emitter (List Arg)
        from_first bats more vs = followed (spread_first h bats vs) (λ ws. followed (kept_columns value is_bat h having more ws) (λ xs. undoubled distinct more xs))

        values_shown : (shapes : List (Shape P)) → ShapesMean picks shape overflows cell is_bat items shapes → (vs : List Arg) (before : List Instr) → Known picks shape overflows cell is_bat db value args are h b wide before
            → Holds (over db) before vs (map (as_value picks) shapes) → rows_behind (from_values (map is_bat items) vs) before ≡ cond overflow_meant None (Some rows_meant)
        values_shown shapes m vs before k j =
            subst (λ bats. rows_behind (from_values bats vs) before ≡ cond overflow_meant None (Some rows_meant)) m.bats
            (subst (λ more. rows_behind (from_first (kinds shapes) more vs) before ≡ cond overflow_meant None (Some rows_meant)) (first_kinds shapes)
            (kept_shown (each_first shapes) (first_each shapes (subst (λ n. 0 < n) (sym m.long) long))
            (all_both (λ p. cells_at shapes p ≡ row_for picks shape overflows cell is_bat items p) (λ p. cells_at shapes p ≡ row_for picks shape overflows cell is_bat items p) (λ p. cells_at (each_first shapes) p ≡ row_for picks shape overflows cell is_bat items p)
            (λ p e f. first_cells shapes p ∙ e) picks m.cells m.cells) m.fine (first.run before).1 (first.run before).0
            (record { values = stays (over db) (first.grows before) k.values one; heads = stays (over db) (first.grows before) k.heads one }) one))
          where
            first : Emitter (List Arg)
            first = spread_first h (kinds shapes) vs

            one : Holds (over db) (first.run before).0 (first.run before).1 (map (as_value picks) (each_first shapes))
            one = first_told db b picks wide h vs shapes before k.heads j

        -- the plan shows the rows that SQL means, or overflows where SQL does
        pub items_shown : (before : List Instr) → Known picks shape overflows cell is_bat db value args are h b wide before
            → rows_behind (items_by value is_bat h having distinct items) before ≡ cond overflow_meant None (Some rows_meant)
        items_shown before k =
            by_shapes (shapes_of picks shape overflows cell is_bat items) ((values_are picks shape overflows cell is_bat db value args are h b wide items item_given).told before k.values) (items_mean picks shape overflows cell is_bat items item_meant)
          where
            all : Emitter (List Arg)
            all = values_by value items

            by_shapes : (o : Option (List (Shape P))) → Told (over db) (all.run before).0 (all.run before).1 (option_map (map (as_value picks)) o) → AllMean picks shape overflows cell is_bat items o
                → rows_behind (from_values (map is_bat items) (all.run before).1) (all.run before).0 ≡ cond overflow_meant None (Some rows_meant)
            by_shapes None t m =
                none_behind (from_values (map is_bat items) (all.run before).1) (all.run before).0 t
                ∙ none_meant (any_append overflows items (exprs_of_cond having) ∙ or_left (list_any overflows items) (list_any overflows (exprs_of_cond having)) m)
            by_shapes (Some shapes) t m =
                values_shown shapes m (all.run before).1 (all.run before).0
                (record { values = stays (over db) (all.grows before) k.values t; heads = stays (over db) (all.grows before) k.heads t }) t
