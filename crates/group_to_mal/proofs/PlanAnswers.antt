-- The plan of a query means the query's answer, overflow included, where the rows that it keeps are the choices that SQL keeps.
use Rattle.std.proofs.Common.{◌≡◌, ℕ, ◌<◌, List, [], ◌∷◌, ◌++◌, length, map, filter, Bool, true, false, not, ◌||◌, cond, Option, Some, None, refl, ap, sym, ◌∙◌, subst}
use Rattle.std.specs.Prelude.{is_none, ◌==◌, if◌then◌else◌}
use Rattle.std.specs.List.{AllByRecursion, list_any}
use Rattle.std.specs.Option.{option_map}
use Rattle.std.proofs.lemmas.Option.{same_Some}
use Rattle.cell_core.specs.declared.cell.Cell.{Cell}
use Rattle.cell_core.specs.declared.cell.Cell.TheVariants.{Oid}
use Rattle.cell_core.specs.declared.operator.Instr.{Instr}
use Rattle.cell_core.specs.declared.operator.Arg.{Arg}
use Rattle.cell_core.specs.declared.operator.Value.{Value}
use Rattle.cell_core.specs.declared.operator.Value.TheVariants.{Bat}
use Rattle.cell_core.specs.declared.table.Db.{Db}
use Rattle.cell_core.specs.Pairs.{Pairs, numbered}
use Rattle.cell_core.specs.Relations.{projected}
use Rattle.cell_core.specs.Sorted.{sorted_by}
use Rattle.cell_core.specs.Keys.{is_keyed_below}
use Rattle.mal_meaning.specs.Meaning.{plan_rows}
use Rattle.sql_tree.specs.Tree.{ExprTree, QueryTree}
use Rattle.sql_tree.specs.Tree.ExprTree.{Literal, ColumnOf, Operator, AggregateAll, Aggregate}
use Rattle.sql_tree.specs.Exprs.{exprs_of_cond}
use Rattle.sql_tree.specs.declared.tree.ColRef.{ColRef}
use Rattle.sql_definitions.specs.declared.source.Source.{Source}
use Rattle.sql_definitions.specs.Sources.{NamedSource}
use Rattle.sql_definitions.specs.References.{item_exprs}
use Rattle.sql_definitions.specs.References as references
use Rattle.sql_definitions.specs.Values.{Choice, value, cell_over, group_cell, constant_overflows, over_choices}
use Rattle.sql_definitions.specs.Truth.{holds}
use Rattle.sql_definitions.specs.Kept.{choices, cond_overflows, is_kept}
use Rattle.sql_definitions.specs.Rows.{choice_row, group_row, groups_by, group_key, rows_from, shown_exprs}
use Rattle.sql_definitions.specs.Answer.{arranged, limited, undoubled, key_places}
use Rattle.mal_emit.specs.Emitters.{Emitter}
use Rattle.mal_emit.specs.Machines.{over, ran, Holds, Told, GivesAll}
use Rattle.mal_emit.proofs.MachineLemmas.{At, start, none_after, refs_hold}
use Rattle.mal_emit.proofs.PlanLemmas.{showing, rows_told, test_told}
use Rattle.pick_laws.specs.Shapes.{Shape}
use Rattle.pick_laws.proofs.ListLemmas.{all_along, filter_all, map_after}
use Rattle.pick_laws.proofs.KeepLemmas.{projected_is}
use Rattle.rows_to_mal.specs.Conjuncts.{Scope, expr_value}
use Rattle.rows_to_mal.specs.Rows.{kept_rows}
use Rattle.group_to_mal.specs.Values.{first_of}
use Rattle.group_to_mal.specs.QueryPlan.{ShownColumns, always, has_column, row_items, group_items, whole_items, shown_items, query_shown, plan_of, query_plan}
use Rattle.group_to_mal.proofs.TestLemmas.{Means}
use Rattle.group_to_mal.proofs.ItemLemmas.{IsMeant, Given}
use Rattle.group_to_mal.proofs.ShownLemmas.{items_shown}
use Rattle.group_to_mal.proofs.GroupValueLemmas.{RowFits, FirstKnown, GroupFits}
use Rattle.group_to_mal.proofs.GroupItemLemmas.{group_shown}
use Rattle.group_to_mal.proofs.WholeLemmas.{WholeFits, IsLiteral, whole_shown}
use Rattle.group_to_mal.proofs.AnswerLemmas.{answer_from, overflows_for_picks, overflows_early, answer_by_picks, no_having}

-- ## Which items a query may have

module _ (Fits : ExprTree → Type 0) where
  -- no aggregate, and its columns are there
  abbrev pub RowItem : ExprTree → Type 0
  RowItem (AggregateAll f) = ⊥
  RowItem (Aggregate f of) = ⊥
  RowItem (Literal c) = Fits (Literal c)
  RowItem (ColumnOf ref) = Fits (ColumnOf ref)
  RowItem (Operator operator left right) = Fits (Operator operator left right)

  -- an aggregate of what fits, or what fits
  abbrev pub GroupItem : ExprTree → Type 0
  GroupItem (AggregateAll f) = Unit {0}
  GroupItem (Aggregate f of) = Fits of
  GroupItem (Literal c) = Fits (Literal c)
  GroupItem (ColumnOf ref) = Fits (ColumnOf ref)
  GroupItem (Operator operator left right) = Fits (Operator operator left right)

  -- an aggregate of what fits, or literals
  abbrev pub WholeItem : ExprTree → Type 0
  WholeItem (AggregateAll f) = Unit {0}
  WholeItem (Aggregate f of) = Fits of
  WholeItem (ColumnOf ref) = ⊥
  WholeItem (Literal c) = Unit {0}
  WholeItem (Operator operator left right) = IsLiteral (Operator operator left right)

module _ (db : Db) (called : List NamedSource) (lists : List (List (List Cell))) (srcs : List Source) (query : QueryTree) {P : Type 0} (choice : P → Choice) (columns : List P → List Value) (shape : List P → ExprTree → Option (Shape P)) (Fits : ExprTree → Type 0) where
  abbrev pub scope : Scope
  scope = record { called = called; sources = srcs }

  abbrev items : List ExprTree
  items = item_exprs scope.called query

  abbrev order : List (ℕ × Bool)
  order = key_places scope.called query

  -- what the plan shows of these instructions
  abbrev shown : List Instr × ShownColumns → Option (List (List Cell))
  shown emitted = plan_rows (plan_of scope query emitted) db

  -- the items and HAVING are of columns that are there, with aggregates where the form allows them
  pub record QueryFits : Type 0 where
    pub single : references.is_grouped query ≡ false → AllByRecursion (RowItem Fits) items
    pub whole : references.is_grouped query ≡ true → (length query.groups == 0) ≡ true → AllByRecursion (WholeItem Fits) items × AllByRecursion (WholeItem Fits) (exprs_of_cond query.having)
    pub grouped : references.is_grouped query ≡ true → (length query.groups == 0) ≡ false
        → AllByRecursion (λ ref. Fits (ColumnOf ref)) query.groups × AllByRecursion (GroupItem Fits) items × AllByRecursion (GroupItem Fits) (exprs_of_cond query.having)
    pub some : 0 < length items

  -- after the rows that a query keeps: what is known of them
  pub record RowsKnown (picks : List P) : Type 0 where
    pub fits : (rows : List Arg) (e : ExprTree) → Fits e → RowFits db scope rows picks (columns picks) (shape picks) choice e
    pub first : (rows : List Arg) → FirstKnown db scope rows picks (columns picks) (shape picks) choice

  module _ (picks : List P) (known : RowsKnown picks) (rows : List Arg) (before : List Instr) (k : Holds (over db) before rows (columns picks)) where
    abbrev overflows : ExprTree → Bool
    overflows = overflows_for_picks called lists query choice picks

    abbrev row_shape : ExprTree → Option (Shape P)
    row_shape = shape picks

    -- ## Not grouped

    abbrev cell : P → ExprTree → Cell
    cell p e = cell_over scope.called (choice p) e

    or_alone : (a b : Bool) → a || b ≡ a || (b || false)
    or_alone true b = refl
    or_alone false true = refl
    or_alone false false = refl

    single_meant : (e : ExprTree) → over_choices e ≡ e ∷ [] → RowFits db scope rows picks (columns picks) row_shape choice e → IsMeant picks row_shape overflows cell has_column e
    single_meant e single fits = record {
      means = subst (λ b. Means picks (row_shape e) b (λ p. cell p e))
          (or_alone (constant_overflows e) (list_any (λ p. is_none (value scope.called (choice p) e)) picks) ∙ ap (λ es. constant_overflows e || list_any (λ x. list_any (λ p. is_none (value scope.called (choice p) x)) picks) es) (sym single)) fits.means;
      kind = fits.kind;
    }

    row_meant : (e : ExprTree) → RowItem Fits e → IsMeant picks row_shape overflows cell has_column e
    row_meant (Literal c) fits = single_meant (Literal c) refl (known.fits rows (Literal c) fits)
    row_meant (ColumnOf ref) fits = single_meant (ColumnOf ref) refl (known.fits rows (ColumnOf ref) fits)
    row_meant (Operator operator left right) fits = single_meant (Operator operator left right) refl (known.fits rows (Operator operator left right) fits)
    row_meant (AggregateAll f) fits = absurd fits
    row_meant (Aggregate f of) fits = absurd fits

    abbrev first_bat : Pairs
    first_bat = numbered (map (λ p. Oid ((known.first rows).number p)) picks)

    first_wide : (c : Cell) → projected c first_bat ≡ numbered (map (λ p. c) picks)
    first_wide c = projected_is c (λ p. Oid ((known.first rows).number p)) picks

    row_given : (e : ExprTree) → RowItem Fits e → Given picks row_shape overflows cell has_column db (expr_value scope rows) rows (columns picks) (first_of rows) first_bat first_wide e
    row_given (Literal c) fits = (known.fits rows (Literal c) fits).given
    row_given (ColumnOf ref) fits = (known.fits rows (ColumnOf ref) fits).given
    row_given (Operator operator left right) fits = (known.fits rows (Operator operator left right) fits).given
    row_given (AggregateAll f) fits = absurd fits
    row_given (Aggregate f of) fits = absurd fits

    -- the first table's rows are among what is known
    first_holds : Holds (over db) before (first_of rows ∷ []) (Bat first_bat ∷ [])
    first_holds = subst (λ v. Holds (over db) before (first_of rows ∷ []) (v ∷ [])) (known.first rows).first (refs_hold (over db) k (At 0 ∷ []))

    rows_answer : AllByRecursion (RowItem Fits) items → 0 < length items
        → plan_rows (showing db ((row_items scope rows query.distinct items).run before).0 ((row_items scope rows query.distinct items).run before).1 order query.limit) db
        ≡ cond (list_any overflows (items ++ [])) None (Some (arranged scope.called query (map (choice_row scope.called items) (map choice picks))))
    rows_answer fits long =
        items_shown picks row_shape overflows cell has_column db (expr_value scope rows) rows (columns picks) (first_of rows) first_bat first_wide order query.limit None query.distinct items tt tt
        (all_along (RowItem Fits) (Given picks row_shape overflows cell has_column db (expr_value scope rows) rows (columns picks) (first_of rows) first_bat first_wide) row_given items fits)
        (all_along (RowItem Fits) (IsMeant picks row_shape overflows cell has_column) row_meant items fits) long before (record { values = k; heads = first_holds })
        ∙ ap (λ rs. cond (list_any overflows (items ++ [])) None (Some (arranged scope.called query rs)))
        (ap (map (λ p. map (cell p) items)) (filter_all picks) ∙ sym (map_after (choice_row scope.called items) choice picks))

    -- ## Grouped

    row_of_group : (n : P → ℕ) (e : ExprTree) → GroupItem Fits e → GroupFits db scope rows picks (columns picks) row_shape choice n e
    row_of_group n (AggregateAll f) fits = tt
    row_of_group n (Aggregate f of) fits = known.fits rows of fits
    row_of_group n (Literal c) fits = known.fits rows (Literal c) fits
    row_of_group n (ColumnOf ref) fits = known.fits rows (ColumnOf ref) fits
    row_of_group n (Operator operator left right) fits = known.fits rows (Operator operator left right) fits

    row_of_whole : (e : ExprTree) → WholeItem Fits e → WholeFits db scope rows picks (columns picks) row_shape choice e
    row_of_whole (AggregateAll f) fits = tt
    row_of_whole (Aggregate f of) fits = known.fits rows of fits
    row_of_whole (Literal c) fits = tt
    row_of_whole (ColumnOf ref) fits = absurd fits
    row_of_whole (Operator operator left right) fits = fits

    -- the rows of these groups
    abbrev group_rows : List (List Choice) → List (List Cell)
    group_rows all = map (group_row scope.called items) (filter (λ group. holds (group_cell scope.called group) query.having) all)

    abbrev answered : List (List Cell) → Option (List (List Cell))
    answered rs = cond (list_any overflows (shown_exprs scope.called query)) None (Some (arranged scope.called query rs))

    groups_answer : (refs : List ColRef) → (length refs == 0) ≡ false → AllByRecursion (λ ref. Fits (ColumnOf ref)) refs → AllByRecursion (GroupItem Fits) items → AllByRecursion (GroupItem Fits) (exprs_of_cond query.having) → 0 < length items
        → shown ((always (group_items scope rows refs query.having query.distinct items)).run before) ≡ answered (group_rows (groups_by (group_key scope.called refs) (map choice picks)))
    groups_answer [] e keys fits having_fits long = cc
    groups_answer (ref ∷ refs) e keys fits having_fits long =
        group_shown db scope rows picks (columns picks) row_shape choice (known.first rows) query.having query.distinct items order query.limit ref refs
        (all_along (λ ref. Fits (ColumnOf ref)) (λ ref. RowFits db scope rows picks (columns picks) row_shape choice (ColumnOf ref)) (λ ref f. known.fits rows (ColumnOf ref) f) (ref ∷ refs) keys)
        (λ n. all_along (GroupItem Fits) (GroupFits db scope rows picks (columns picks) row_shape choice n) (row_of_group n) items fits)
        (λ n. all_along (GroupItem Fits) (GroupFits db scope rows picks (columns picks) row_shape choice n) (row_of_group n) (exprs_of_cond query.having) having_fits) long before k

    -- at most one row has no double
    one_undoubled : (distinct b : Bool) → map (group_row scope.called items) (cond b (map choice picks ∷ []) []) ≡ undoubled distinct (map (group_row scope.called items) (cond b (map choice picks ∷ []) []))
    one_undoubled false b = refl
    one_undoubled true true = refl
    one_undoubled true false = refl

    whole_answer : AllByRecursion (WholeItem Fits) items → AllByRecursion (WholeItem Fits) (exprs_of_cond query.having)
        → shown ((whole_items scope rows query.having items).run before) ≡ answered (group_rows (map choice picks ∷ []))
    whole_answer fits having_fits =
        whole_shown db scope rows picks (columns picks) row_shape choice (known.first rows) order query.limit items
        (all_along (WholeItem Fits) (WholeFits db scope rows picks (columns picks) row_shape choice) row_of_whole items fits) query.having
        (all_along (WholeItem Fits) (WholeFits db scope rows picks (columns picks) row_shape choice) row_of_whole (exprs_of_cond query.having) having_fits) before k
        ∙ ap (λ rs. cond (list_any overflows (shown_exprs scope.called query)) None (Some (limited query.limit (sorted_by (is_keyed_below order) rs))))
        (one_undoubled query.distinct (holds (group_cell scope.called (map choice picks)) query.having))

    -- ## Every query

    abbrev form_of : Bool → Bool → Emitter ShownColumns
    form_of grouped whole =
        if not grouped then always (row_items scope rows query.distinct items)
        else if whole then whole_items scope rows query.having items else always (group_items scope rows query.groups query.having query.distinct items)

    abbrev rows_by_form : Bool → Bool → List (List Cell)
    rows_by_form grouped whole =
        if grouped then group_rows (if whole then map choice picks ∷ [] else groups_by (group_key scope.called query.groups) (map choice picks)) else map (choice_row scope.called items) (map choice picks)

    by_form : QueryFits → (grouped whole : Bool) → references.is_grouped query ≡ grouped → (length query.groups == 0) ≡ whole → shown ((form_of grouped whole).run before) ≡ answered (rows_by_form grouped whole)
    by_form fits false whole e f =
        rows_answer (fits.single e) fits.some
        ∙ ap (λ h. cond (list_any overflows (items ++ exprs_of_cond h)) None (Some (arranged scope.called query (map (choice_row scope.called items) (map choice picks))))) (sym (no_having called lists query choice e))
    by_form fits true true e f = let both = fits.whole e f in whole_answer both.0 both.1
    by_form fits true false e f = let all = fits.grouped e f in groups_answer query.groups f all.0 all.1 all.2 fits.some

    items_answer : QueryFits → shown ((shown_items scope query rows).run before) ≡ answered (rows_from scope.called query (map choice picks))
    items_answer fits = by_form fits (references.is_grouped query) (length query.groups == 0) refl refl

  -- ## The plan

  none_shown : (emitted : List Instr × ShownColumns) → ran (over db) [] emitted.0 ≡ None → shown emitted ≡ None
  none_shown emitted e = by_test emitted.1.1
    where
      by_test : (keep : Option Arg) → shown (emitted.0, (emitted.1.0, keep)) ≡ None
      by_test None = rows_told db emitted.0 emitted.1.0 order query.limit None e
      by_test (Some test) = test_told db emitted.0 test emitted.1.0 order query.limit None e

  -- where the kept rows are the choices that the condition keeps, in order, or an overflow, the plan means the answer
  pub plan_means_answer : (found : Option (List P)) → GivesAll (over db) [] [] (kept_rows scope query.cond) (option_map columns found)
      → option_map (map choice) found ≡ cond (cond_overflows query.cond) None (Some (filter (is_kept scope.called query.cond) (choices (lists))))
      → ((picks : List P) → found ≡ Some picks → RowsKnown picks) → QueryFits → plan_rows (query_plan scope query) db ≡ answer_from called lists query
  plan_means_answer found gives are known fits = by_found found refl (gives.told [] (start (over db))) (cond_overflows query.cond) refl are
    where
      rows : Emitter (List Arg)
      rows = kept_rows scope query.cond

      by_found : (o : Option (List P)) → found ≡ o → Told (over db) (rows.run []).0 (rows.run []).1 (option_map columns o) → (b : Bool) → cond_overflows query.cond ≡ b
          → option_map (map choice) o ≡ cond b None (Some (filter (is_kept scope.called query.cond) (choices (lists)))) → plan_rows (query_plan scope query) db ≡ answer_from called lists query
      by_found None e t true f g =
          none_shown ((query_shown scope query).run []) (none_after (over db) ((shown_items scope query (rows.run []).1).grows (rows.run []).0) t) ∙ sym (overflows_early called lists query choice f)
      by_found None e t false f g = cc
      by_found (Some picks) e t true f g = cc
      by_found (Some picks) e t false f g =
          items_answer picks (known picks e) (rows.run []).1 (rows.run []).0 t fits
          ∙ sym (answer_by_picks called lists query choice f picks (same_Some (map choice picks) (filter (is_kept scope.called query.cond) (choices (lists))) g))
