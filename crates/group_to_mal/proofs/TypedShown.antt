-- What a query shows has types: its items for each row, for each group, or once.
use Rattle.std.proofs.Common.{◌≡◌, ℕ, suc, ◌<◌, List, [], ◌∷◌, length, map, Bool, true, false, not, ◌||◌, cond, Option, Some, None, refl, ap, ◌∙◌, subst, arith}
use Rattle.std.specs.Prelude.{◌==◌}
use Rattle.std.specs.List.{AllByRecursion}
use Rattle.std.proofs.lemmas.List.{length-map}
use Rattle.cell_core.specs.declared.cell.Kind.{Kind}
use Rattle.cell_core.specs.declared.cell.Kind.TheVariants as kind
use Rattle.cell_core.specs.declared.operator.Instr.{Instr}
use Rattle.cell_core.specs.declared.operator.Op.TheVariants as op
use Rattle.cell_core.specs.declared.operator.Arg.{Arg}
use Rattle.cell_core.specs.declared.table.Db.{Db}
use Rattle.cell_core.specs.Kinds.{ValueType}
use Rattle.sql_tree.specs.Tree.{ExprTree, CondTree, QueryTree}
use Rattle.sql_tree.specs.Tree.ExprTree.{ColumnOf}
use Rattle.sql_tree.specs.Tree.CondTree.{Compare, Within, IsNull, Negation, Both, Either}
use Rattle.sql_tree.specs.Exprs.{exprs_of_cond}
use Rattle.sql_tree.specs.declared.tree.ColRef.{ColRef}
use Rattle.sql_definitions.specs.declared.source.Source.{Source}
use Rattle.sql_definitions.specs.Check.{is_misfit_cond}
use Rattle.sql_definitions.specs.Kinds.{kind_of_expr}
use Rattle.sql_definitions.specs.References.{has_aggregate, outer_references, item_exprs}
use Rattle.sql_definitions.specs.References as references
use Rattle.mal_emit.specs.Emitters.{Emitter}
use Rattle.mal_emit.specs.Machines.{Holds, checking}
use Rattle.mal_emit.proofs.MachineLemmas.{At, step_to, refs_hold, first_holds, and_holds, stays}
use Rattle.mal_emit.proofs.TypeLemmas.{oids_type, oid_bats}
use Rattle.pick_laws.proofs.ListLemmas.{all_both, all_along}
use Rattle.rows_to_mal.specs.Conjuncts.{Scope, expr_value}
use Rattle.rows_to_mal.proofs.FoundLemmas.{InDb}
use Rattle.rows_to_mal.proofs.PlaceLemmas.{scope_of}
use Rattle.group_to_mal.specs.Columns.{values_by, any_bat, groups, heads}
use Rattle.group_to_mal.specs.Values.{test_bat, first_of, whole_value, test_by, is_grouped, group_value}
use Rattle.group_to_mal.specs.QueryPlan.{ShownColumns, always, has_column, row_items, group_items, whole_items, shown_items}
use Rattle.group_to_mal.proofs.TypedColumns.{Column, bat_type, bats, types, first_bat, column_type, groups_typed}
use Rattle.group_to_mal.proofs.TypedTests.{IsTyped, columns_of, values_typed, test_typed, items_typed}
use Rattle.group_to_mal.proofs.TypedValues.{ItemFits, row_typed, whole_typed, group_typed}
use Rattle.group_to_mal.proofs.TypedOutput.{ShownIs, TestIs}

-- a test of scalars is one
test_scalar : (c : CondTree) → test_bat (λ e. false) c ≡ false
test_scalar (Compare operator left right) = refl
test_scalar (Within of low high) = refl
test_scalar (IsNull of) = refl
test_scalar (Negation c) = test_scalar c
test_scalar (Both left right) = ap (λ b. b || test_bat (λ e. false) right) (test_scalar left) ∙ test_scalar right
test_scalar (Either left right) = ap (λ b. b || test_bat (λ e. false) right) (test_scalar left) ∙ test_scalar right

none_short : 0 < 0 → ⊥
none_short h = omega arith

-- columns that are always shown
from_columns : (db : Db) (instrs : List Instr) (cols : List Arg) (c : Column) (cs : List Column) → Holds (checking db) instrs cols (types (first_bat (c ∷ cs))) → ShownIs db instrs (cols, None) (suc (length cs))
from_columns db instrs cols c cs h = record { first = column_type (c.0 || not (any_bat (bats cs))) c.1; others = types cs; columns = h; long = ap suc (length-map cs (λ (d : Column). column_type d.0 d.1)); test = tt }

module _ (db : Db) (names : List (List ℕ)) (source : Source) (sources : List Source) (there : AllByRecursion (InDb db) (source ∷ sources)) (some : 0 < length (source ∷ sources)) where
  abbrev scope : Scope
  scope = scope_of names (source ∷ sources)

  abbrev rows_type : List ValueType
  rows_type = oid_bats (source ∷ sources)

  abbrev Fits : ExprTree → Type 0
  Fits x = ItemFits db names (source ∷ sources) there some x

  first_known : {rs : List Arg} {before : List Instr} → Holds (checking db) before rs rows_type → Holds (checking db) before (first_of rs ∷ []) (oids_type ∷ [])
  first_known h = refs_hold (checking db) h (At 0 ∷ [])

  -- ## For each row

  row_shown : (distinct : Bool) (items : List ExprTree) → AllByRecursion Fits items → AllByRecursion (λ x. has_aggregate x ≡ false) items → 0 < length items → (rs : List Arg) (before : List Instr) → Holds (checking db) before rs rows_type
      → ShownIs db ((always (row_items scope rs distinct items)).run before).0 ((always (row_items scope rs distinct items)).run before).1 (length items)
  row_shown distinct [] fits single few rs before h = absurd (none_short few)
  row_shown distinct (x ∷ items) fits single few rs before h =
      subst (λ n. ShownIs db ((always (row_items scope rs distinct (x ∷ items))).run before).0 ((always (row_items scope rs distinct (x ∷ items))).run before).1 (suc n))
      (length-map items (λ y. (has_column y, kind_of_expr scope.called y)))
      (from_columns db ((row_items scope rs distinct (x ∷ items)).run before).0 ((row_items scope rs distinct (x ∷ items)).run before).1 (has_column x, kind_of_expr scope.called x)
      (columns_of db scope.called (expr_value scope rs) has_column rs rows_type items)
      (items_typed db scope.called (expr_value scope rs) has_column rs rows_type (first_of rs) None tt refl distinct x items each before (record { values = h; heads = first_known h })))
    where
      each : AllByRecursion (IsTyped db scope.called (expr_value scope rs) has_column rs rows_type) (x ∷ items)
      each = all_both Fits (λ y. has_aggregate y ≡ false) (IsTyped db scope.called (expr_value scope rs) has_column rs rows_type)
          (λ y f s. row_typed db names (source ∷ sources) there some y f s) (x ∷ items) fits single

  -- ## Once

  abbrev IsScalar : List Arg → ExprTree → Type 0
  IsScalar rs x = IsTyped db scope.called (whole_value scope rs) (λ e. false) rs rows_type x

  scalars : (rs : List Arg) (xs : List ExprTree) → AllByRecursion Fits xs → AllByRecursion (λ x. outer_references x ≡ []) xs → AllByRecursion (IsScalar rs) xs
  scalars rs xs fits outer = all_both Fits (λ x. outer_references x ≡ []) (IsScalar rs) (λ x f o. whole_typed db names (source ∷ sources) there some x f o) xs fits outer

  module _ (items : List ExprTree) (fits : AllByRecursion Fits items) (outer : AllByRecursion (λ x. outer_references x ≡ []) items) (few : 0 < length items) (rs : List Arg) (before : List Instr) (h : Holds (checking db) before rs rows_type) where
    abbrev values : Emitter (List Arg)
    values = values_by (whole_value scope rs) items

    abbrev those : List ValueType
    those = types (columns_of db scope.called (whole_value scope rs) (λ e. false) rs rows_type items)

    known : Holds (checking db) (values.run before).0 (values.run before).1 those
    known = (values_typed db scope.called (whole_value scope rs) (λ e. false) rs rows_type items (scalars rs items fits outer)).told before h

    with_test : (instrs : List Instr) (cols : List Arg) (test : Option Arg) → Holds (checking db) instrs cols those → TestIs db instrs test → ShownIs db instrs (cols, test) (length items)
    with_test instrs cols test k t = by_items items few k
      where
        by_items : (xs : List ExprTree) → 0 < length xs → Holds (checking db) instrs cols (types (columns_of db scope.called (whole_value scope rs) (λ e. false) rs rows_type xs)) → ShownIs db instrs (cols, test) (length xs)
        by_items [] few k = absurd (none_short few)
        by_items (x ∷ xs) few k = record {
          first = column_type false (kind_of_expr scope.called x);
          others = types (columns_of db scope.called (whole_value scope rs) (λ e. false) rs rows_type xs);
          columns = k;
          long = ap suc (length-map (columns_of db scope.called (whole_value scope rs) (λ e. false) rs rows_type xs) (λ (d : Column). column_type d.0 d.1) ∙ length-map xs (λ y. (false, kind_of_expr scope.called y)));
          test = t;
        }

    whole_shown : (having : Option CondTree) → AllByRecursion Fits (exprs_of_cond having) → AllByRecursion (λ x. outer_references x ≡ []) (exprs_of_cond having) → is_misfit_cond scope.called having ≡ false
        → ShownIs db ((whole_items scope rs having items).run before).0 ((whole_items scope rs having items).run before).1 (length items)
    whole_shown None hfits houter fit = with_test (values.run before).0 (values.run before).1 None known tt
    whole_shown (Some c) hfits houter fit =
        with_test (test.run (values.run before).0).0 (values.run before).1 (Some (test.run (values.run before).0).1) (stays (checking db) (test.grows (values.run before).0) known truth)
        (subst (λ b. Holds (checking db) (test.run (values.run before).0).0 ((test.run (values.run before).0).1 ∷ []) (column_type b (Some kind.Bit) ∷ [])) (test_scalar c) (first_holds (checking db) truth))
      where
        test : Emitter Arg
        test = test_by (whole_value scope rs) c

        truth : Holds (checking db) (test.run (values.run before).0).0 ((test.run (values.run before).0).1 ∷ rs) (column_type (test_bat (λ e. false) c) (Some kind.Bit) ∷ rows_type)
        truth = (test_typed db scope.called (whole_value scope rs) (λ e. false) rs rows_type c (scalars rs (exprs_of_cond (Some c)) hfits houter) fit).told (values.run before).0 (stays (checking db) (values.grows before) h known)

  -- ## For each group

  module _ (refs : List ColRef) (keys_fit : AllByRecursion (λ ref. Fits (ColumnOf ref)) refs) (more : (length refs == 0) ≡ false) (having : Option CondTree) (hfits : AllByRecursion Fits (exprs_of_cond having)) (fit : is_misfit_cond scope.called having ≡ false)
      (distinct : Bool) (items : List ExprTree) (fits : AllByRecursion Fits items) (few : 0 < length items) (rs : List Arg) (before : List Instr) (h : Holds (checking db) before rs rows_type) where
    abbrev keys : Emitter (List Arg)
    keys = values_by (expr_value scope rs) (map ColumnOf refs)

    abbrev key_kinds : List ColRef → List (Option Kind)
    key_kinds rs = map (λ ref. kind_of_expr scope.called (ColumnOf ref)) rs

    keys_each : (all : List ColRef) → AllByRecursion (λ ref. Fits (ColumnOf ref)) all → AllByRecursion (IsTyped db scope.called (expr_value scope rs) has_column rs rows_type) (map ColumnOf all)
    keys_each [] f = tt
    keys_each (ref ∷ all) f = (row_typed db names (source ∷ sources) there some (ColumnOf ref) f.0 refl, keys_each all f.1)

    keys_types : (all : List ColRef) → types (columns_of db scope.called (expr_value scope rs) has_column rs rows_type (map ColumnOf all)) ≡ map bat_type (key_kinds all)
    keys_types [] = refl
    keys_types (ref ∷ all) = ap (λ r. bat_type (kind_of_expr scope.called (ColumnOf ref)) ∷ r) (keys_types all)

    keys_known : Holds (checking db) (keys.run before).0 (keys.run before).1 (map bat_type (key_kinds refs))
    keys_known = subst (λ ts. Holds (checking db) (keys.run before).0 (keys.run before).1 ts) (keys_types refs)
        ((values_typed db scope.called (expr_value scope rs) has_column rs rows_type (map ColumnOf refs) (keys_each refs keys_fit)).told before h)

    abbrev grouping : Emitter Arg
    grouping = groups (keys.run before).1

    abbrev numbered_at : List Instr
    numbered_at = (grouping.run (keys.run before).0).0

    abbrev number : Arg
    number = (grouping.run (keys.run before).0).1

    numbers_known : Holds (checking db) numbered_at (number ∷ []) (oids_type ∷ [])
    numbers_known = by_refs refs more keys_known
      where
        by_refs : (all : List ColRef) → (length all == 0) ≡ false → Holds (checking db) (keys.run before).0 (keys.run before).1 (map bat_type (key_kinds all)) → Holds (checking db) numbered_at (number ∷ []) (oids_type ∷ [])
        by_refs [] e k = cc
        by_refs (ref ∷ all) e k = groups_typed db (keys.run before).1 (kind_of_expr scope.called (ColumnOf ref)) (key_kinds all) (keys.run before).0 k

    abbrev heads_at : List Instr
    heads_at = ((heads number).run numbered_at).0

    abbrev head : Arg
    head = ((heads number).run numbered_at).1

    heads_known : Holds (checking db) heads_at (head ∷ number ∷ []) (oids_type ∷ oids_type ∷ [])
    heads_known = step_to (checking db) numbers_known op.GroupHeads (At 0 ∷ []) (Some oids_type) refl

    all_known : Holds (checking db) heads_at (head ∷ number ∷ rs) (oids_type ∷ oids_type ∷ rows_type)
    all_known =
        let rows = stays (checking db) ((heads number).grows numbered_at) (stays (checking db) (grouping.grows (keys.run before).0) (stays (checking db) (keys.grows before) h keys_known) numbers_known) heads_known in
        let beside = and_holds (checking db) (stays (checking db) ((heads number).grows numbered_at) numbers_known heads_known) rows in
        and_holds (checking db) heads_known beside

    abbrev IsGrouped : ExprTree → Type 0
    IsGrouped x = IsTyped db scope.called (group_value scope rs number head) is_grouped (head ∷ number ∷ rs) (oids_type ∷ oids_type ∷ rows_type) x

    grouped : (xs : List ExprTree) → AllByRecursion Fits xs → AllByRecursion IsGrouped xs
    grouped xs f = all_along Fits IsGrouped (λ x g. group_typed db names (source ∷ sources) there some x g) xs f

    group_shown : ShownIs db ((always (group_items scope rs refs having distinct items)).run before).0 ((always (group_items scope rs refs having distinct items)).run before).1 (length items)
    group_shown = by_items items few fits
      where
        by_items : (xs : List ExprTree) → 0 < length xs → AllByRecursion Fits xs → ShownIs db ((always (group_items scope rs refs having distinct xs)).run before).0 ((always (group_items scope rs refs having distinct xs)).run before).1 (length xs)
        by_items [] few f = absurd (none_short few)
        by_items (x ∷ xs) few f =
            subst (λ n. ShownIs db ((always (group_items scope rs refs having distinct (x ∷ xs))).run before).0 ((always (group_items scope rs refs having distinct (x ∷ xs))).run before).1 (suc n))
            (length-map xs (λ y. (is_grouped y, kind_of_expr scope.called y)))
            (from_columns db ((group_items scope rs refs having distinct (x ∷ xs)).run before).0 ((group_items scope rs refs having distinct (x ∷ xs)).run before).1 (is_grouped x, kind_of_expr scope.called x)
            (columns_of db scope.called (group_value scope rs number head) is_grouped (head ∷ number ∷ rs) (oids_type ∷ oids_type ∷ rows_type) xs)
            (items_typed db scope.called (group_value scope rs number head) is_grouped (head ∷ number ∷ rs) (oids_type ∷ oids_type ∷ rows_type) head having (grouped (exprs_of_cond having) hfits) fit distinct x xs (grouped (x ∷ xs) f) heads_at
            (record { values = all_known; heads = first_holds (checking db) heads_known })))

  -- ## Queries

  -- what the check knows of a query's parts
  pub record QueryTyped (query : QueryTree) : Type 0 where
    pub items : AllByRecursion Fits (item_exprs scope.called query)
    pub few : 0 < length (item_exprs scope.called query)
    pub having : AllByRecursion Fits (exprs_of_cond query.having)
    pub fit : is_misfit_cond scope.called query.having ≡ false
    pub keys : AllByRecursion (λ ref. Fits (ColumnOf ref)) query.groups
    pub single : references.is_grouped query ≡ false → AllByRecursion (λ x. has_aggregate x ≡ false) (item_exprs scope.called query)
    pub outer : references.is_grouped query ≡ true → (length query.groups == 0) ≡ true
        → AllByRecursion (λ x. outer_references x ≡ []) (item_exprs scope.called query) × AllByRecursion (λ x. outer_references x ≡ []) (exprs_of_cond query.having)

  pub shown_typed : (query : QueryTree) → QueryTyped query → (rs : List Arg) (before : List Instr) → Holds (checking db) before rs rows_type
      → ShownIs db ((shown_items scope query rs).run before).0 ((shown_items scope query rs).run before).1 (length (item_exprs scope.called query))
  shown_typed query typed rs before h = by_form (references.is_grouped query) (length query.groups == 0) refl refl
    where
      items : List ExprTree
      items = item_exprs scope.called query

      form : Bool → Bool → Emitter ShownColumns
      form grouped none =
          cond (not grouped) (always (row_items scope rs query.distinct items)) (cond none (whole_items scope rs query.having items) (always (group_items scope rs query.groups query.having query.distinct items)))

      by_form : (grouped none : Bool) → references.is_grouped query ≡ grouped → (length query.groups == 0) ≡ none → ShownIs db ((form grouped none).run before).0 ((form grouped none).run before).1 (length items)
      by_form false none e f = row_shown query.distinct items typed.items (typed.single e) typed.few rs before h
      by_form true true e f = let outer = typed.outer e f in whole_shown items typed.items outer.0 typed.few rs before h query.having typed.having outer.1 typed.fit
      by_form true false e f = group_shown query.groups typed.keys f query.having typed.having typed.fit query.distinct items typed.items typed.few rs before h
