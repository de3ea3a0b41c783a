-- The plan of a checked query has no fault, fits each database that has its tables, and can be run over it.
use Rattle.std.proofs.Common.{◌≡◌, ℕ, suc, ◌<◌, List, [], ◌∷◌, length, map, true, false, not, ◌||◌, Option, Some, None, refl, ap, sym, ◌∙◌, subst, arith}
use Rattle.std.specs.List.{AllByRecursion, list_any}
use Rattle.std.proofs.lemmas.Bool.{or_parts}
use Rattle.std.proofs.lemmas.List.{length-map}
use Rattle.std.proofs.lemmas.Option.{same_Some}
use Rattle.cell_core.specs.declared.table.Db.{Db}
use Rattle.mal_check.specs.Checked.{are_below}
use Rattle.mal_check.specs.Runnable.{CheckedPlansRun}
use Rattle.mal_emit.specs.Machines.{checking}
use Rattle.mal_emit.proofs.MachineLemmas.{start}
use Rattle.pick_laws.proofs.ListLemmas.{all_append}
use Rattle.sql_grammar.specs.Formed.{IsFormed, IsShapedQuery}
use Rattle.sql_grammar.specs.Written.{IsValue}
use Rattle.sql_tree.specs.Tree.{ExprTree, CondTree, ItemTree, QueryTree, StmtTree}
use Rattle.sql_tree.specs.Tree.ExprTree.{ColumnOf}
use Rattle.sql_tree.specs.Tree.CondTree.{Compare, Within, IsNull, Negation, Both, Either}
use Rattle.sql_tree.specs.Tree.StmtTree.{CreateTable, DropTable, AlterTable, InsertInto, DeleteFrom, UpdateTable, Select, ExplainSelect}
use Rattle.sql_tree.specs.Exprs.{cond_exprs, exprs_of_cond}
use Rattle.sql_tree.specs.declared.tree.ColRef.{ColRef}
use Rattle.sql_tree.specs.declared.tree.FromItem.{FromItem}
use Rattle.sql_definitions.specs.declared.source.Source.{Source}
use Rattle.sql_definitions.specs.Sources.{NamedSource, schema_of, from_name, called_sources}
use Rattle.sql_definitions.specs.References.{outer_references, items_of, item_exprs}
use Rattle.sql_definitions.specs.Answer.{key_places}
use Rattle.sql_definitions.specs.Check.{is_misfit_cond, query_refusals, check_refusal, sources_named, called_in, tables_of}
use Rattle.sql_definitions.specs.Kinds.{is_misfit, compares, is_cond_misfit}
use Rattle.rows_to_mal.specs.Conjuncts.{Scope}
use Rattle.rows_to_mal.specs.Laws.{HoldsTables, RunsOver}
use Rattle.rows_to_mal.specs.Rows.{condition_of, keeps_rows, statement_scope, kept_rows}
use Rattle.rows_to_mal.proofs.FitLemmas.{ArePlaced, all_parts}
use Rattle.rows_to_mal.proofs.FoundLemmas.{InDb, all_in_db}
use Rattle.rows_to_mal.proofs.PlaceLemmas.{scope_of}
use Rattle.rows_to_mal.proofs.StatementLemmas.{statement_is}
use Rattle.rows_to_mal.proofs.TypedPlanLemmas.{rows_typed}
use Rattle.rows_to_mal.proofs.WhereLemmas.{CondChecked}
use Rattle.group_to_mal.specs.QueryPlan.{query_plan, query_shown}
use Rattle.group_to_mal.specs.Laws.{QueryPlansRun}
use Rattle.group_to_mal.proofs.LawLemmas.{PartsChecked, refs_placed, written, having_is, items_placed, having_placed, some_item, no_refusal, some_names, query_over}
use Rattle.group_to_mal.proofs.QueryLemmas.{items_single, no_outer}
use Rattle.group_to_mal.proofs.TypedOutput.{ShownIs, checked_and_fits, keys_below}
use Rattle.group_to_mal.proofs.TypedShown.{QueryTyped, shown_typed}
use Rattle.group_to_mal.proofs.TypedValues.{ItemFits}

-- no operand of a condition that fits is a misfit
operands_fit : (called : List NamedSource) (c : CondTree) → is_cond_misfit called c ≡ false → AllByRecursion (λ x. is_misfit called x ≡ false) (cond_exprs c)
operands_fit called (Compare operator left right) fit =
    let both = or_parts (is_misfit called left) (is_misfit called right) (or_parts (is_misfit called left || is_misfit called right) (not (compares called left right)) fit).0 in
    (both.0, (both.1, tt))
operands_fit called (Within of low high) fit =
    let last = or_parts (is_misfit called of || is_misfit called low || is_misfit called high || not (compares called of low)) (not (compares called of high)) fit in
    let lower = or_parts (is_misfit called of || is_misfit called low || is_misfit called high) (not (compares called of low)) last.0 in
    let third = or_parts (is_misfit called of || is_misfit called low) (is_misfit called high) lower.0 in
    let first = or_parts (is_misfit called of) (is_misfit called low) third.0 in
    (first.0, (first.1, (third.1, tt)))
operands_fit called (IsNull of) fit = (fit, tt)
operands_fit called (Negation c) fit = operands_fit called c fit
operands_fit called (Both left right) fit =
    let both = or_parts (is_cond_misfit called left) (is_cond_misfit called right) fit in
    all_append (λ x. is_misfit called x ≡ false) (cond_exprs left) (cond_exprs right) (operands_fit called left both.0) (operands_fit called right both.1)
operands_fit called (Either left right) fit =
    let both = or_parts (is_cond_misfit called left) (is_cond_misfit called right) fit in
    all_append (λ x. is_misfit called x ≡ false) (cond_exprs left) (cond_exprs right) (operands_fit called left both.0) (operands_fit called right both.1)

having_fits : (called : List NamedSource) (having : Option CondTree) → is_misfit_cond called having ≡ false → AllByRecursion (λ x. is_misfit called x ≡ false) (exprs_of_cond having)
having_fits called None fit = tt
having_fits called (Some c) fit = operands_fit called c fit

none_misfit : (called : List NamedSource) (xs : List ExprTree) → list_any (is_misfit called) xs ≡ false → AllByRecursion (λ x. is_misfit called x ≡ false) xs
none_misfit called [] e = tt
none_misfit called (x ∷ xs) e = let parts = or_parts (is_misfit called x) (list_any (is_misfit called) xs) e in (parts.0, none_misfit called xs parts.1)

module _ (db : Db) (names : List (List ℕ)) (source : Source) (sources : List Source) (there : AllByRecursion (InDb db) (source ∷ sources)) (query : QueryTree)
    (checked : CondChecked (scope_of names (source ∷ sources)).called query.cond) (shaped : IsShapedQuery query) (parts : PartsChecked (scope_of names (source ∷ sources)).called query)
    (named : 0 < length names) where
  abbrev called : List NamedSource
  called = called_sources names (source ∷ sources)

  abbrev scope : Scope
  scope = scope_of names (source ∷ sources)

  some : 0 < length (source ∷ sources)
  some = above (length sources)
    where
      above : (n : ℕ) → 0 < suc n
      above n = omega arith

  abbrev Fits : ExprTree → Type 0
  Fits x = ItemFits db names (source ∷ sources) there some x

  fit : (xs : List ExprTree) → AllByRecursion IsValue xs → AllByRecursion (ArePlaced called) xs → AllByRecursion (λ x. is_misfit called x ≡ false) xs → AllByRecursion Fits xs
  fit [] a b c = tt
  fit (x ∷ xs) a b c = (record { written = a.0; placed = b.0; fit = c.0 }, fit xs a.1 b.1 c.1)

  keys_fit : (refs : List ColRef) → AllByRecursion (λ ref. ArePlaced called (ColumnOf ref)) refs → AllByRecursion (λ ref. Fits (ColumnOf ref)) refs
  keys_fit [] a = tt
  keys_fit (ref ∷ refs) a = (record { written = tt; placed = a.0; fit = refl }, keys_fit refs a.1)

  query_typed : QueryTyped db names source sources there some query
  query_typed =
      let last = or_parts (list_any (is_misfit called) (item_exprs called query) || is_misfit_cond called query.cond) (is_misfit_cond called query.having) parts.fit in
      let first = or_parts (list_any (is_misfit called) (item_exprs called query)) (is_misfit_cond called query.cond) last.0 in
      record {
        items = fit (item_exprs called query) (written db names source sources there query checked shaped parts named) (items_placed db names source sources there query checked shaped parts named) (none_misfit called (item_exprs called query) first.0);
        few = some_item db names source sources there query checked shaped parts named;
        having = fit (exprs_of_cond query.having) (having_is db names source sources there query checked shaped parts named) (having_placed db names source sources there query checked shaped parts named) (having_fits called query.having last.1);
        fit = last.1;
        keys = keys_fit query.groups (refs_placed called query.groups parts.groups);
        single = λ e. items_single called query e;
        outer = λ e f. all_parts (λ x. outer_references x ≡ []) (item_exprs called query) (exprs_of_cond query.having) (no_outer called query e f parts.grouped);
      }

  shown_is : ShownIs db ((query_shown scope query).run []).0 ((query_shown scope query).run []).1 (length (item_exprs called query))
  shown_is =
      shown_typed db names source sources there some query query_typed ((kept_rows scope query.cond).run []).1 ((kept_rows scope query.cond).run []).0
      ((rows_typed db names source sources there query.cond checked).told [] (start (checking db)))

  pub runs : CheckedPlansRun → RunsOver (query_plan scope query) db
  runs run =
      let facts = checked_and_fits db ((query_shown scope query).run []).0 ((query_shown scope query).run []).1 (length (item_exprs called query)) (key_places called query) query.limit shown_is
      (ap (λ n. are_below n (key_places called query)) (length-map (items_of called query) (λ (item : ItemTree). item.expr)) ∙ keys_below called query) in
      record { checked = facts.0; fits = facts.1; runs = run (query_plan scope query) db facts.0 facts.1 }

for_select : CheckedPlansRun → (stmt : StmtTree) (query : QueryTree) (sources : List Source) (db : Db) → called_in stmt ≡ map from_name query.froms → condition_of stmt ≡ query.cond → IsShapedQuery query
    → keeps_rows stmt ≡ true → IsFormed stmt → check_refusal stmt (record { tables = sources }) ≡ None → query_refusals query (record { tables = sources }) ≡ [] → HoldsTables stmt sources db
    → sources ≡ sources_named (map (λ (item : FromItem). item.table) query.froms) (schema_of db)
    → RunsOver (query_plan (scope_of (map from_name query.froms) sources) query) db
for_select run stmt query sources db called is shaped keeps formed accepted refusals held tables =
    let there : AllByRecursion (InDb db) sources = subst (AllByRecursion (InDb db)) (sym held.tables) (all_in_db db held.valid (tables_of stmt)) in
    query_over (λ all. RunsOver (query_plan (scope_of (map from_name query.froms) all) query) db)
    stmt query sources db called is (statement_is stmt sources db keeps formed accepted held.tables held.valid there) refusals tables there
    (λ first others a c p. runs db (map from_name query.froms) first others a query c shaped p (some_names query.froms shaped.froms) run)

pub query_plans_run : CheckedPlansRun → QueryPlansRun
query_plans_run run (Select query) other sources db e formed accepted held =
    subst (λ q. RunsOver (query_plan (statement_scope (Select query) sources) q) db) (same_Some query other e)
    (for_select run (Select query) query sources db refl refl formed.shaped refl formed accepted (no_refusal (query_refusals query (record { tables = sources })) accepted) held held.tables)
query_plans_run run (ExplainSelect query) other sources db e formed accepted held =
    subst (λ q. RunsOver (query_plan (statement_scope (ExplainSelect query) sources) q) db) (same_Some query other e)
    (for_select run (ExplainSelect query) query sources db refl refl formed.shaped refl formed accepted (no_refusal (query_refusals query (record { tables = sources })) accepted) held held.tables)
query_plans_run run (CreateTable table columns) other sources db e formed accepted held = cc
query_plans_run run (DropTable table) other sources db e formed accepted held = cc
query_plans_run run (AlterTable table column) other sources db e formed accepted held = cc
query_plans_run run (InsertInto table listed rows) other sources db e formed accepted held = cc
query_plans_run run (DeleteFrom table condition) other sources db e formed accepted held = cc
query_plans_run run (UpdateTable table sets condition) other sources db e formed accepted held = cc
