-- The plans of a checked statement's rows, and of DELETE and UPDATE, have no fault and fit each database that has the tables.
use Rattle.std.proofs.Common.{◌≡◌, ℕ, ◌+◌, ◌<◌, List, [], ◌∷◌, ◌++◌, length, map, Bool, true, false, Option, Some, None, refl, ap, sym, ◌∙◌, subst, arith, append_assoc}
use Rattle.std.specs.Prelude.{get_or}
use Rattle.std.specs.List.{AllByRecursion}
use Rattle.std.proofs.lemmas.Bool.{or_parts}
use Rattle.std.proofs.Math.Seq.{get_or-append_seam}
use Rattle.cell_core.specs.declared.operator.Arg.{Arg}
use Rattle.cell_core.specs.declared.operator.Instr.{Instr}
use Rattle.cell_core.specs.declared.table.Db.{Db}
use Rattle.cell_core.specs.Kinds.{ValueType}
use Rattle.mal_check.specs.Checked.{is_empty}
use Rattle.mal_check.specs.Runnable.{CheckedPlansRun}
use Rattle.sql_tree.specs.Tree.{ExprTree, CondTree, StmtTree}
use Rattle.sql_tree.specs.Tree.{CondTree as tree}
use Rattle.sql_tree.specs.Exprs.{cond_exprs}
use Rattle.sql_grammar.specs.Written.{IsPlain as IsWritten}
use Rattle.sql_definitions.specs.declared.source.Source.{Source}
use Rattle.mal_emit.specs.Emitters.{Emitter, followed, gives}
use Rattle.mal_emit.specs.Machines.{GivesAll, checking, Holds}
use Rattle.mal_emit.proofs.GivesLemmas.{all_then, gives_all_same, nothing_gives, cons_gives}
use Rattle.mal_emit.proofs.MachineLemmas.{start, append_holds, stays, none_known}
use Rattle.mal_emit.proofs.PlanLemmas.{showing}
use Rattle.mal_emit.proofs.TypeLemmas.{oid_bats, fits_and_checked, oids_type}
use Rattle.pick_laws.proofs.ListLemmas.{longer}
use Rattle.rows_to_mal.specs.Candidates.{ColumnCond, column_kind}
use Rattle.rows_to_mal.specs.Conjuncts.{Scope, no_source, is_alone}
use Rattle.rows_to_mal.specs.Joins.{Link}
use Rattle.rows_to_mal.specs.Laws.{RunsOver, WritePlansRun}
use Rattle.rows_to_mal.specs.Parts.{conds_of, steps_from, link_of, conjuncts_of, others, unused}
use Rattle.rows_to_mal.specs.Rows.{kept_rows, condition_of}
use Rattle.rows_to_mal.specs.Writes.{expr_values, new_values, write_plan}
use Rattle.rows_to_mal.proofs.CheckedLemmas.{conds_fit, LinkKinds, links_fit}
use Rattle.rows_to_mal.proofs.FitLemmas.{all_at, conjuncts_hold, all_placed, all_parts, ArePlaced}
use Rattle.rows_to_mal.proofs.FoundLemmas.{InDb, all_in_db}
use Rattle.rows_to_mal.proofs.PlaceLemmas.{scope_of, table_at, conds_in, IfLink, links_in, others_keep}
use Rattle.rows_to_mal.proofs.StatementLemmas.{statement_is, values_placed, values_fit}
use Rattle.rows_to_mal.proofs.TypedLemmas.{ColumnFits, CondFitsColumn}
use Rattle.rows_to_mal.proofs.TypedRowLemmas.{LinkTyped, StepsTyped, sources_of, tables_typed}
use Rattle.rows_to_mal.proofs.TypedValueLemmas.{IsChecked, keep_all_typed, value_type, expr_typed}
use Rattle.rows_to_mal.proofs.WhereLemmas.{CondChecked}
use Rattle.rows_to_mal.proofs.WriteLemmas.{write_keeps, values_plain}
use Rattle.sql_definitions.specs.Kinds.{kind_of_expr, is_misfit, is_cond_misfit}
use Rattle.sql_definitions.specs.Check.{sources_called, called_in, tables_of}

module _ (db : Db) (names : List (List ℕ)) (sources : List Source) (there : AllByRecursion (InDb db) sources) (cs : List CondTree) (checked : AllByRecursion (IsChecked db names sources there) cs) where
  abbrev scope : Scope
  scope = scope_of names sources

  all_both_in : (table : Source) (found : InDb db table) (conds : List (ℕ × ColumnCond)) → AllByRecursion (λ (at : ℕ × ColumnCond). at.0 < length table.columns) conds
      → AllByRecursion (λ (at : ℕ × ColumnCond). ColumnFits db scope.called (column_kind table at.0) at.1) conds → AllByRecursion (CondFitsColumn db scope.called table found) conds
  all_both_in table found [] a b = tt
  all_both_in table found (at ∷ conds) a b = ((a.0, b.0), all_both_in table found conds a.1 b.1)

  table_conds : (n : ℕ) (table : Source) (found : InDb db table) → table_at names sources n ≡ table → AllByRecursion (CondFitsColumn db scope.called table found) (conds_of scope n cs)
  table_conds n table found e =
      all_both_in table found (conds_of scope n cs)
      (subst (λ (t : Source). AllByRecursion (λ (at : ℕ × ColumnCond). at.0 < length t.columns) (conds_of scope n cs)) e (conds_in names sources n cs))
      (subst (λ (t : Source). AllByRecursion (λ (at : ℕ × ColumnCond). ColumnFits db scope.called (column_kind t at.0) at.1) (conds_of scope n cs)) e (conds_fit db names sources there n cs checked))

  table_link : (n : ℕ) (table : Source) → table_at names sources n ≡ table → 0 < n → (o : Option Link) → IfLink names sources n o → LinkKinds db names sources there n o → LinkTyped db scope.called table n o
  table_link n table e some None a b = some
  table_link n table e some (Some link) a b = (
    a.back,
    subst (InDb db) (sym a.source) (all_at (InDb db) sources link.number no_source there a.left.table),
    subst (λ (t : Source). link.left < length t.columns) (sym a.source) a.left.column,
    subst (λ (t : Source). link.right < length t.columns) e a.right.column,
    ap (λ (t : Source). column_kind t link.left) a.source ∙ b ∙ ap (λ (t : Source). column_kind t link.right) e,
  )

  steps_checked : (before after : List Source) → before ++ after ≡ sources → 0 < length before → AllByRecursion (InDb db) after → StepsTyped db scope.called before (steps_from scope cs (length before) after)
  steps_checked before [] e some found = tt
  steps_checked before (table ∷ after) e some found = (
    record { there = found.0; conds = table_conds (length before) table found.0 here; link = table_link (length before) table here some (link_of scope (length before) cs) (links_in names sources (length before) cs) (links_fit db names sources there (length before) cs checked) },
    subst (λ n. StepsTyped db scope.called (before ++ table ∷ []) (steps_from scope cs n after)) (longer before table)
        (steps_checked (before ++ table ∷ []) after (append_assoc before (table ∷ []) after ∙ e) (subst (λ l. 0 < l) (sym (longer before table)) (above (length before))) found.1),
  )
    where
      here : table_at names sources (length before) ≡ table
      here = ap (λ all. get_or all (length before) no_source) (sym e) ∙ get_or-append_seam before table after no_source

      above : (l : ℕ) → 0 < l + 1
      above l = omega arith

  tables_from : (n : ℕ) (tables : List Source) → sources_of db scope.called (steps_from scope cs n tables) ≡ tables
  tables_from n [] = refl
  tables_from n (table ∷ tables) = ap (λ r. table ∷ r) (tables_from (n + 1) tables)

module _ (db : Db) (names : List (List ℕ)) (source : Source) (sources : List Source) (there : AllByRecursion (InDb db) (source ∷ sources))
    (condition : Option CondTree) (checked : CondChecked (scope_of names (source ∷ sources)).called condition) where
  abbrev here : Scope
  here = scope_of names (source ∷ sources)

  abbrev all : List Source
  all = source ∷ sources

  conjuncts_checked : (o : Option CondTree) → CondChecked here.called o → AllByRecursion (IsChecked db names all there) (conjuncts_of o)
  conjuncts_checked None c = tt
  conjuncts_checked (Some d) c =
      conjuncts_hold (IsChecked db names all there) both_checked d (record { plain = c.plain; placed = all_placed here.called (cond_exprs d) c.placed; fit = c.fit })
    where
      both_checked : (left right : CondTree) → IsChecked db names all there (tree.Both left right) → IsChecked db names all there left × IsChecked db names all there right
      both_checked left right q =
          let exprs = all_parts (ArePlaced here.called) (cond_exprs left) (cond_exprs right) q.placed in
          let fits = or_parts (is_cond_misfit here.called left) (is_cond_misfit here.called right) q.fit in
          (record { plain = q.plain.0; placed = exprs.0; fit = fits.0 }, record { plain = q.plain.1; placed = exprs.1; fit = fits.1 })

  -- one BAT of oids for each table
  pub rows_typed : {args : List Arg} {types : List ValueType} → GivesAll (checking db) args types (kept_rows here condition) (Some (oid_bats all))
  rows_typed =
      all_then (λ (b : Bool). oid_bats all) (Some true) {o = λ b. Some (oid_bats all)}
      (gives_all_same (ap (λ ts. Some (oid_bats (source ∷ ts))) (tables_from db names all there cs facts 1 sources))
      (tables_typed db here.called source there.0 (conds_of here 0 cs) (steps_from here cs 1 sources) (table_conds db names all there cs facts 0 source there.0 refl)
      (steps_checked db names all there cs facts (source ∷ []) sources refl one there.1)))
      (λ results b e. keep_all_typed db names all there (long sources) (others here unused cs) (others_keep names all (IsChecked db names all there) unused cs facts))
    where
      cs : List CondTree
      cs = conjuncts_of condition

      facts : AllByRecursion (IsChecked db names all there) cs
      facts = conjuncts_checked condition checked

      one : 0 < 1
      one = omega arith

      long : (tables : List Source) → 0 < length (source ∷ tables)
      long tables = omega arith

  -- ## Values

  module _ (exprs : List ExprTree) (plain : AllByRecursion IsWritten exprs) (placed : AllByRecursion (ArePlaced here.called) exprs) (fit : AllByRecursion (λ e. is_misfit here.called e ≡ false) exprs) where
    abbrev value_types : List ExprTree → List ValueType
    value_types es = map (λ e. value_type (is_alone e) (kind_of_expr here.called e)) es

    values_typed : (rs : List Arg) (es : List ExprTree) → AllByRecursion IsWritten es → AllByRecursion (ArePlaced here.called) es → AllByRecursion (λ e. is_misfit here.called e ≡ false) es
        → GivesAll (checking db) rs (oid_bats all) (expr_values here rs es) (Some (value_types es))
    values_typed rs [] p q f = nothing_gives
    values_typed rs (e ∷ es) p q f =
        cons_gives (Some (value_type (is_alone e) (kind_of_expr here.called e))) (Some (value_types es)) (expr_typed db names all there e p.0 q.0 f.0) (values_typed rs es p.1 q.1 f.1)

    abbrev emitter : Emitter (List Arg)
    emitter = followed (kept_rows here condition) (λ rs. followed (expr_values here rs exprs) (λ vs. gives (rs ++ vs)))

    columns_typed : Holds (checking db) (emitter.run []).0 (emitter.run []).1 (oid_bats all ++ value_types exprs)
    columns_typed =
        let rows = rows_typed.told [] (start (checking db)) in
        let instrs = ((kept_rows here condition).run []).0 in
        let rs = ((kept_rows here condition).run []).1 in
        let values = (values_typed rs exprs plain placed fit).told instrs rows in
        append_holds (checking db) (stays (checking db) ((expr_values here rs exprs).grows instrs) rows values) values

    not_empty : {instrs : List Instr} (cols : List Arg) (t : ValueType) (types : List ValueType) → Holds (checking db) instrs cols (t ∷ types) → is_empty cols ≡ false
    not_empty [] t types h = absurd (none_known (checking db) h)
    not_empty (col ∷ cols) t types h = refl

    pub plan_runs : CheckedPlansRun → RunsOver (showing db (emitter.run []).0 (emitter.run []).1 [] None) db
    plan_runs run =
        let facts = fits_and_checked db (emitter.run []).0 (emitter.run []).1 (oid_bats all ++ value_types exprs) [] None columns_typed (not_empty (emitter.run []).1 oids_type (oid_bats sources ++ value_types exprs) columns_typed) refl in
        record { checked = facts.0; fits = facts.1; runs = run (showing db (emitter.run []).0 (emitter.run []).1 [] None) db facts.0 facts.1 }

-- ## Statements

runs_for : CheckedPlansRun → (stmt : StmtTree) (sources : List Source) (db : Db) → AllByRecursion (InDb db) sources → (first : Source) (others : List Source) → sources ≡ first ∷ others
    → CondChecked (sources_called stmt sources) (condition_of stmt) → AllByRecursion IsWritten (new_values stmt) → AllByRecursion (ArePlaced (sources_called stmt sources)) (new_values stmt)
    → AllByRecursion (λ e. is_misfit (sources_called stmt sources) e ≡ false) (new_values stmt) → RunsOver (write_plan stmt sources) db
runs_for run stmt sources db there first others some checked plain placed fit =
    subst (λ all. AllByRecursion (InDb db) all → CondChecked (sources_called stmt all) (condition_of stmt) → AllByRecursion (ArePlaced (sources_called stmt all)) (new_values stmt)
    → AllByRecursion (λ e. is_misfit (sources_called stmt all) e ≡ false) (new_values stmt) → RunsOver (write_plan stmt all) db) (sym some)
    (λ a c q f. plan_runs db (called_in stmt) first others a (condition_of stmt) c (new_values stmt) plain q f run) there checked placed fit

pub write_plans_run : CheckedPlansRun → WritePlansRun
write_plans_run run stmt sources db w formed accepted holds =
    let there : AllByRecursion (InDb db) sources = subst (AllByRecursion (InDb db)) (sym holds.tables) (all_in_db db holds.valid (tables_of stmt)) in
    let is = statement_is stmt sources db (write_keeps stmt w) formed accepted holds.tables holds.valid there in
    runs_for run stmt sources db there is.first is.others is.some is.checked (values_plain stmt formed w) (values_placed stmt sources db w accepted holds.tables) (values_fit stmt sources db w accepted holds.tables)
