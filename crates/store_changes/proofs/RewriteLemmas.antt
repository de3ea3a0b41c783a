-- What DELETE and UPDATE come to.
use Rattle.std.proofs.Common.{◌≡◌, ℕ, List, length, map, drop, Bool, true, false, cond, Option, Some, None, refl, ap, sym, ◌∙◌}
use Rattle.std.specs.Prelude.{Ok, Err}
use Rattle.cell_core.specs.declared.cell.Cell.{Cell}
use Rattle.cell_core.specs.declared.table.Column.{Column}
use Rattle.cell_core.specs.declared.table.Table.{Table}
use Rattle.cell_core.specs.declared.table.Db.{Db}
use Rattle.cell_core.specs.Tables.{all_columns, named_table, row_count}
use Rattle.mal_meaning.specs.declared.plan.Plan.{Plan}
use Rattle.mal_meaning.specs.Meaning.{plan_load, plan_rows}
use Rattle.mal_opt.specs.Optimisers.{optimise}
use Rattle.rows_to_mal.specs.Laws.{HoldsTables}
use Rattle.rows_to_mal.specs.Writes.{is_write, write_plan}
use Rattle.sql_tree.specs.Tree.{ExprTree, StmtTree}
use Rattle.sql_tree.specs.Tree.StmtTree.{CreateTable, DropTable, AlterTable, InsertInto, DeleteFrom, UpdateTable, Select, ExplainSelect}
use Rattle.sql_definitions.specs.declared.refusal.Refusal.{Refusal}
use Rattle.sql_definitions.specs.declared.refusal.Refusal.TheVariants.{TextTooLong, NullStored}
use Rattle.sql_definitions.specs.declared.source.Source.{Source}
use Rattle.sql_definitions.specs.Check.{check_refusal}
use Rattle.sql_definitions.specs.Effect.{changed, changed_by, effect, is_null_refused, is_too_long}
use Rattle.change_plans.specs.declared.decided.Decided.{Decided}
use Rattle.change_plans.specs.declared.decided.Decided.TheVariants.{Refused, Gone, Set}
use Rattle.change_plans.specs.Decisions.{decided_by, is_any_refused, is_in_place, left_by, place_of, rows_with, rows_without}
use Rattle.change_plans.specs.Hits.{changed_table}
use Rattle.change_plans.specs.Laws.{OverflowsOver}
use Rattle.change_plans.proofs.MeantLemmas.{There, there}
use Rattle.run_log.specs.Fold.{change_load, change_plan, load_unless}
use Rattle.run_log.specs.Touches.{touched_by, touching}
use Rattle.table_store.specs.declared.heading.Heading.{Heading}
use Rattle.table_store.specs.Changes.{rows_of, with_rows}
use Rattle.table_store.specs.Content.{Content}
use Rattle.store_changes.specs.declared.outcome.Ready.{Ready}
use Rattle.store_changes.specs.Rewrites.{ComesTo, Removes, Sets}
use Rattle.store_changes.specs.Work.{change_lost, lost_unless}
use Rattle.store_changes.proofs.DefineLemmas.{ready_comes, refused_comes}
use Rattle.store_changes.proofs.NamedLemmas.{as_heading, columns_found, count_found, rows_found}

-- ## What is decided of which statement

module _ (columns : List Column) (names : List (List ℕ)) (places : List ℕ) (cells : List (List Cell)) where
  abbrev decided_update_by : Bool → Bool → Decided
  decided_update_by long null = cond long (Refused TextTooLong) (cond null (Refused NullStored) (Set names places cells))

  never_gone : (long null : Bool) (gone : List ℕ) → Gone gone ≡ decided_update_by long null → ⊥
  never_gone true null gone e = cc
  never_gone false true gone e = cc
  never_gone false false gone e = cc

  its_names : (long null : Bool) (set : List (List ℕ)) (at : List ℕ) (new : List (List Cell)) → Set set at new ≡ decided_update_by long null → set ≡ names
  its_names true null set at new e = cc
  its_names false true set at new e = cc
  its_names false false set at new e = cc

module _ (columns : List Column) (rows : List (List Cell)) (db : Db) where
  abbrev set_names : List (List ℕ × ExprTree) → List (List ℕ)
  set_names sets = map (λ (set : List ℕ × ExprTree). set.0) sets

  abbrev is_long : List (List ℕ × ExprTree) → Bool
  is_long sets = is_any_refused is_too_long columns (set_names sets) (map (drop 1) rows)

  abbrev is_null : List (List ℕ × ExprTree) → Bool
  is_null sets = is_any_refused is_null_refused columns (set_names sets) (map (drop 1) rows)

  -- rows go by a DELETE alone
  gone_touches : (s : StmtTree) → is_write s ≡ true → (places : List ℕ) → Gone places ≡ decided_by s columns rows → touching (changed_table s) db (all_columns (changed_table s) db) None ≡ touched_by s db
  gone_touches (DeleteFrom name condition) w places e = refl
  gone_touches (UpdateTable name sets condition) w places e = absurd (never_gone columns (set_names sets) (map place_of rows) (map (drop 1) rows) (is_long sets) (is_null sets) places e)
  gone_touches (CreateTable name cols) w places e = cc
  gone_touches (DropTable name) w places e = cc
  gone_touches (AlterTable name column) w places e = cc
  gone_touches (InsertInto name listed given) w places e = cc
  gone_touches (Select query) w places e = cc
  gone_touches (ExplainSelect query) w places e = cc

  -- columns are set by an UPDATE alone, which names them
  set_touches : (s : StmtTree) → is_write s ≡ true → (names : List (List ℕ)) (places : List ℕ) (cells : List (List Cell)) → Set names places cells ≡ decided_by s columns rows
      → touching (changed_table s) db names None ≡ touched_by s db
  set_touches (DeleteFrom name condition) w names places cells e = cc
  set_touches (UpdateTable name sets condition) w names places cells e =
      ap (λ (ns : List (List ℕ)). touching name db ns None) (its_names columns (set_names sets) (map place_of rows) (map (drop 1) rows) (is_long sets) (is_null sets) names places cells e)
  set_touches (CreateTable name cols) w names places cells e = cc
  set_touches (DropTable name) w names places cells e = cc
  set_touches (AlterTable name column) w names places cells e = cc
  set_touches (InsertInto name listed given) w names places cells e = cc
  set_touches (Select query) w names places cells e = cc
  set_touches (ExplainSelect query) w names places cells e = cc

-- ## What is decided, done

module _ (s : StmtTree) (sources : List Source) (content : Content) (w : is_write s ≡ true) (holds : HoldsTables s sources content.db) (accepts : check_refusal s (record { tables = sources }) ≡ None) where
  pub here : There s sources content.db w holds.tables
  here = there s sources content.db w holds.tables accepts

  module _ (columns : List Column) (rows : List (List Cell)) (decided : Decided) (by : decided ≡ decided_by s columns rows)
      (is : effect s content.db ≡ changed (changed_table s) (left_by decided) (named_table (changed_table s) content.db) content.db) where
    effect_by : (known : Decided) → decided ≡ known → effect s content.db ≡ changed_by (changed_table s) (left_by known here.table) content.db
    effect_by known same = is ∙ ap (λ (o : Option Table). changed (changed_table s) (left_by decided) o content.db) here.found ∙ ap (λ (d : Decided). changed_by (changed_table s) (left_by d here.table) content.db) same

    pub decided_refused : (refusal : Refusal) → decided ≡ Refused refusal → ComesTo s content (Err refusal)
    decided_refused refusal same = refused_comes s content refusal (effect_by (Refused refusal) same)

    pub decided_gone : (places : List ℕ) (ready : Ready) → decided ≡ Gone places → Removes (changed_table s) places content ready → ComesTo s content (Ok ready)
    decided_gone places ready same removes =
        ready_comes s content ready (with_rows (changed_table s) (rows_without places here.table.rows) content.db) (Some (length places))
        (touching (changed_table s) content.db (all_columns (changed_table s) content.db) None)
        (effect_by (Gone places) same) removes.prepared
        (removes.db ∙ ap (λ (old : List (List Cell)). with_rows (changed_table s) (rows_without places old) content.db) (rows_found (changed_table s) content.db here.table here.found))
        removes.rows removes.touched (gone_touches columns rows content.db s w places (sym same ∙ by))

    pub decided_set : (names : List (List ℕ)) (places : List ℕ) (cells : List (List Cell)) (ready : Ready) → decided ≡ Set names places cells → Sets (changed_table s) names places cells content ready → ComesTo s content (Ok ready)
    decided_set names places cells ready same sets =
        ready_comes s content ready (with_rows (changed_table s) (rows_with here.table.columns names places cells here.table.rows) content.db) (Some (length places))
        (touching (changed_table s) content.db names None)
        (effect_by (Set names places cells) same) sets.prepared
        (sets.db
        ∙ ap (λ (cs : List Column). with_rows (changed_table s) (rows_with cs names places cells (rows_of (changed_table s) content.db)) content.db) (columns_found (changed_table s) content.db here.table here.found)
        ∙ ap (λ (old : List (List Cell)). with_rows (changed_table s) (rows_with here.table.columns names places cells old) content.db) (rows_found (changed_table s) content.db here.table here.found))
        sets.rows sets.touched (set_touches columns rows content.db s w names places cells (sym same ∙ by))

  -- the places are those of rows
  pub in_place_here : (decided known : Decided) → is_in_place decided here.table ≡ true → decided ≡ known → is_in_place known here.table ≡ true
  in_place_here decided known e same = ap (λ (d : Decided). is_in_place d here.table) (sym same) ∙ e

  pub count_here : row_count (changed_table s) content.db ≡ length here.table.rows
  count_here = count_found (changed_table s) content.db here.table here.found

  -- a table that is made of what the store says is the one that is there
  pub overflows_here : (heading : Heading) (table : Table) → Some heading ≡ Some (as_heading here.table) → table ≡ record { name = heading.name; columns = heading.columns; rows = rows_of (changed_table s) content.db }
      → plan_rows (write_plan s sources) content.db ≡ None → (OverflowsOver s sources table) × (named_table (changed_table s) content.db ≡ Some table)
  overflows_here heading table told made none = (record { db = content.db; holds = holds; found = found; none = none }, found)
    where
      same : heading ≡ as_heading here.table
      same = cc

      is : table ≡ here.table
      is = made ∙ (λ i. record { name = (same i).name; columns = (same i).columns; rows = rows_found (changed_table s) content.db here.table here.found i })

      found : named_table (changed_table s) content.db ≡ Some table
      found = here.found ∙ ap Some (sym is)

  -- ## Its work

  plan_is : (plan : Plan) → plan ≡ optimise (write_plan s sources) → plan ≡ change_plan s content.db
  plan_is plan e = e ∙ ap (λ (all : List Source). optimise (write_plan s all)) holds.tables

  pub load_is : (plan : Plan) (rows : List (List Cell)) → plan ≡ optimise (write_plan s sources) → plan_rows plan content.db ≡ Some rows → plan_load plan content.db ≡ change_load s content.db
  load_is plan rows e ran =
      ap (λ (o : Option (List (List Cell))). load_unless o (plan_load plan content.db)) (sym ran) ∙ ap (λ (p : Plan). load_unless (plan_rows p content.db) (plan_load p content.db)) (plan_is plan e)

  pub none_is : (plan : Plan) → plan ≡ optimise (write_plan s sources) → plan_rows plan content.db ≡ None → 0 ≡ change_load s content.db
  none_is plan e none =
      ap (λ (o : Option (List (List Cell))). load_unless o (plan_load plan content.db)) (sym none) ∙ ap (λ (p : Plan). load_unless (plan_rows p content.db) (plan_load p content.db)) (plan_is plan e)

  pub lost_is : (plan : Plan) → plan ≡ optimise (write_plan s sources) → plan_rows plan content.db ≡ None → plan_load plan content.db ≡ change_lost s content.db
  lost_is plan e none =
      ap (λ (o : Option (List (List Cell))). lost_unless o (plan_load plan content.db)) (sym none) ∙ ap (λ (p : Plan). lost_unless (plan_rows p content.db) (plan_load p content.db)) (plan_is plan e)
