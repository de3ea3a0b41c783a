-- What CREATE, DROP and ALTER come to.
use Rattle.std.proofs.Common.{◌≡◌, ℕ, List, [], ◌∷◌, length, Bool, true, false, Option, Some, None, refl, ap, sym, ◌∙◌}
use Rattle.std.specs.Prelude.{Result, Ok, Err, slice_get}
use Rattle.std.specs.List.{list_any}
use Rattle.std.specs.Option.{option_map_or}
use Rattle.cell_core.specs.declared.table.Column.{Column}
use Rattle.cell_core.specs.declared.table.Table.{Table}
use Rattle.cell_core.specs.declared.table.Db.{Db}
use Rattle.cell_core.specs.Tables.{all_columns, named_table, names_in, row_count}
use Rattle.sql_tree.specs.Tree.{StmtTree}
use Rattle.sql_tree.specs.Tree.StmtTree.{CreateTable, DropTable, AlterTable}
use Rattle.sql_definitions.specs.declared.refusal.Refusal.{Refusal}
use Rattle.sql_definitions.specs.declared.refusal.Refusal.TheVariants.{TextTooLong}
use Rattle.sql_definitions.specs.declared.refusal.Reply.{Reply}
use Rattle.sql_definitions.specs.declared.refusal.Reply.TheVariants.{Refused}
use Rattle.sql_definitions.specs.Check.{check_refusal, refused_if}
use Rattle.sql_definitions.specs.Effect.{accepted, altered, column_refused, done_by, effect, effect_unless, is_long_default, unless_refused}
use Rattle.sql_definitions.specs.Sources.{schema_of}
use Rattle.pool_policy.specs.declared.touched.Touched.{Touched}
use Rattle.run_log.specs.Touches.{touched_by}
use Rattle.table_store.specs.Changes.{IsPrepared, with_last_column, with_table, without_table}
use Rattle.table_store.specs.Content.{Content}
use Rattle.store_changes.specs.declared.outcome.Ready.{Ready}
use Rattle.store_changes.specs.Outcomes.{reply_with}
use Rattle.store_changes.specs.Rewrites.{ComesTo}
use Rattle.store_changes.proofs.NamedLemmas.{absent}

-- ## What is accepted

pub effect_accepted : (stmt : StmtTree) (db : Db) → check_refusal stmt (schema_of db) ≡ None → effect stmt db ≡ accepted stmt db
effect_accepted stmt db e = ap (λ r. effect_unless r stmt db) e

-- a statement that is refused
pub refused_comes : (stmt : StmtTree) (content : Content) (refusal : Refusal) → effect stmt content.db ≡ (content.db, Refused refusal) → ComesTo stmt content (Err refusal)
refused_comes stmt content refusal e = record { effect_is = e; prepared = tt; touched = tt }

pub check_comes : (stmt : StmtTree) (content : Content) (refusal : Refusal) → check_refusal stmt (schema_of content.db) ≡ Some refusal → ComesTo stmt content (Err refusal)
check_comes stmt content refusal e = refused_comes stmt content refusal (ap (λ r. effect_unless r stmt content.db) e)

-- a change that is prepared
pub ready_comes : (stmt : StmtTree) (content : Content) (ready : Ready) (db : Db) (rows : Option ℕ) (touched : Touched) → effect stmt content.db ≡ (db, reply_with rows) → IsPrepared ready.change content
    → ready.change.content.db ≡ db → ready.rows ≡ rows → ready.change.touched ≡ touched → touched ≡ touched_by stmt content.db → ComesTo stmt content (Ok ready)
ready_comes stmt content ready db rows touched is prepared left counted told same =
    record { effect_is = is ∙ (λ i. (sym left i, reply_with (sym counted i))); prepared = prepared; touched = told ∙ same }

module _ (content : Content) where
  -- ## CREATE

  module _ (name : List ℕ) (columns : List Column) (e : check_refusal (CreateTable name columns) (schema_of content.db) ≡ None) where
    abbrev made_by : Bool → Db × Reply
    made_by long = done_by (unless_refused (refused_if long TextTooLong) (with_table name columns content.db)) content.db

    pub create_long : list_any is_long_default columns ≡ true → ComesTo (CreateTable name columns) content (Err TextTooLong)
    create_long long = refused_comes (CreateTable name columns) content TextTooLong (effect_accepted (CreateTable name columns) content.db e ∙ ap made_by long)

    pub create_comes : (ready : Ready) → list_any is_long_default columns ≡ false → IsPrepared ready.change content → ready.change.content.db ≡ with_table name columns content.db → ready.rows ≡ None
        → ready.change.touched ≡ record { table = name; columns = names_in columns; old_rows = 0; added = None } → ComesTo (CreateTable name columns) content (Ok ready)
    create_comes ready short prepared left counted told =
        ready_comes (CreateTable name columns) content ready (with_table name columns content.db) None (record { table = name; columns = names_in columns; old_rows = 0; added = None })
        (effect_accepted (CreateTable name columns) content.db e ∙ ap made_by short) prepared left counted told
        (ap (λ (o : Option Table). record { table = name; columns = names_in columns; old_rows = option_map_or (λ (t : Table). length t.rows) o 0; added = None }) (sym (absent name columns content.db e)))

  -- ## DROP

  pub drop_comes : (name : List ℕ) (ready : Ready) → check_refusal (DropTable name) (schema_of content.db) ≡ None → IsPrepared ready.change content → ready.change.content.db ≡ without_table name content.db
      → ready.rows ≡ None → ready.change.touched ≡ record { table = name; columns = all_columns name content.db; old_rows = row_count name content.db; added = None } → ComesTo (DropTable name) content (Ok ready)
  drop_comes name ready e prepared left counted told =
      ready_comes (DropTable name) content ready (without_table name content.db) None (record { table = name; columns = all_columns name content.db; old_rows = row_count name content.db; added = None })
      (effect_accepted (DropTable name) content.db e) prepared left counted told refl

  -- ## ALTER

  first_refused : {X : Type 0} (refusals : List Refusal) (outcome : X) (refusal : Refusal) → slice_get refusals 0 ≡ Some refusal → unless_refused refusals outcome ≡ Err refusal
  first_refused [] outcome refusal e = cc
  first_refused (first ∷ refusals) outcome refusal e = ap Err (same first refusal e)
    where
      same : (a b : Refusal) → ◌≡◌ {A = Option Refusal} (Some a) (Some b) → a ≡ b
      same a b e = cc

  none_refused : {X : Type 0} (refusals : List Refusal) (outcome : X) → slice_get refusals 0 ≡ None → unless_refused refusals outcome ≡ Ok outcome
  none_refused [] outcome e = refl
  none_refused (first ∷ refusals) outcome e = cc

  module _ (name : List ℕ) (column : Column) (e : check_refusal (AlterTable name column) (schema_of content.db) ≡ None) (table : Table) (found : named_table name content.db ≡ Some table) where
    alter_is : effect (AlterTable name column) content.db ≡ done_by (unless_refused (column_refused column table) (with_last_column name column content.db)) content.db
    alter_is = effect_accepted (AlterTable name column) content.db e ∙ ap (λ (o : Option Table). altered name column o content.db) found

    pub alter_refused : (refusal : Refusal) → Some refusal ≡ slice_get (column_refused column table) 0 → ComesTo (AlterTable name column) content (Err refusal)
    alter_refused refusal why =
        refused_comes (AlterTable name column) content refusal
        (alter_is ∙ ap (λ (r : Result Db Refusal). done_by r content.db) (first_refused (column_refused column table) (with_last_column name column content.db) refusal (sym why)))

    pub alter_comes : (ready : Ready) → ◌≡◌ {A = Option Refusal} None (slice_get (column_refused column table) 0) → IsPrepared ready.change content → ready.change.content.db ≡ with_last_column name column content.db
        → ready.rows ≡ None → ready.change.touched ≡ record { table = name; columns = column.name ∷ []; old_rows = row_count name content.db; added = None } → ComesTo (AlterTable name column) content (Ok ready)
    alter_comes ready why prepared left counted told =
        ready_comes (AlterTable name column) content ready (with_last_column name column content.db) None (record { table = name; columns = column.name ∷ []; old_rows = row_count name content.db; added = None })
        (alter_is ∙ ap (λ (r : Result Db Refusal). done_by r content.db) (none_refused (column_refused column table) (with_last_column name column content.db) (sym why)))
        prepared left counted told refl
