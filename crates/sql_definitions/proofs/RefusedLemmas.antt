-- A refused statement leaves the database as it is.
use Rattle.std.proofs.Common.{◌≡◌, ℕ, List, refl, Option, Some, None}
use Rattle.std.specs.Prelude.{Result, Ok, Err}
use Rattle.cell_core.specs.declared.cell.Cell.{Cell}
use Rattle.cell_core.specs.declared.table.Table.{Table}
use Rattle.cell_core.specs.declared.table.Db.{Db}
use Rattle.cell_core.specs.Tables.{named_table}
use Rattle.sql_tree.specs.Tree.{StmtTree}
use Rattle.sql_tree.specs.Tree.StmtTree.{CreateTable, DropTable, AlterTable, InsertInto, DeleteFrom, UpdateTable, Select, ExplainSelect}
use Rattle.sql_definitions.specs.declared.refusal.Refusal.{Refusal}
use Rattle.sql_definitions.specs.declared.refusal.Reply.{Reply}
use Rattle.sql_definitions.specs.declared.refusal.Reply.TheVariants.{Done, Rows, Refused}
use Rattle.sql_definitions.specs.Sources.{schema_of}
use Rattle.sql_definitions.specs.Check.{check_refusal}
use Rattle.sql_definitions.specs.Effect.{Change, inserted, deleted, updated, changed_by, changed, done_by, created, altered, accepted, effect_unless, effect}

done_leaves : (outcome : Result Db Refusal) (db : Db) (refusal : Refusal) → (done_by outcome db).1 ≡ Refused refusal → (done_by outcome db).0 ≡ db
done_leaves (Ok left) db refusal e = cc
done_leaves (Err other) db refusal e = refl

change_leaves : (name : List ℕ) (outcome : Change) (db : Db) (refusal : Refusal) → (changed_by name outcome db).1 ≡ Refused refusal → (changed_by name outcome db).0 ≡ db
change_leaves name (Ok outcome) db refusal e = cc
change_leaves name (Err other) db refusal e = refl

changed_leaves : (name : List ℕ) (change : Table → Change) (found : Option Table) (db : Db) (refusal : Refusal)
    → (changed name change found db).1 ≡ Refused refusal → (changed name change found db).0 ≡ db
changed_leaves name change None db refusal e = refl
changed_leaves name change (Some table) db refusal e = change_leaves name (change table) db refusal e

pub accepted_leaves : (stmt : StmtTree) (db : Db) (refusal : Refusal) → (accepted stmt db).1 ≡ Refused refusal → (accepted stmt db).0 ≡ db
accepted_leaves (CreateTable name columns) db refusal e = done_leaves _ db refusal e
accepted_leaves (DropTable name) db refusal e = cc
accepted_leaves (AlterTable name column) db refusal e = altered_leaves (named_table name db) e
  where
    altered_leaves : (found : Option Table) → (altered name column found db).1 ≡ Refused refusal → (altered name column found db).0 ≡ db
    altered_leaves None e = refl
    altered_leaves (Some table) e = done_leaves _ db refusal e
accepted_leaves (InsertInto name listed rows) db refusal e = changed_leaves name (inserted listed rows) (named_table name db) db refusal e
accepted_leaves (DeleteFrom name c) db refusal e = changed_leaves name (deleted c) (named_table name db) db refusal e
accepted_leaves (UpdateTable name sets c) db refusal e = changed_leaves name (updated sets c) (named_table name db) db refusal e
accepted_leaves (Select query) db refusal e = refl
accepted_leaves (ExplainSelect query) db refusal e = refl

pub effect_leaves : (stmt : StmtTree) (db : Db) (refusal : Refusal) → (effect stmt db).1 ≡ Refused refusal → (effect stmt db).0 ≡ db
effect_leaves stmt db refusal e = by_check (check_refusal stmt (schema_of db)) e
  where
    by_check : (found : Option Refusal) → (effect_unless found stmt db).1 ≡ Refused refusal → (effect_unless found stmt db).0 ≡ db
    by_check None e = accepted_leaves stmt db refusal e
    by_check (Some other) e = refl
