-- What is decided of a checked DELETE or UPDATE is its effect on a database.
use Rattle.std.proofs.Common.{◌≡◌, ℕ, List, [], ◌∷◌, ◌++◌, map, filter, drop, Bool, true, false, ◌||◌, cond, Option, Some, None, ◌⊎◌, refl, ap, sym, ◌∙◌, inl, inr}
use Rattle.std.specs.Prelude.{Ok, Err, bytes_eq, slice_get}
use Rattle.std.specs.List.{cons_option, list_any}
use Rattle.std.specs.Option.{option_map}
use Rattle.cell_core.specs.declared.cell.Cell.{Cell}
use Rattle.cell_core.specs.declared.table.Column.{Column}
use Rattle.cell_core.specs.declared.table.Table.{Table}
use Rattle.cell_core.specs.declared.table.Db.{Db}
use Rattle.cell_core.specs.Tables.{first_named, named_table}
use Rattle.mal_meaning.specs.Meaning.{plan_rows}
use Rattle.sql_tree.specs.declared.tree.Stmt.{Stmt}
use Rattle.sql_tree.specs.declared.tree.Stmt.TheVariants as stmt
use Rattle.sql_tree.specs.declared.tree.Cond.{Cond}
use Rattle.sql_tree.specs.declared.tree.Expr.{Expr}
use Rattle.sql_tree.specs.Tree.{CondTree, StmtTree, set_tree, stmt_tree}
use Rattle.sql_tree.specs.Tree.StmtTree.{CreateTable, DropTable, AlterTable, InsertInto, DeleteFrom, UpdateTable, Select, ExplainSelect}
use Rattle.sql_grammar.specs.Formed.{IsFormed}
use Rattle.sql_definitions.specs.declared.refusal.Refusal.{Refusal}
use Rattle.sql_definitions.specs.declared.refusal.Refusal.TheVariants.{TextTooLong, NullStored, Overflow}
use Rattle.sql_definitions.specs.declared.refusal.Reply.{Reply}
use Rattle.sql_definitions.specs.declared.refusal.Reply.TheVariants as reply
use Rattle.sql_definitions.specs.declared.source.Source.{Source}
use Rattle.sql_definitions.specs.declared.source.Schema.{Schema}
use Rattle.sql_definitions.specs.Sources.{schema_of, source_named}
use Rattle.sql_definitions.specs.Check.{refused_if, check_refusal, sources_named, tables_of, over_table, delete_refusals, update_refusals}
use Rattle.sql_definitions.specs.Kept.{cond_overflows}
use Rattle.sql_definitions.specs.Effect.{Change, accepted, changed, changed_by, effect, effect_unless, is_any_set, is_too_long_set, is_null_set, overflows_in, is_hit, unless_refused}
use Rattle.sql_kinds.proofs.NameLemmas.{own_name}
use Rattle.sql_kinds.proofs.TableLemmas.{as_source, source_is}
use Rattle.rows_to_mal.specs.Rows.{condition_of}
use Rattle.rows_to_mal.specs.Laws.{HoldsTables}
use Rattle.rows_to_mal.specs.Writes.{is_write, write_plan}
use Rattle.rows_to_mal.proofs.SameLemmas.{known, same_rows, of_rows}
use Rattle.change_plans.specs.declared.decided.Decided.{Decided}
use Rattle.change_plans.specs.Hits.{changed_table, change_of, sets_of, written, hit_rows, overflows_on, rows_written}
use Rattle.change_plans.specs.Decisions.{left_by, is_in_place, own_columns, place_of, decided_update, decided_by, reply_of}
use Rattle.change_plans.specs.Laws.{WritesGiveHits, DecisionsAreMeant, DecisionsAreInPlace, OverflowsOver}
use Rattle.change_plans.proofs.TableLemmas.{has_name, only_source}

-- ## The one table

one_named : (s : StmtTree) → is_write s ≡ true → tables_of s ≡ changed_table s ∷ []
one_named (DeleteFrom name condition) w = refl
one_named (UpdateTable name sets condition) w = refl
one_named (CreateTable name columns) w = cc
one_named (DropTable name) w = cc
one_named (AlterTable name column) w = cc
one_named (InsertInto name listed rows) w = cc
one_named (Select query) w = cc
one_named (ExplainSelect query) w = cc

module _ (s : StmtTree) (sources : List Source) (db : Db) (w : is_write s ≡ true) (tables : sources ≡ sources_named (tables_of s) (schema_of db)) where
  only_named : sources ≡ sources_named (changed_table s ∷ []) (schema_of db)
  only_named = tables ∙ ap (λ names. sources_named names (schema_of db)) (one_named s w)

  -- the statement's one table is in the database
  pub record There : Type 0 where
    pub table : Table
    pub found : named_table (changed_table s) db ≡ Some table

  module _ (table : Table) (found : named_table (changed_table s) db ≡ Some table) where
    sources_are : sources ≡ as_source table ∷ []
    sources_are = only_named ∙ only_source (changed_table s) db table found

    pub columns_are : own_columns sources ≡ table.columns
    columns_are = ap own_columns sources_are

    inside : source_named (changed_table s) (record { tables = sources }) ≡ Some (as_source table)
    inside =
        ap (λ all. source_named (changed_table s) (record { tables = all })) sources_are
        ∙ ap (λ name. cond (bytes_eq table.name name) (Some (as_source table)) None) (sym (has_name (changed_table s) db table found))
        ∙ ap (λ b. cond b (Some (as_source table)) None) (own_name table.name)

    outside : source_named (changed_table s) (schema_of db) ≡ Some (as_source table)
    outside = source_is (changed_table s) db.tables ∙ ap (option_map as_source) found

-- the refusals of a change depend on its table alone
same_check : (s : StmtTree) (a b : Schema) → is_write s ≡ true → source_named (changed_table s) a ≡ source_named (changed_table s) b → check_refusal s a ≡ check_refusal s b
same_check (DeleteFrom name condition) a b w e = ap (λ o. slice_get (over_table name o (delete_refusals condition)) 0) e
same_check (UpdateTable name sets condition) a b w e = ap (λ o. slice_get (over_table name o (update_refusals sets condition)) 0) e
same_check (CreateTable name columns) a b w e = cc
same_check (DropTable name) a b w e = cc
same_check (AlterTable name column) a b w e = cc
same_check (InsertInto name listed rows) a b w e = cc
same_check (Select query) a b w e = cc
same_check (ExplainSelect query) a b w e = cc

-- a change of a table that isn't there is refused
not_there : (s : StmtTree) (schema : Schema) → is_write s ≡ true → source_named (changed_table s) schema ≡ None → check_refusal s schema ≡ None → ⊥
not_there (DeleteFrom name condition) schema w e f = let g : slice_get (over_table name None (delete_refusals condition)) 0 ≡ None = ap (λ o. slice_get (over_table name o (delete_refusals condition)) 0) (sym e) ∙ f in cc
not_there (UpdateTable name sets condition) schema w e f = let g : slice_get (over_table name None (update_refusals sets condition)) 0 ≡ None = ap (λ o. slice_get (over_table name o (update_refusals sets condition)) 0) (sym e) ∙ f in cc
not_there (CreateTable name columns) schema w e f = cc
not_there (DropTable name) schema w e f = cc
not_there (AlterTable name column) schema w e f = cc
not_there (InsertInto name listed rows) schema w e f = cc
not_there (Select query) schema w e f = cc
not_there (ExplainSelect query) schema w e f = cc

module _ (s : StmtTree) (sources : List Source) (db : Db) (w : is_write s ≡ true) (tables : sources ≡ sources_named (tables_of s) (schema_of db)) (accepts : check_refusal s (record { tables = sources }) ≡ None) where
  pub there : There s sources db w tables
  there = by_found (named_table (changed_table s) db) refl
    where
      by_found : (o : Option Table) → named_table (changed_table s) db ≡ o → There s sources db w tables
      by_found (Some table) e = record { table = table; found = e }
      by_found None e = absurd (not_there s (record { tables = sources }) w
          (ap (λ all. source_named (changed_table s) (record { tables = all })) (only_named s sources db w tables ∙ ap (λ o. none_named o) (source_is (changed_table s) db.tables ∙ ap (option_map as_source) e))) accepts)
        where
          none_named : Option Source → List Source
          none_named o = cons_option o []

  module _ (table : Table) (found : named_table (changed_table s) db ≡ Some table) where
    accepted_there : check_refusal s (schema_of db) ≡ None
    accepted_there = same_check s (schema_of db) (record { tables = sources }) w (outside s sources db w tables table found ∙ sym (inside s sources db w tables table found)) ∙ accepts

-- ## Effects

accepted_is : (s : StmtTree) (db : Db) → is_write s ≡ true → accepted s db ≡ changed (changed_table s) (change_of s) (named_table (changed_table s) db) db
accepted_is (DeleteFrom name condition) db w = refl
accepted_is (UpdateTable name sets condition) db w = refl
accepted_is (CreateTable name columns) db w = cc
accepted_is (DropTable name) db w = cc
accepted_is (AlterTable name column) db w = cc
accepted_is (InsertInto name listed rows) db w = cc
accepted_is (Select query) db w = cc
accepted_is (ExplainSelect query) db w = cc

module _ (s : StmtTree) (sources : List Source) (db : Db) (w : is_write s ≡ true) (accepts : check_refusal s (record { tables = sources }) ≡ None) (holds : HoldsTables s sources db) where
  -- the effect is the change of the one table
  pub effect_is : (table : Table) → named_table (changed_table s) db ≡ Some table → effect s db ≡ changed_by (changed_table s) (change_of s table) db
  effect_is table found =
      ap (λ r. effect_unless r s db) (accepted_there s sources db w holds.tables accepts table found)
      ∙ accepted_is s db w
      ∙ ap (λ (o : Option Table). changed (changed_table s) (change_of s) o db) found

  -- another change that leaves the same of the table has the same effect
  pub effect_as : (change : Table → Change) → ((table : Table) → named_table (changed_table s) db ≡ Some table → change table ≡ change_of s table)
      → effect s db ≡ changed (changed_table s) change (named_table (changed_table s) db) db
  effect_as change same =
      let t = there s sources db w holds.tables accepts in
      effect_is t.table t.found
      ∙ ap (λ (c : Change). changed_by (changed_table s) c db) (sym (same t.table t.found))
      ∙ ap (λ (o : Option Table). changed (changed_table s) change o db) (sym t.found)

  pub refused_as : (table : Table) (refusal : Refusal) → named_table (changed_table s) db ≡ Some table → change_of s table ≡ Err refusal → effect s db ≡ (db, reply.Refused refusal)
  refused_as table refusal found e = effect_is table found ∙ ap (λ (c : Change). changed_by (changed_table s) c db) e

-- ## Decisions

-- the rows of a plan, where the statement is merely known to be formed
module _ (give : WritesGiveHits) (s : StmtTree) (sources : List Source) (w : is_write s ≡ true) (formed : ∥ IsFormed s ∥₁) (accepts : check_refusal s (record { tables = sources }) ≡ None) where
  rows_known : (db : Db) (table : Table) → HoldsTables s sources db → named_table (changed_table s) db ≡ Some table → plan_rows (write_plan s sources) db ≡ rows_written (sets_of s) (condition_of s) table
  rows_known db table holds found = known same_rows of_rows _ _ formed (λ f. give s sources db table w f accepts holds found)

  pub decided_meant : DecisionsAreMeant → (rows : List (List Cell)) (decided : Decided) → decided ≡ decided_by s (own_columns sources) rows
      → (db : Db) (table : Table) → HoldsTables s sources db → named_table (changed_table s) db ≡ Some table → plan_rows (write_plan s sources) db ≡ Some rows → left_by decided table ≡ change_of s table
  decided_meant meant rows decided e db table holds found are =
      ap (λ d. left_by d table) e
      ∙ ap (λ columns. left_by (decided_by s columns rows) table) (columns_are s sources db w holds.tables table found)
      ∙ meant s table rows w (sym (rows_known db table holds found) ∙ are)

  pub decided_there : DecisionsAreInPlace → (rows : List (List Cell)) (decided : Decided) → decided ≡ decided_by s (own_columns sources) rows
      → (db : Db) (table : Table) → HoldsTables s sources db → named_table (changed_table s) db ≡ Some table → plan_rows (write_plan s sources) db ≡ Some rows → is_in_place decided table ≡ true
  decided_there there rows decided e db table holds found are =
      ap (λ d. is_in_place d table) e
      ∙ ap (λ columns. is_in_place (decided_by s columns rows) table) (columns_are s sources db w holds.tables table found)
      ∙ there s table rows w (sym (rows_known db table holds found) ∙ are)

  pub decided_effect : DecisionsAreMeant → (rows : List (List Cell)) (decided : Decided) → decided ≡ decided_by s (own_columns sources) rows
      → (db : Db) → HoldsTables s sources db → plan_rows (write_plan s sources) db ≡ Some rows → effect s db ≡ changed (changed_table s) (left_by decided) (named_table (changed_table s) db) db
  decided_effect meant rows decided e db holds are =
      effect_as s sources db w accepts holds (left_by decided) (λ table found. decided_meant meant rows decided e db table holds found are)

  pub overflows_known : (db : Db) (table : Table) → HoldsTables s sources db → named_table (changed_table s) db ≡ Some table → plan_rows (write_plan s sources) db ≡ None → overflows_on (sets_of s) (condition_of s) table ≡ true
  overflows_known db table holds found none = by_case (overflows_on (sets_of s) (condition_of s) table) (sym (rows_known db table holds found) ∙ none)
    where
      by_case : (b : Bool) → cond b None (Some (map (written (sets_of s) table) (hit_rows (condition_of s) table))) ≡ None → b ≡ true
      by_case true e = refl
      by_case false e = cc

-- ## Refusals

any_none : {X : Type 0} (xs : List X) → list_any (λ (x : X). false) xs ≡ false
any_none [] = refl
any_none (x ∷ xs) = any_none xs

-- where the last cause holds, there is some refusal
last_refused : {X : Type 0} (before : List Refusal) (left outcome : X) (b : Bool) → b ≡ true → unless_refused (before ++ refused_if b Overflow) left ≡ Ok outcome → ⊥
last_refused [] left outcome true e f = cc
last_refused [] left outcome false e f = cc
last_refused (refusal ∷ before) left outcome b e f = cc

delete_overflows : (condition : Option CondTree) (table : Table) → overflows_on [] condition table ≡ true → cond_overflows condition ≡ true
delete_overflows condition table e = by_case (cond_overflows condition) (is_any_set (overflows_in table) [] (filter (is_hit condition table) table.rows)) (any_none (filter (is_hit condition table) table.rows)) e
  where
    by_case : (b some : Bool) → some ≡ false → (b || some) ≡ true → b ≡ true
    by_case true some none g = refl
    by_case false some none g = cc

-- a change that overflows is refused
pub overflow_refused : (s : StmtTree) (table : Table) (outcome : List (List Cell) × ℕ) → is_write s ≡ true → overflows_on (sets_of s) (condition_of s) table ≡ true → change_of s table ≡ Ok outcome → ⊥
overflow_refused (DeleteFrom name condition) table outcome w e f = last_refused [] _ outcome (cond_overflows condition) (delete_overflows condition table e) f
overflow_refused (UpdateTable name sets condition) table outcome w e f =
    last_refused (refused_if (is_any_set (is_too_long_set table) sets (filter (is_hit condition table) table.rows)) TextTooLong ++ refused_if (is_any_set (is_null_set table) sets (filter (is_hit condition table) table.rows)) NullStored)
    _ outcome (overflows_on sets condition table) e f
overflow_refused (CreateTable name columns) table outcome w e f = cc
overflow_refused (DropTable name) table outcome w e f = cc
overflow_refused (AlterTable name column) table outcome w e f = cc
overflow_refused (InsertInto name listed rows) table outcome w e f = cc
overflow_refused (Select query) table outcome w e f = cc
overflow_refused (ExplainSelect query) table outcome w e f = cc

-- ## A database of one table

pub replied_alone : (s : StmtTree) (table : Table) (db after : Db) (replied : Reply) → is_write s ≡ true → table.name ≡ changed_table s → db.tables ≡ table ∷ []
    → (after, replied) ≡ accepted s db → replied ≡ reply_of (change_of s table)
replied_alone s table db after replied w name only e =
    ap (λ (p : Db × Reply). p.1) (e ∙ accepted_is s db w ∙ ap (λ (o : Option Table). changed (changed_table s) (change_of s) o db) alone) ∙ by_change (change_of s table)
  where
    alone : named_table (changed_table s) db ≡ Some table
    alone =
        ap (first_named (changed_table s)) only ∙ ap (λ n. cond (bytes_eq table.name n) (Some table) None) (sym name)
        ∙ ap (λ b. cond b (Some table) None) (own_name table.name)

    by_change : (change : Change) → (changed_by (changed_table s) change db).1 ≡ reply_of change
    by_change (Ok outcome) = refl
    by_change (Err refusal) = refl

-- where the change overflows, the reply has its refusal
module _ (give : WritesGiveHits) (s : StmtTree) (sources : List Source) (w : is_write s ≡ true) (formed : ∥ IsFormed s ∥₁) (accepts : check_refusal s (record { tables = sources }) ≡ None)
    (table : Table) (over : OverflowsOver s sources table) where
  pub over_name : table.name ≡ changed_table s
  over_name = has_name (changed_table s) over.db table over.found

  over_here : overflows_on (sets_of s) (condition_of s) table ≡ true
  over_here = overflows_known give s sources w formed accepts over.db table over.holds over.found over.none

  pub not_done : (replied : Reply) → replied ≡ reply_of (change_of s table) → (replied ≡ reply.Done) ⊎ ((n : ℕ) × (replied ≡ reply.Rows n)) → ⊥
  not_done replied e = by_change (change_of s table) (λ outcome f. overflow_refused s table outcome w over_here f) e
    where
      by_change : (change : Change) → ((outcome : List (List Cell) × ℕ) → change ≡ Ok outcome → ⊥) → replied ≡ reply_of change → (replied ≡ reply.Done) ⊎ ((n : ℕ) × (replied ≡ reply.Rows n)) → ⊥
      by_change (Ok outcome) never f d = never outcome refl
      by_change (Err refusal) never f (inl d) = cc
      by_change (Err refusal) never f (inr d) = let g : replied ≡ reply.Rows d.0 = d.1 in cc

  pub refused_is : (replied : Reply) (refusal : Refusal) → replied ≡ reply_of (change_of s table) → replied ≡ reply.Refused refusal → change_of s table ≡ Err refusal
  refused_is replied refusal e d = by_change (change_of s table) e
    where
      by_change : (change : Change) → replied ≡ reply_of change → change ≡ Err refusal
      by_change (Ok outcome) f = cc
      by_change (Err other) f = let same : other ≡ refusal = cc in ap (λ (r : Refusal). let left : Change = Err r in left) same

-- ## Code

-- what is decided of an UPDATE
pub update_decided : (s : Stmt) (name : List ℕ) (sets : List (List ℕ × Expr)) (condition : Option Cond) (sources : List Source) (columns : List Column) (rows : List (List Cell)) (decided : Decided)
    → s ≡ stmt.Update name sets condition → columns ≡ own_columns sources
    → decided ≡ decided_update columns (map (λ set. set.0) (map set_tree sets)) (map place_of rows) (map (drop 1) rows) → decided ≡ decided_by (stmt_tree s) (own_columns sources) rows
update_decided s name sets condition sources columns rows decided is own e =
    e ∙ ap (λ cs. decided_update cs (map (λ set. set.0) (map set_tree sets)) (map place_of rows) (map (drop 1) rows)) own
    ∙ ap (λ t. decided_by (stmt_tree t) (own_columns sources) rows) (sym is)
