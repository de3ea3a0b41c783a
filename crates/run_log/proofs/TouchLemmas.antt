-- What a write adds to columns, and how it moves their versions.
use Rattle.std.proofs.Common.{◌≡◌, ℕ, List, [], ◌∷◌, ◌++◌, map, Bool, true, false, ◌&&◌, ◌||◌, cond, Option, Some, None, refl, ap, sym, ◌∙◌, subst}
use Rattle.std.specs.Prelude.{bytes_eq, drop, Contains}
use Rattle.std.specs.List.{list_any}
use Rattle.std.specs.Option.{option_map_or}
use Rattle.std.proofs.lemmas.Bool.{and_parts}
use Rattle.cell_core.specs.declared.table.Column.{Column}
use Rattle.cell_core.specs.declared.table.Table.{Table}
use Rattle.cell_core.specs.declared.table.Db.{Db}
use Rattle.cell_core.specs.Pairs.{Pairs}
use Rattle.cell_core.specs.Tables.{all_columns, has_column, named_table}
use Rattle.mal_meaning.specs.Meaning.{column_pairs}
use Rattle.subsume.proofs.Members.{In, in_from_contains, map_in}
use Rattle.reuse_laws.specs.Grown.{AreFrom}
use Rattle.sql_tree.specs.Tree.{StmtTree}
use Rattle.sql_tree.specs.Tree.StmtTree.{CreateTable, DropTable, AlterTable, InsertInto, DeleteFrom, UpdateTable, Select, ExplainSelect}
use Rattle.sql_definitions.specs.Effect.{effect}
use Rattle.sql_definitions.specs.declared.refusal.Refusal.{Refusal}
use Rattle.sql_definitions.specs.declared.refusal.Reply.TheVariants.{Refused}
use Rattle.sql_kinds.proofs.NameLemmas.{same_name, own_name, other_name}
use Rattle.pool_policy.specs.declared.touched.Touched.{Touched}
use Rattle.pool_policy.specs.Versions.{Moves, Versions, is_of}
use Rattle.run_log.specs.Fold.{moved}
use Rattle.run_log.specs.Touches.{touched_by, touching, whole_columns}
use Rattle.run_log.proofs.InsertLemmas.{Inserts, inserts}

-- ## Columns by their names

either_way : (a b : List ℕ) → bytes_eq a b ≡ bytes_eq b a
either_way a b = go (bytes_eq a b) refl
  where
    go : (x : Bool) → bytes_eq a b ≡ x → x ≡ bytes_eq b a
    go true e = sym (ap (bytes_eq b) (same_name a b e) ∙ own_name b)
    go false e = sym (other_name a b e)

named_is_had : (name : List ℕ) (columns : List Column) → list_any (bytes_eq name) (map (λ (c : Column). c.name) columns) ≡ list_any (λ (c : Column). bytes_eq c.name name) columns
named_is_had name [] = refl
named_is_had name (column ∷ columns) = λ i. either_way name column.name i || named_is_had name columns i

-- a column among those of a table is there
pub had_of : (name column : List ℕ) (db : Db) → list_any (bytes_eq column) (all_columns name db) ≡ has_column name column db
had_of name column db = go (named_table name db)
  where
    go : (found : Option Table) → list_any (bytes_eq column) (option_map_or (λ (t : Table). map (λ (c : Column). c.name) t.columns) found []) ≡ option_map_or (λ (t : Table). list_any (λ (c : Column). bytes_eq c.name column) t.columns) found false
    go None = refl
    go (Some t) = named_is_had column t.columns

-- ## What is added

-- a column that was added to: the old cells, followed by the new ones
pub record Adds (write : Touched) (old new : Db) (column : List ℕ × Pairs) : Type 0 where
  pub from : AreFrom write.old_rows (drop write.old_rows column.1)
  pub is : column_pairs write.table column.0 new ≡ column.1
  pub whole : column.1 ≡ column_pairs write.table column.0 old ++ drop write.old_rows column.1

abbrev pub IsAccepted : StmtTree → Db → Type 0
IsAccepted stmt db = (refusal : Refusal) → (effect stmt db).1 ≡ Refused refusal → ⊥

insert_adds : (name : List ℕ) (listed : List (List ℕ)) (rows : _) (db : Db) → IsAccepted (InsertInto name listed rows) db → (column : List ℕ × Pairs)
    → In column (whole_columns name (effect (InsertInto name listed rows) db).0) → Adds (touched_by (InsertInto name listed rows) db) db (effect (InsertInto name listed rows) db).0 column
insert_adds name listed rows db accepted column i =
    let found = map_in (λ (n : List ℕ). (n, column_pairs name n (effect (InsertInto name listed rows) db).0)) (all_columns name (effect (InsertInto name listed rows) db).0) column i in
    let told : Inserts name found.0 db (effect (InsertInto name listed rows) db).0 = inserts name listed rows db found.0 accepted in
    subst (Adds (touched_by (InsertInto name listed rows) db) db (effect (InsertInto name listed rows) db).0) (sym found.2) (record { from = told.grown.from; is = refl; whole = told.grown.whole })

none_added : (write : Touched) (old new : Db) → write.added ≡ None → (added : List (List ℕ × Pairs)) → write.added ≡ Some added → (column : List ℕ × Pairs) → Contains added column → Adds write old new column
none_added write old new none added is column c = let wrong : ◌≡◌ {A = Option (List (List ℕ × Pairs))} None (Some added) = sym none ∙ is in cc

pub touched_adds : (stmt : StmtTree) (db : Db) → IsAccepted stmt db → (added : List (List ℕ × Pairs)) → (touched_by stmt db).added ≡ Some added → (column : List ℕ × Pairs) → Contains added column
    → Adds (touched_by stmt db) db (effect stmt db).0 column
touched_adds (CreateTable name columns) db accepted added is column c = none_added (touched_by (CreateTable name columns) db) db (effect (CreateTable name columns) db).0 refl added is column c
touched_adds (DropTable name) db accepted added is column c = none_added (touched_by (DropTable name) db) db (effect (DropTable name) db).0 refl added is column c
touched_adds (AlterTable name new) db accepted added is column c = none_added (touched_by (AlterTable name new) db) db (effect (AlterTable name new) db).0 refl added is column c
touched_adds (InsertInto name listed rows) db accepted added is column c =
    let same : whole_columns name (effect (InsertInto name listed rows) db).0 ≡ added = cc in
    insert_adds name listed rows db accepted column (subst (In column) (sym same) (in_from_contains added column c))
touched_adds (DeleteFrom name condition) db accepted added is column c = none_added (touched_by (DeleteFrom name condition) db) db (effect (DeleteFrom name condition) db).0 refl added is column c
touched_adds (UpdateTable name sets condition) db accepted added is column c = none_added (touched_by (UpdateTable name sets condition) db) db (effect (UpdateTable name sets condition) db).0 refl added is column c
touched_adds (Select query) db accepted added is column c = none_added (touched_by (Select query) db) db (effect (Select query) db).0 refl added is column c
touched_adds (ExplainSelect query) db accepted added is column c = none_added (touched_by (ExplainSelect query) db) db (effect (ExplainSelect query) db).0 refl added is column c

-- ## Versions

-- what was added to is there
abbrev pub IsThere : StmtTree → Db → Type 0
IsThere stmt db = (added : List (List ℕ × Pairs)) → (touched_by stmt db).added ≡ Some added → (table column : List ℕ) → is_of (touched_by stmt db) table column ≡ true → has_column table column (effect stmt db).0 ≡ true

none_there : (added : List (List ℕ × Pairs)) → ◌≡◌ {A = Option (List (List ℕ × Pairs))} None (Some added) → {X : Type 0} → X
none_there added is = cc

pub touched_there : (stmt : StmtTree) (db : Db) → IsAccepted stmt db → IsThere stmt db
touched_there (CreateTable name columns) db accepted added is table column of = none_there added is
touched_there (DropTable name) db accepted added is table column of = none_there added is
touched_there (AlterTable name new) db accepted added is table column of = none_there added is
touched_there (InsertInto name listed rows) db accepted added is table column of =
    let both = and_parts (bytes_eq table name) (list_any (bytes_eq column) (all_columns name db)) of in
    ap (λ n. has_column n column (effect (InsertInto name listed rows) db).0) (same_name table name both.0)
    ∙ (inserts name listed rows db column accepted).had ∙ sym (had_of name column db) ∙ both.1
touched_there (DeleteFrom name condition) db accepted added is table column of = none_there added is
touched_there (UpdateTable name sets condition) db accepted added is table column of = none_there added is
touched_there (Select query) db accepted added is table column of = none_there added is
touched_there (ExplainSelect query) db accepted added is table column of = none_there added is

pub touched_moves : (stmt : StmtTree) (db : Db) (now : ℕ) (versions : Versions) → IsAccepted stmt db → Moves (touched_by stmt db) now versions (moved (touched_by stmt db) (effect stmt db).0 now versions)
touched_moves stmt db now versions accepted = record {
  others = λ table column out. ap (λ b. cond b (cond (has_column table column (effect stmt db).0) now 0) (versions table column)) out;
  added = λ added is table column of.
      ap (λ b. cond b (cond (has_column table column (effect stmt db).0) now 0) (versions table column)) of
      ∙ ap (λ b. cond b now 0) (touched_there stmt db accepted added is table column of);
}
