-- What CREATE and ALTER leave of a database, and their replies.
use Rattle.std.proofs.Common.{◌≡◌, ℕ, ◌+◌, ◌==◌, List, [], ◌∷◌, ◌++◌, length, map, Bool, true, false, not, ◌&&◌, refl, ap, sym, ◌∙◌, Option, Some, None}
use Rattle.std.specs.Prelude.{codes, nat_lt, slice_get, Result}
use Rattle.std.specs.List.{list_any}
use Rattle.cell_core.specs.declared.table.Column.{Column}
use Rattle.cell_core.specs.declared.table.Table.{Table}
use Rattle.cell_core.specs.declared.table.Db.{Db}
use Rattle.cell_core.specs.Tables.{with_column}
use Rattle.sql_definitions.specs.declared.refusal.Refusal.{Refusal}
use Rattle.sql_definitions.specs.declared.refusal.Refusal.TheVariants.{TextTooLong, NullStored, Limit}
use Rattle.sql_definitions.specs.declared.refusal.Reply.{Reply}
use Rattle.sql_definitions.specs.declared.refusal.Reply.TheVariants as reply
use Rattle.sql_definitions.specs.Check.{refused_if}
use Rattle.sql_definitions.specs.Effect.{unless_refused, is_long_default, is_null_refused, column_limit, created, done_by, column_refused, altered}
use Rattle.sql_changes.specs.Parts.{alter_refusal}
use Rattle.sql_changes.proofs.RefusalLemmas.{first_is, refused_as, accepted_as}

-- ## CREATE

abbrev created_if : Bool → Db → Db → Db × Reply
created_if long left db = done_by (unless_refused (refused_if long TextTooLong) left) db

pub created_not : (name : List ℕ) (columns : List Column) (db : Db) → list_any is_long_default columns ≡ true → (db, reply.Refused TextTooLong) ≡ created name columns db
created_not name columns db e = sym (ap (λ b. created_if b (record { tables = db.tables ++ record { name = name; columns = columns; rows = [] } ∷ [] }) db) e)

pub created_is : (name : List ℕ) (columns : List Column) (db after : Db) → list_any is_long_default columns ≡ false
    → after.tables ≡ db.tables ++ record { name = name; columns = columns; rows = [] } ∷ [] → (after, reply.Done) ≡ created name columns db
created_is name columns db after e f =
    ap (λ (l : List Table). let left : Db = record { tables = l } in (left, reply.Done)) f
    ∙ sym (ap (λ b. created_if b (record { tables = db.tables ++ record { name = name; columns = columns; rows = [] } ∷ [] }) db) e)

-- ## ALTER

-- why the column isn't added to a table with so many columns and rows
pub alter_first : (column : Column) (columns rows : ℕ) (table : Table) → length table.columns ≡ columns → length table.rows ≡ rows → alter_refusal column columns rows ≡ slice_get (column_refused column table) 0
alter_first column columns rows table e f =
    ap (λ n. alter_refusal column n rows) (sym e) ∙ ap (alter_refusal column (length table.columns)) (sym f)
    ∙ first_is (is_long_default column) (is_null_refused column column.default && not (length table.rows == 0)) (nat_lt column_limit (length table.columns + 1)) TextTooLong NullStored (Limit (codes "columns"))

pub altered_not : (name : List ℕ) (column : Column) (table : Table) (found : Option Table) (db : Db) (refusal : Refusal)
    → Some table ≡ found → Some refusal ≡ slice_get (column_refused column table) 0 → (db, reply.Refused refusal) ≡ altered name column found db
altered_not name column table found db refusal is e =
    sym (ap (λ (r : Result Db Refusal). done_by r db) (refused_as (column_refused column table) (record { tables = map (with_column name column) db.tables }) refusal e))
    ∙ ap (λ (f : Option Table). altered name column f db) is

pub altered_is : (name : List ℕ) (column : Column) (table : Table) (found : Option Table) (db after : Db)
    → Some table ≡ found → None ≡ slice_get (column_refused column table) 0 → after.tables ≡ map (with_column name column) db.tables → (after, reply.Done) ≡ altered name column found db
altered_is name column table found db after is none f =
    ap (λ (l : List Table). let left : Db = record { tables = l } in (left, reply.Done)) f
    ∙ sym (ap (λ (r : Result Db Refusal). done_by r db) (accepted_as (column_refused column table) (record { tables = map (with_column name column) db.tables }) none))
    ∙ ap (λ (o : Option Table). altered name column o db) is
