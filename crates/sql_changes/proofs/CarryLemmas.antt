-- What a plan that is carried out leaves of a database, and its reply.
use Rattle.std.proofs.Common.{◌≡◌, ℕ, List, refl, ap, sym, ◌∙◌, Option, Some, None, IsSome}
use Rattle.std.specs.Prelude.{Result, Ok, Err, IfOk}
use Rattle.cell_core.specs.declared.table.Table.{Table}
use Rattle.cell_core.specs.declared.table.Db.{Db}
use Rattle.sql_tree.specs.Names.{name_text}
use Rattle.sql_tree.specs.Tree.{StmtTree}
use Rattle.sql_definitions.specs.declared.refusal.Refusal.{Refusal}
use Rattle.sql_definitions.specs.declared.refusal.Refusal.TheVariants.{NoTable}
use Rattle.sql_definitions.specs.declared.refusal.Reply.{Reply}
use Rattle.sql_definitions.specs.declared.refusal.Reply.TheVariants as reply
use Rattle.sql_definitions.specs.Sources.{schema_of}
use Rattle.sql_definitions.specs.Check.{check_refusal}
use Rattle.sql_definitions.specs.Effect.{Change, changed, changed_by, accepted, effect, effect_unless}
use Rattle.sql_definitions.proofs.RefusedLemmas.{accepted_leaves}
use Rattle.sql_changes.specs.declared.plan.Work.{Work}
use Rattle.sql_changes.specs.declared.plan.PlannedChange.{PlannedChange}
use Rattle.sql_changes.specs.declared.plan.PlannedChange.TheVariants.{Refused, Accepted}
use Rattle.sql_changes.specs.Plans.{change_of, reworked, touched_by}

-- a plan as a change of a table
abbrev pub planned : PlannedChange → Table → Change
planned plan table = change_of plan table.rows

abbrev done_with : ℕ → List Table → Db × Reply
done_with n tables = (record { tables = tables }, reply.Rows n)

pub refused_done : (name : List ℕ) (refusal : Refusal) (found : Option Table) (db : Db) → IsSome found
    → (db, reply.Refused refusal) ≡ changed name (planned (Refused refusal)) found db
refused_done name refusal None db is = cc
refused_done name refusal (Some table) db is = refl

pub accepted_done : (name : List ℕ) (work : Work) (found : Option Table) (db after : Db) (n : ℕ) → IsSome found
    → after.tables ≡ reworked name work found db.tables → n ≡ touched_by work
    → (after, reply.Rows n) ≡ changed name (planned (Accepted work)) found db
accepted_done name work None db after n is e f = cc
accepted_done name work (Some table) db after n is e f =
    ap (done_with n) e ∙ ap (λ k. done_with k (reworked name work (Some table) db.tables)) f

-- the same change of the table that is found
pub same_change : (name : List ℕ) (plan : PlannedChange) (change : Table → Change) (found : Option Table) (table : Table) (db : Db) (outcome : Db × Reply)
    → Some table ≡ found → change_of plan table.rows ≡ change table
    → outcome ≡ changed name (planned plan) found db → outcome ≡ changed name change found db
same_change name plan change found table db outcome is e o =
    o ∙ ap (λ (f : Option Table). changed name (planned plan) f db) (sym is)
    ∙ ap (λ (c : Change). changed_by name c db) e
    ∙ ap (λ (f : Option Table). changed name change f db) is

-- no table with the name
pub not_there : (name : List ℕ) (change : Table → Change) (found : Option Table) (db : Db) (r : Reply)
    → None ≡ found → r ≡ reply.Refused (NoTable (name_text name)) → (db, r) ≡ changed name change found db
not_there name change found db r is e =
    ap (λ (x : Reply). (db, x)) e ∙ ap (λ (f : Option Table). changed name change f db) is

-- where the check has no refusal, what an accepted statement does is its effect
pub effect_is : (stmt : StmtTree) (db : Db) → check_refusal stmt (schema_of db) ≡ None → accepted stmt db ≡ effect stmt db
effect_is stmt db e = ap (λ (r : Option Refusal). effect_unless r stmt db) (sym e)

-- ## Refused statements

pub refused_leaves : {E : Type 0} (stmt : StmtTree) (before after : Db) (outcome : Result Reply E) (refusal : Refusal)
    → IfOk outcome (λ r. (after, r) ≡ accepted stmt before) → outcome ≡ Ok (reply.Refused refusal) → after ≡ before
refused_leaves stmt before after (Err m) refusal done e = cc
refused_leaves stmt before after (Ok r) refusal done e =
    let same : r ≡ reply.Refused refusal = cc in
    let both : (after, reply.Refused refusal) ≡ accepted stmt before = ap (λ (x : Reply). (after, x)) (sym same) ∙ done in
    ap (λ (p : Db × Reply). p.0) both ∙ accepted_leaves stmt before refusal (sym (ap (λ (p : Db × Reply). p.1) both))

pub refused_copy : {E : Type 0} (stmt : StmtTree) (db left : Db) (outcome : Result (Db × Reply) E) (refusal : Refusal)
    → IfOk outcome (λ o. o ≡ accepted stmt db) → outcome ≡ Ok (left, reply.Refused refusal) → left ≡ db
refused_copy stmt db left (Err m) refusal done e = cc
refused_copy stmt db left (Ok o) refusal done e =
    let same : o ≡ (left, reply.Refused refusal) = cc in
    let both : (left, reply.Refused refusal) ≡ accepted stmt db = sym same ∙ done in
    ap (λ (p : Db × Reply). p.0) both ∙ accepted_leaves stmt db refusal (sym (ap (λ (p : Db × Reply). p.1) both))
