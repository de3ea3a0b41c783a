-- An ordered log has ordered lines.
use Rattle.std.proofs.Common.{◌≡◌, ℕ, zero, suc, ◌+◌, ◌≤◌, List, [], ◌∷◌, ◌++◌, map, length, Bool, true, false, cond, Option, Some, None, Result, Ok, Err, refl, ap, sym, ◌∙◌, subst}
use Rattle.std.specs.Prelude.{filter, slice_get, ◌==◌}
use Rattle.std.specs.List.{AllByRecursion}
use Rattle.std.proofs.lemmas.List.{map-append}
use Rattle.std.proofs.lemmas.Option.{same_Some}
use Rattle.cell_core.specs.declared.cell.Cell.{Cell}
use Rattle.cell_core.specs.declared.table.Db.{Db}
use Rattle.mal_meaning.specs.declared.plan.Plan.{Plan}
use Rattle.plan_queries.specs.Plans.{plan_over}
use Rattle.reply_layout.specs.Doings.{Doing, query_doing, shown_in}
use Rattle.sql_definitions.specs.Answer.{answer}
use Rattle.sql_definitions.specs.Check.{check_refusal}
use Rattle.sql_definitions.specs.Sources.{schema_of}
use Rattle.sql_definitions.specs.declared.refusal.Refusal.{Refusal}
use Rattle.sql_tree.specs.Tree.{StmtTree}
use Rattle.sql_tree.specs.Tree.StmtTree.{CreateTable, DropTable, AlterTable, InsertInto, DeleteFrom, UpdateTable, Select, ExplainSelect}
use Rattle.run_log.specs.Events.{ActTree, EventTree}
use Rattle.answer_text.specs.Log.{IsOrdered, acts_in, doing_over, is_of_pool, logged_of, tables_met}
use Rattle.answer_text.specs.Log as log_specs
use Rattle.audit_definitions.specs.Honest.{AreOrdered, AreStatements, IsNoExplain, own_acts, plain_doing, told_of, with_between}
use Rattle.audit_definitions.specs.Lines.{Line, LineAct, IsPool}
use Rattle.audit_definitions.specs.Places.{tables_before}
use Rattle.audit_laws.proofs.LineLemmas.{IsShort, act_of, line_of, lines_of, pool_same}
use Rattle.audit_laws.proofs.PlaceLemmas.{tables_same}

-- ## What a statement does

-- the same acts and the same reply, with plans and without
record AreSame (plain : Doing (Unit {0})) (doing : Doing Plan) : Type 0 where
  acts : map act_of (acts_in doing) ≡ own_acts plain
  shown : shown_in doing ≡ shown_in plain

query_same : (refusal : Option Refusal) (plan : Plan) (rows : Option (List (List Cell))) → AreSame (query_doing refusal tt rows) (query_doing refusal plan rows)
query_same (Some refusal) plan rows = record { acts = refl; shown = refl }
query_same None plan rows = record { acts = refl; shown = refl }

doing_same : (db : Db) (reading : Result StmtTree Refusal) → IsNoExplain reading → AreSame (plain_doing db reading) (doing_over db reading)
doing_same db (Err refusal) plain = record { acts = refl; shown = refl }
doing_same db (Ok (Select query)) plain = query_same (check_refusal (Select query) (schema_of db)) (plan_over db query) (answer query db)
doing_same db (Ok (ExplainSelect query)) plain = absurd plain
doing_same db (Ok (CreateTable table columns)) plain = record { acts = refl; shown = refl }
doing_same db (Ok (DropTable table)) plain = record { acts = refl; shown = refl }
doing_same db (Ok (AlterTable table column)) plain = record { acts = refl; shown = refl }
doing_same db (Ok (InsertInto table listed rows)) plain = record { acts = refl; shown = refl }
doing_same db (Ok (DeleteFrom table condition)) plain = record { acts = refl; shown = refl }
doing_same db (Ok (UpdateTable table sets condition)) plain = record { acts = refl; shown = refl }

-- the same reply by lines as by events
pub shown_same : (log : List EventTree) (session statement : ℕ) (reading : Result StmtTree Refusal) → IsNoExplain reading
    → shown_in (doing_over (tables_met log session statement) reading) ≡ shown_in (plain_doing (tables_before (lines_of log) session statement) reading)
shown_same log session statement reading plain =
    (doing_same (tables_met log session statement) reading plain).shown
    ∙ ap (λ db. shown_in (plain_doing db reading)) (sym (tables_same log session statement))

-- ## Lists

all_front : {X : Type 0} (P : X → Type 0) (xs ys : List X) → AllByRecursion P (xs ++ ys) → AllByRecursion P xs
all_front P [] ys all = tt
all_front P (x ∷ xs) ys all = (all.0, all_front P xs ys all.1)

all_back : {X : Type 0} (P : X → Type 0) (xs ys : List X) → AllByRecursion P (xs ++ ys) → AllByRecursion P ys
all_back P [] ys all = all
all_back P (x ∷ xs) ys all = all_back P xs ys all.1

all_at : {X : Type 0} (P : X → Type 0) (xs : List X) (i : ℕ) (x : X) → AllByRecursion P xs → slice_get xs i ≡ Some x → P x
all_at P [] zero x all here = cc
all_at P [] (suc i) x all here = cc
all_at P (y ∷ xs) zero x all here = subst P (same_Some y x here) all.0
all_at P (y ∷ xs) (suc i) x all here = all_at P xs i x all.1 here

-- ## The acts of a statement

pools_same : (acts : List ActTree) → AllByRecursion (λ act. is_of_pool act ≡ true) acts → AllByRecursion IsShort acts → AllByRecursion IsPool (map act_of acts)
pools_same [] all short = tt
pools_same (act ∷ acts) all short = (pool_same act all.0 short.0, pools_same acts all.1 short.1)

-- acts between others, as lines between the others' lines
abbrev AreBetween : List ActTree → List ActTree → Type 0
AreBetween acts own = (more : List LineAct) × AllByRecursion IsPool more × (map act_of acts ≡ with_between more (map act_of own))

between_same : (between own : List ActTree) → AllByRecursion (λ act. is_of_pool act ≡ true) between → AllByRecursion IsShort (log_specs.with_between between own) → AreBetween (log_specs.with_between between own) own
between_same between [] all short = ([], tt, refl)
between_same between (one ∷ []) all short = ([], tt, refl)
between_same between (first ∷ last ∷ []) all short =
    (map act_of between, pools_same between all (all_front IsShort between (last ∷ []) short.1), ap (λ acts. act_of first ∷ acts) (map-append act_of between (last ∷ [])))
between_same between (one ∷ two ∷ three ∷ own) all short = ([], tt, refl)

-- ## The acts of a session

abbrev entry_of : ℕ × ActTree → ℕ × LineAct
entry_of entry = (entry.0, act_of entry.1)

abbrev IsShortEntry : ℕ × ActTree → Type 0
IsShortEntry entry = IsShort entry.1

numbered : (k : ℕ) (acts : List ActTree) → map entry_of (map {B = ℕ × ActTree} (λ act. (k, act)) acts) ≡ map {B = ℕ × LineAct} (λ act. (k, act)) (map act_of acts)
numbered k [] = refl
numbered k (act ∷ acts) = ap (λ entries. (k, act_of act) ∷ entries) (numbered k acts)

short_acts : (k : ℕ) (acts : List ActTree) → AllByRecursion IsShortEntry (map {B = ℕ × ActTree} (λ act. (k, act)) acts) → AllByRecursion IsShort acts
short_acts k [] short = tt
short_acts k (act ∷ acts) short = (short.0, short_acts k acts short.1)

statements_same : (log : List EventTree) (session k : ℕ) (readings : List (Result StmtTree Refusal)) (logged : List (ℕ × ActTree)) → AllByRecursion IsNoExplain readings → AllByRecursion IsShortEntry logged
    → log_specs.AreStatements log session k readings logged → AreStatements (lines_of log) session k readings (map entry_of logged)
statements_same log session k [] logged plain short are = ap (λ entries. map entry_of entries) are
statements_same log session k (reading ∷ readings) logged plain short (acts, later, split, (between, all, planned, is), rest) =
    let db = tables_met log session k in
    let own : List ActTree = acts_in (doing_over db reading) in
    let parts : AllByRecursion IsShortEntry (map {B = ℕ × ActTree} (λ act. (k, act)) acts ++ later) = subst (AllByRecursion IsShortEntry) split short in
    let short_here : AllByRecursion IsShort acts = short_acts k acts (all_front IsShortEntry (map {B = ℕ × ActTree} (λ act. (k, act)) acts) later parts) in
    let made : AreBetween (log_specs.with_between between own) own = between_same between own all (subst (AllByRecursion IsShort) is short_here) in (
      map act_of acts,
      map entry_of later,
      ap (λ entries. map entry_of entries) split ∙ map-append entry_of (map {B = ℕ × ActTree} (λ act. (k, act)) acts) later ∙ ap (λ entries. entries ++ map entry_of later) (numbered k acts),
      (
        made.0,
        made.1,
        ap (λ these. map act_of these) is ∙ made.2
            ∙ ap (with_between made.0) ((doing_same db reading plain.0).acts ∙ ap (λ tables. own_acts (plain_doing tables reading)) (sym (tables_same log session k))),
      ),
      statements_same log session (k + 1) readings later plain.1 (all_back IsShortEntry (map {B = ℕ × ActTree} (λ act. (k, act)) acts) later parts) rest,
    )

-- a line and an event of a session, with their statement's number
abbrev told_entry : Line → ℕ × LineAct
told_entry line = (line.statement, line.act)

abbrev logged_entry : EventTree → ℕ × ActTree
logged_entry event = (event.statement, event.act)

told_same : (session : ℕ) (log : List EventTree) → told_of session (lines_of log) ≡ map entry_of (logged_of session log)
told_same session [] = refl
told_same session (event ∷ log) = go (told_same session log) (event.session == session)
  where
    go : told_of session (lines_of log) ≡ map entry_of (logged_of session log) → (b : Bool)
        → map told_entry (cond b (line_of event ∷ filter (λ (line : Line). line.session == session) (lines_of log)) (filter (λ (line : Line). line.session == session) (lines_of log)))
        ≡ map entry_of (map logged_entry (cond b (event ∷ filter (λ (e : EventTree). e.session == session) log) (filter (λ (e : EventTree). e.session == session) log)))
    go same true = ap (λ entries. (event.statement, act_of event.act) ∷ entries) same
    go same false = same

short_logged : (session : ℕ) (log : List EventTree) → AllByRecursion (λ (event : EventTree). IsShort event.act) log → AllByRecursion IsShortEntry (logged_of session log)
short_logged session [] short = tt
short_logged session (event ∷ log) short = go (short_logged session log short.1) (event.session == session)
  where
    go : AllByRecursion IsShortEntry (logged_of session log) → (b : Bool)
        → AllByRecursion IsShortEntry (map logged_entry (cond b (event ∷ filter (λ (e : EventTree). e.session == session) log) (filter (λ (e : EventTree). e.session == session) log)))
    go later true = (short.0, later)
    go later false = later

sessions_same : (n : ℕ) (log : List EventTree) → AllByRecursion (λ (event : EventTree). (1 ≤ event.session) × (event.session ≤ n)) log → AllByRecursion (λ (line : Line). (1 ≤ line.session) × (line.session ≤ n)) (lines_of log)
sessions_same n [] all = tt
sessions_same n (event ∷ log) all = (all.0, sessions_same n log all.1)

pub ordered_same : (scripts : List (List (Result StmtTree Refusal))) (log : List EventTree) → AllByRecursion (AllByRecursion IsNoExplain) scripts → AllByRecursion (λ (event : EventTree). IsShort event.act) log
    → IsOrdered scripts log → AreOrdered scripts (lines_of log)
ordered_same scripts log plain short is = record {
  sessions = sessions_same (length scripts) log is.sessions;
  statements = λ i readings here.
      subst (AreStatements (lines_of log) (i + 1) 1 readings) (sym (told_same (i + 1) log))
      (statements_same log (i + 1) 1 readings (logged_of (i + 1) log) (all_at (AllByRecursion IsNoExplain) scripts i readings plain here) (short_logged (i + 1) log short) (is.statements i readings here));
}
