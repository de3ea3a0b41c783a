-- What an event of a book is to the session that did it.
use Rattle.std.proofs.Common.{◌≡◌, ℕ, ◌+◌, ◌<◌, List, [], ◌∷◌, ◌++◌, length, Option, Some, None, refl, ap, sym, ◌∙◌, subst}
use Rattle.std.specs.Prelude.{Bool, true, Result, Ok, Err, IfOk, slice_get}
use Rattle.std.proofs.lemmas.Option.{slice_get_within}
use Rattle.mal_meaning.specs.declared.plan.Plan.{Plan}
use Rattle.mal_meaning.specs.Meaning.{plan_rows}
use Rattle.mal_check.specs.Checked.{plan_fault}
use Rattle.mal_check.specs.Runnable.{FitsDb}
use Rattle.lineage_key.specs.declared.key.Key.{Key}
use Rattle.read_laws.specs.Answered.{Reads}
use Rattle.sql_definitions.specs.Answer.{answer_of_stmt}
use Rattle.sql_definitions.specs.Effect.{effect}
use Rattle.sql_definitions.specs.Refusals.{refusal_number}
use Rattle.sql_definitions.specs.declared.refusal.Refusal.{Refusal}
use Rattle.sql_definitions.specs.declared.refusal.Reply.{Reply}
use Rattle.plan_queries.specs.Plans.{plan_over, refusal_over}
use Rattle.store_changes.specs.Outcomes.{is_change}
use Rattle.store_changes.specs.Work.{Counts, write_lost}
use Rattle.table_store.specs.Content.{Content}
use Rattle.sql_tree.specs.declared.tree.Query.{Query as Parsed}
use Rattle.sql_tree.specs.declared.tree.Stmt.{Stmt}
use Rattle.sql_tree.specs.declared.tree.Stmt.TheVariants as stmt
use Rattle.sql_tree.specs.Tree.{QueryTree, StmtTree, stmt_tree}
use Rattle.sql_tree.specs.Tree.StmtTree.{Select, ExplainSelect}
use Rattle.pool_policy.specs.declared.options.Admitted.{Admitted}
use Rattle.pool_policy.specs.Admits.{admit_of}
use Rattle.pool_policy.specs.Looks.{look_of}
use Rattle.run_log.specs.declared.event.Act.TheVariants as act
use Rattle.run_log.specs.Fold.{LogState, key_offer, run_of}
use Rattle.reply_layout.specs.declared.shown.Shown.TheVariants as shown
use Rattle.reply_layout.specs.Doings.{code_of, count_of, shown_reply}
use Rattle.answer_text.specs.Log.{Said, shown_over, tables_met}
use Rattle.book_core.specs.Begins.{begin_act, code_in, logged_plan, marks_in, unless_refused}
use Rattle.book_core.specs.Offers.{CanOffer}
use Rattle.book_core.specs.Versions.{HasVersions}
use Rattle.book_core.specs.Writes.{write_work, written_by}
use Rattle.query_keys.specs.Laws.{id_given}
use Rattle.query_run.specs.declared.step.RunningQuery.{RunningQuery}
use Rattle.query_run.specs.declared.step.Offer.{Offer}
use Rattle.query_run.specs.declared.step.Step.{Step}
use Rattle.query_run.specs.declared.step.Step.TheVariants as step
use Rattle.bat_core.specs.declared.shared.Obj.TheVariants as obj
use Rattle.query_run.specs.Queries.{HasGained, IsLooked, IsUnderWay}
use Rattle.query_run.specs.Steps.{held}
use Rattle.pool_policy.specs.declared.entry.Who.{Who}
use Rattle.pool_policy.specs.declared.options.PoolOptions.{PoolOptions}
use Rattle.run_log.specs.declared.event.Act.{Act}
use Rattle.run_log.specs.declared.event.Event.{Event}
use Rattle.run_log.specs.declared.event.FoundLog.{FoundLog}
use Rattle.run_log.specs.Events.{ActTree, Begins, Looks, Admits, Writes, Ends, EventTree, act_tree, event_tree, log_tree, looked_of}
use Rattle.reply_layout.specs.declared.shown.Shown.{Shown}
use Rattle.book_core.specs.BookView.{BookView, event_of, is_open, now_of, state_of}
use Rattle.book_core.specs.Lawful.{IsLawful}
use Rattle.session_run.specs.declared.session.Session.{Session}
use Rattle.session_run.specs.declared.stage.Stage.{Stage}
use Rattle.session_run.specs.declared.stage.Stage.TheVariants as stage
use Rattle.session_run.specs.Progress.{progress_of}
use Rattle.session_run.specs.Kept.{IsStage, IsUnder, Stands, order_of}
use Rattle.session_run.specs.Stages.{BeginsWith, HasDone, at_stage, explained, with_reply}
use Rattle.session_run.specs.Turns.{IsNext, state_before}
use Rattle.session_run.specs.Works.{CountsInside, IsWorked, held_in}
use Rattle.session_run.proofs.OutsideLemmas.{restaged}
use Rattle.session_run.proofs.OwnLemmas.{event_by, now_is, replied, tree_more}
use Rattle.session_run.proofs.OwnWorkLemmas.{end_worked, explain_worked, look_worked, offer_worked, query_worked, write_worked}
use Rattle.session_run.proofs.CountLemmas.{begin_counts, begun_holds, end_counts, explained_holds, look_counts, offer_counts, refuse_counts, write_counts}
use Rattle.session_run.proofs.InsideLemmas.{change_done, end_shows, ends_open, statement_ends, text_refused}
use Rattle.session_run.proofs.StageLemmas.{explain_starts, query_starts}
use Rattle.session_run.proofs.TurnLemmas.{query_can_offer, query_looks, query_offers}

-- who does it
abbrev pub IsWho : Session → Who → Type 0
IsWho x who = ◌≡◌ {A = Who} who (record { session = x.number; statement = x.ended + 1 })

-- the entry of what a session does
abbrev pub entry_by : Session → Act → Event
entry_by x act = event_of (record { session = x.number; statement = x.ended + 1 }) act

-- a book's log with one more event, by this session
pub added : (old new : List Event) (who : Who) (act : Act) (x : Session) → new ≡ old ++ event_of who act ∷ [] → IsWho x who → new ≡ old ++ entry_by x act ∷ []
added old new who act x more is = more ∙ ap (λ (w : Who). old ++ event_of w act ∷ []) is

pub logged : (old new : List Event) (act : Act) (x : Session) → new ≡ old ++ entry_by x act ∷ [] → log_tree new ≡ log_tree old ++ event_by x (act_tree act) ∷ []
logged old new act x more = ap log_tree more ∙ tree_more old (entry_by x act)

-- an End has the code of the reply to its statement
abbrev pub EndsSo : List EventTree → Session → ActTree → Said → Type 0
EndsSo log x act reading = (code : ℕ) → act ≡ Ends code → code ≡ code_of (shown_over (tables_met log x.number (x.ended + 1)) reading)

-- the session has done it
pub has_done : (old new : BookView) (before made after : Session) (act : Act) → after ≡ made → new.options ≡ old.options → new.log ≡ old.log ++ entry_by before act ∷ []
    → (does : IsNext (order_of before) old.options before.pieces before.number (log_tree old.log) (event_by before (act_tree act)) × Stands old.options (log_tree old.log ++ event_by before (act_tree act) ∷ []) made)
    → IsWorked old.options (log_tree old.log ++ event_by before (act_tree act) ∷ []) made → EndsSo (log_tree old.log) before (act_tree act) does.0.reading → HasDone old new before after
has_done old new before made after act same options more does worked ends =
    let event = event_by before (act_tree act) in
    let log = logged old.log new.log act before more in
    record {
      event = entry_by before act;
      log = more;
      next = does.0;
      stands = subst (λ (o : PoolOptions). Stands o (log_tree new.log) after) (sym options) (subst (λ (l : List EventTree). Stands old.options l after) (sym log) (subst (λ (y : Session). Stands old.options (log_tree old.log ++ event ∷ []) y) (sym same) does.1));
      worked = subst (λ (o : PoolOptions). IsWorked o (log_tree new.log) after) (sym options) (subst (λ (l : List EventTree). IsWorked old.options l after) (sym log) (subst (λ (y : Session). IsWorked old.options (log_tree old.log ++ event ∷ []) y) (sym same) worked));
      ends = ends;
    }

-- whatever its stage was
pub done_as : (old new : BookView) (x after : Session) (now : Stage) → HasDone old new (at_stage x now) after → HasDone old new x after
done_as old new x after now d = record {
  event = d.event;
  log = d.log;
  next = record { piece = d.next.piece; here = d.next.here; reading = d.next.reading; read = d.next.read; own = d.next.own; numbered = d.next.numbered; act = d.next.act };
  stands = d.stands;
  worked = d.worked;
  ends = d.ends;
}

-- the log that it leaves has one more event
pub done_log : (old new : BookView) (before after : Session) (d : HasDone old new before after) → log_tree new.log ≡ log_tree old.log ++ event_tree d.event ∷ []
done_log old new before after d = ap log_tree d.log ∙ tree_more old.log d.event

-- and its counter shows it
abbrev pub DoneSo : BookView → BookView → Session → Session → Type 0
DoneSo old new x after = HasDone old new x after × ((steps : ℕ) → CountsInside old new x after steps steps)

begins_apart : (code : ℕ) (plan : Option Plan) (last : ℕ) → Begins code plan ≡ Ends last → ⊥
begins_apart code plan last is = cc

looks_apart : (instr : ℕ) (key : Key) (found : FoundLog) (last : ℕ) → Looks instr key found ≡ Ends last → ⊥
looks_apart instr key found last is = cc

admits_apart : (instr : ℕ) (key : Key) (said : Admitted) (last : ℕ) → Admits instr key said ≡ Ends last → ⊥
admits_apart instr key said last is = cc

writes_apart : (statement : Option StmtTree) (code count last : ℕ) → Writes statement code count ≡ Ends last → ⊥
writes_apart statement code count last is = cc

same_code : (code last : ℕ) → Ends code ≡ Ends last → last ≡ code
same_code code last is = cc

-- a log that is lawful after the event
pub lawful_then : (old new : BookView) (event : EventTree) → new.options ≡ old.options → log_tree new.log ≡ log_tree old.log ++ event ∷ [] → IsLawful new.options (log_tree new.log) → IsLawful old.options (log_tree old.log ++ event ∷ [])
lawful_then old new event options log lawful = subst (IsLawful old.options) log (subst (λ (o : PoolOptions). IsLawful o (log_tree new.log)) options lawful)

-- a statement that is neither a query nor an EXPLAIN is a change
pub change_of : (s : Stmt) → ((query : Parsed) → s ≡ stmt.Query query → ⊥) → ((query : Parsed) → s ≡ stmt.Explain query → ⊥) → is_change (stmt_tree s) ≡ true
change_of (stmt.Create table columns) no_query no_explain = refl
change_of (stmt.Drop table) no_query no_explain = refl
change_of (stmt.Alter table column) no_query no_explain = refl
change_of (stmt.Insert table columns rows) no_query no_explain = refl
change_of (stmt.Delete table cond) no_query no_explain = refl
change_of (stmt.Update table sets cond) no_query no_explain = refl
change_of (stmt.Query query) no_query no_explain = absurd (no_query query refl)
change_of (stmt.Explain query) no_query no_explain = absurd (no_explain query refl)

-- ## A statement begins

module _ (old new : BookView) (who : Who) (x after : Session) (s : Stands old.options (log_tree old.log) x) (w : IsWorked old.options (log_tree old.log) x) (is : x.stage ≡ stage.Between) (named : IsWho x who)
    (options : new.options ≡ old.options) (piece : List ℕ) (here : slice_get x.pieces x.ended ≡ Some piece) where
  abbrev now : LogState
  now = state_of old

  pub refused_does : (refusal : Refusal) → Reads piece (Err refusal) → new.log ≡ old.log ++ event_of who (act.Write None (refusal_number refusal) 0) ∷ [] → after ≡ with_reply x (shown.Refused refusal) → DoneSo old new x after
  refused_does refusal read log same =
      let write : Act = act.Write None (refusal_number refusal) 0 in
      let more = added old.log new.log who write x log named in (
        has_done old new x (with_reply x (shown.Refused refusal)) after write same options more
            (text_refused old.options (log_tree old.log) x s is piece here refusal x.work read)
            (write_worked old.options (log_tree old.log) x w None (refusal_number refusal) 0 (shown.Refused refusal))
            (λ code ends. absurd (writes_apart None (refusal_number refusal) 0 code ends)),
        refuse_counts old new x after options (refusal_number refusal) 0 is (ap (λ (y : Session). y.work) same) (ap (λ (y : Session). held_in y.stage) same) (logged old.log new.log write x more),
      )

  module _ (statement : Stmt) (reply : Reply) (log : new.log ≡ old.log ++ written_by who statement reply ∷ []) (same : after ≡ with_reply x (shown_reply reply)) where
    abbrev tree : StmtTree
    tree = stmt_tree statement

    abbrev change : Act
    change = act.Write (Some statement) (code_of (shown_reply reply)) (count_of (shown_reply reply))

    change_log : new.log ≡ old.log ++ entry_by x change ∷ []
    change_log = added old.log new.log who change x log named

    pub change_does : Reads piece (Ok tree) → is_change tree ≡ true → reply ≡ (effect tree now.db).1 → HasDone old new x after
    change_does read is_one effects =
        has_done old new x (with_reply x (shown_reply reply)) after change same options change_log
        (change_done old.options (log_tree old.log) x s is piece here tree reply x.work read is_one effects)
        (write_worked old.options (log_tree old.log) x w (Some tree) (code_of (shown_reply reply)) (count_of (shown_reply reply)) (shown_reply reply))
        (λ code ends. absurd (writes_apart (Some tree) (code_of (shown_reply reply)) (count_of (shown_reply reply)) code ends))

    pub change_counts : (steps later : ℕ) → (state_of new).totals.work ≡ now.totals.work + write_work tree now → Counts steps later (write_work tree now) (write_lost tree now.db) → CountsInside old new x after steps later
    change_counts steps later more counts =
        write_counts old new x after options tree (code_of (shown_reply reply)) (count_of (shown_reply reply)) (write_work tree now) steps later is (ap (λ (y : Session). y.work) same) (ap (λ (y : Session). held_in y.stage) same)
        (logged old.log new.log change x change_log) more counts

  module _ (query : QueryTree) (outcome : Result Plan Refusal) (next : Stage) (same : after ≡ at_stage x next) where
    -- what a begin shows of its statement
    pub record Tells (statement : StmtTree) (snap : Content) (marks : List Bool) : Type 0 where
      pub read : Reads piece (Ok statement)
      pub outcome_is : outcome ≡ unless_refused (refusal_over now.db statement) (plan_over now.db query)
      pub log : new.log ≡ old.log ++ event_of who (begin_act statement outcome) ∷ []
      pub db : snap.db ≡ now.db
      pub versions : HasVersions now.versions snap
      pub marks_are : marks ≡ marks_in outcome
      pub checked : IfOk outcome (λ plan. plan_fault plan ≡ None)
      pub fits : IfOk outcome (λ plan. FitsDb plan now.db)
      pub meaning : IfOk outcome (λ plan. plan_rows plan now.db ≡ answer_of_stmt statement now.db)

    begin_done : (statement : StmtTree) → new.log ≡ old.log ++ event_of who (begin_act statement outcome) ∷ [] → held_in next ≡ 0
        → IsNext (order_of x) old.options x.pieces x.number (log_tree old.log) (event_by x (act_tree (begin_act statement outcome))) × Stands old.options (log_tree old.log ++ event_by x (act_tree (begin_act statement outcome)) ∷ []) (at_stage x next)
        → IsWorked old.options (log_tree old.log ++ event_by x (act_tree (begin_act statement outcome)) ∷ []) (at_stage x next) → DoneSo old new x after
    begin_done statement log none does worked =
        let code = code_in outcome in
        let plan = logged_plan statement outcome in
        let begins = begin_act statement outcome in
        let more = added old.log new.log who begins x log named in (
          has_done old new x (at_stage x next) after begins same options more does worked (λ last ends. absurd (begins_apart code plan last ends)),
          begin_counts old new x after options code plan is (ap (λ (y : Session). y.work) same) (ap (λ (y : Session). held_in y.stage) same ∙ none) (logged old.log new.log begins x more),
        )

    pub query_does : (statement : StmtTree) (snap : Content) (marks : List Bool) → statement ≡ Select query → Tells statement snap marks → BeginsWith snap marks outcome next → DoneSo old new x after
    query_does statement snap marks select tells begins = go (subst (λ (t : StmtTree). Tells t snap marks) select tells)
      where
        go : Tells (Select query) snap marks → DoneSo old new x after
        go told =
            begin_done (Select query) told.log (begun_holds outcome snap marks next begins)
            (query_starts old.options (log_tree old.log) x s is piece here query outcome snap marks next x.work told.read told.outcome_is told.db told.versions told.marks_are told.checked told.fits told.meaning begins)
            (query_worked old.options (log_tree old.log) x query w outcome snap marks next told.db begins)

    pub explain_does : (statement : StmtTree) (snap : Content) (marks : List Bool) → statement ≡ ExplainSelect query → Tells statement snap marks → next ≡ explained outcome → DoneSo old new x after
    explain_does statement snap marks explain tells begins = go (subst (λ (t : StmtTree). Tells t snap marks) explain tells)
      where
        go : Tells (ExplainSelect query) snap marks → DoneSo old new x after
        go told =
            begin_done (ExplainSelect query) told.log (explained_holds outcome next begins)
            (explain_starts old.options (log_tree old.log) x s is piece here query outcome next x.work told.read told.outcome_is told.checked begins)
            (explain_worked old.options (log_tree old.log) x query w outcome next begins)

-- ## A query goes on

-- the instruction that it asks for, or offers the result of, is one of its plan
pub asks_within : (options : PoolOptions) (log : List EventTree) (x : Session) → Stands options log x → (q : RunningQuery) (n : ℕ) (key : Key) → x.stage ≡ stage.Querying (step.Asking q n key) → IsUnderWay q × (n < length q.plan.instrs)
asks_within options log x s q n key is =
    let p = progress_of x.number log in
    let has = subst (IsStage options log x p) is s.stage in
    let run = subst (IsUnder (order_of x) (state_before options log has.at) (run_of options log).given p.results has.said) is has.under in
    (run.step.0.under, slice_get_within q.plan.instrs n run.step.3.instr run.step.3.at.here)

pub offers_within : (options : PoolOptions) (log : List EventTree) (x : Session) → Stands options log x → (q : RunningQuery) (n : ℕ) (offer : Offer) → x.stage ≡ stage.Querying (step.Offering q n offer) → IsUnderWay q × (n < length q.plan.instrs)
offers_within options log x s q n offer is =
    let p = progress_of x.number log in
    let has = subst (IsStage options log x p) is s.stage in
    let run = subst (IsUnder (order_of x) (state_before options log has.at) (run_of options log).given p.results has.said) is has.under in
    (run.step.0.under, slice_get_within q.plan.instrs n run.step.5.0 run.step.5.1.here)

module _ (old new : BookView) (who : Who) (x after : Session) (s : Stands old.options (log_tree old.log) x) (named : IsWho x who) (options : new.options ≡ old.options) where
  abbrev state : LogState
  state = state_of old

  abbrev Worked : Type 0
  Worked = IsWorked old.options (log_tree old.log) x

  pub look_does : Worked → (q : RunningQuery) (n : ℕ) (key : Key) (to : Step) → x.stage ≡ stage.Querying (step.Asking q n key) → IsLawful old.options (log_tree old.log) → IsLawful new.options (log_tree new.log)
      → new.log ≡ old.log ++ event_of who (act.Look (n + 1) key (looked_of (look_of state.pool key))) ∷ [] → IsLooked q n state.pool key to → after ≡ at_stage x (stage.Querying to) → DoneSo old new x after
  look_does w q n key to is lawful later log looked same =
      let found = looked_of (look_of state.pool key) in
      let look : Act = act.Look (n + 1) key found in
      let grown = added old.log new.log who look x log named in
      let more = logged old.log new.log look x grown in (
        has_done old new x (at_stage x (stage.Querying to)) after look same options grown
            (query_looks old.options (log_tree old.log) lawful x s q n key is to x.work (lawful_then old new (event_by x (act_tree look)) options more later) looked)
            (look_worked old.options (log_tree old.log) x s w q n key to is looked)
            (λ code ends. absurd (looks_apart (n + 1) key found code ends)),
        look_counts old new x after options q n state.pool key to (n + 1) found is looked (ap (λ (y : Session). y.work) same) (ap (λ (y : Session). y.stage) same) more,
      )

  pub can_offer : (q : RunningQuery) (n : ℕ) (offer : Offer) → x.stage ≡ stage.Querying (step.Offering q n offer) → IsLawful old.options (log_tree old.log) → CanOffer offer.key offer.value offer.work state
  can_offer q n offer is lawful = query_can_offer old.options (log_tree old.log) lawful x s q n offer is

  pub offer_does : Worked → (q : RunningQuery) (n : ℕ) (offer : Offer) (next : Step) → x.stage ≡ stage.Querying (step.Offering q n offer) → IsLawful old.options (log_tree old.log) → IsLawful new.options (log_tree new.log)
      → new.log ≡ old.log ++ event_of who (act.Admit (n + 1) offer.key (admit_of who (now_of old) (key_offer offer.key state) state.pool).0) ∷ []
      → (to : RunningQuery) → next ≡ step.Open to → HasGained q n (obj.Bat offer.value) (id_given (admit_of who (now_of old) (key_offer offer.key state) state.pool).0) q.work to
      → after ≡ restaged x (x.work + offer.done) (stage.Querying next) → DoneSo old new x after
  offer_does w q n offer next is lawful later log to opens gained same =
      let me : Who = record { session = x.number; statement = x.ended + 1 } in
      let said : (admit_of who (now_of old) (key_offer offer.key state) state.pool).0 ≡ (admit_of me (state.at + 1) (key_offer offer.key state) state.pool).0 = λ i. (admit_of (named i) (now_is old i) (key_offer offer.key state) state.pool).0 in
      let answer = (admit_of me (state.at + 1) (key_offer offer.key state) state.pool).0 in
      let admit : Act = act.Admit (n + 1) offer.key answer in
      let grown = added old.log new.log who admit x (log ∙ ap (λ (a : Admitted). old.log ++ event_of who (act.Admit (n + 1) offer.key a) ∷ []) said) named in
      let more = logged old.log new.log admit x grown in
      let g = subst (λ (a : Admitted). HasGained q n (obj.Bat offer.value) (id_given a) q.work to) said gained in (
        has_done old new x (restaged x (x.work + offer.done) (stage.Querying (step.Open to))) after admit
            (same ∙ ap (λ (t : Step). restaged x (x.work + offer.done) (stage.Querying t)) opens) options grown
            (query_offers old.options (log_tree old.log) lawful x s q n offer is to (x.work + offer.done) g (lawful_then old new (event_by x (act_tree admit)) options more later))
            (offer_worked old.options (log_tree old.log) x s w q n offer answer (id_given answer) is to g)
            (λ code ends. absurd (admits_apart (n + 1) offer.key answer code ends)),
        offer_counts old new x after options q n offer next (n + 1) offer.key answer is (ap held opens ∙ g.work_is) (ap (λ (y : Session). y.work) same) (ap (λ (y : Session). y.stage) same) more,
      )

  pub end_open : (reply : Shown) (told : ℕ) → x.stage ≡ stage.Querying (step.Ending reply told) → is_open who.session old ≡ true
  end_open reply told is = ap (λ (w : Who). is_open w.session old) named ∙ ends_open old.options (log_tree old.log) x s reply told is old refl

  pub end_does : Worked → (reply : Shown) (told code : ℕ) → x.stage ≡ stage.Querying (step.Ending reply told) → code ≡ code_of reply → new.log ≡ old.log ++ event_of who (act.End code) ∷ [] → after ≡ replied x (x.work + told) reply → DoneSo old new x after
  end_does w reply told code is coded log same =
      let grown = added old.log new.log who (act.End (code_of reply)) x (log ∙ ap (λ n. old.log ++ event_of who (act.End n) ∷ []) coded) named in (
        has_done old new x (replied x (x.work + told) reply) after (act.End (code_of reply)) same options grown
            (statement_ends old.options (log_tree old.log) x s reply told is (x.work + told))
            (end_worked old.options (log_tree old.log) x w reply told is)
            (λ last ends. same_code (code_of reply) last ends ∙ ap code_of (end_shows old.options (log_tree old.log) x s reply told is (x.work + told))),
        end_counts old new x after options reply told is (ap (λ (y : Session). y.work) same) (ap (λ (y : Session). held_in y.stage) same) (logged old.log new.log (act.End (code_of reply)) x grown),
      )
