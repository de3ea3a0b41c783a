-- A statement begins, is done whole, or ends.
use Rattle.std.proofs.Common.{◌≡◌, ℕ, ◌+◌, List, [], ◌∷◌, ◌++◌, true, Option, Some, None, Ok, Err, refl, ap, sym, ◌∙◌, subst}
use Rattle.std.specs.Prelude.{slice_get}
use Rattle.cell_core.specs.declared.cell.Cell.{Cell}
use Rattle.cell_core.specs.declared.table.Db.{Db}
use Rattle.mal_meaning.specs.declared.plan.Plan.{Plan}
use Rattle.mal_meaning.specs.Meaning.{plan_rows}
use Rattle.mal_check.specs.Checked.{plan_fault}
use Rattle.mal_print.specs.Canon.{plan_text}
use Rattle.sql_tree.specs.Tree.{StmtTree}
use Rattle.sql_tree.specs.Tree.StmtTree.{CreateTable, DropTable, AlterTable, InsertInto, DeleteFrom, UpdateTable, Select, ExplainSelect}
use Rattle.sql_definitions.specs.Effect.{effect}
use Rattle.sql_definitions.specs.Refusals.{refusal_number}
use Rattle.sql_definitions.specs.declared.refusal.Refusal.{Refusal}
use Rattle.sql_definitions.specs.declared.refusal.Reply.{Reply}
use Rattle.read_laws.specs.Answered.{Reads}
use Rattle.pool_policy.specs.declared.options.PoolOptions.{PoolOptions}
use Rattle.run_log.specs.Events.{ActTree, Begins, Writes, Ends, EventTree, log_tree}
use Rattle.run_log.specs.Fold.{LogState, run_of}
use Rattle.store_changes.specs.Outcomes.{is_change}
use Rattle.reply_layout.specs.declared.shown.Shown.{Shown}
use Rattle.reply_layout.specs.declared.shown.Shown.TheVariants as shown
use Rattle.reply_layout.specs.Doings.{Doing, Writing, Beginning, code_of, count_of, query_doing, shown_explain, shown_in, shown_reply, shown_rows}
use Rattle.answer_text.specs.Log.{Said, doing_over, shown_over, tables_met}
use Rattle.book_core.specs.Begins.{unless_refused}
use Rattle.book_core.specs.BookView.{BookView, is_open}
use Rattle.query_run.specs.declared.step.RunningQuery.{RunningQuery}
use Rattle.query_run.specs.declared.step.Step.TheVariants as step
use Rattle.session_run.specs.declared.session.Session.{Session}
use Rattle.session_run.specs.declared.stage.Stage.TheVariants as stage
use Rattle.session_run.specs.Progress.{Progress, nothing_got, progress_of}
use Rattle.session_run.specs.Turns.{IsFirstAct, IsLaterAct, IsNext, IsNextAct, state_before, who_at}
use Rattle.session_run.specs.Kept.{Began, HasBegun, IsStage, IsUnder, Stands, order_of, untold}
use Rattle.session_run.specs.Kept.{EndsWith as EndsSo}
use Rattle.session_run.proofs.LogLemmas.{is_begun, open_is_begun}
use Rattle.session_run.proofs.OutsideLemmas.{restaged}
use Rattle.session_run.proofs.OwnLemmas.{begun_met, begun_stands, end_stands, event_by, next_is, next_reads, replied, whole_stands}

-- ## Statements by themselves

-- a change is one event, with the reply of its effect
change_writes : (db : Db) (statement : StmtTree) → is_change statement ≡ true → doing_over db (Ok statement) ≡ Writing (Some statement) (shown_reply (effect statement db).1)
change_writes db (CreateTable table columns) is = refl
change_writes db (DropTable table) is = refl
change_writes db (AlterTable table column) is = refl
change_writes db (InsertInto table listed rows) is = refl
change_writes db (DeleteFrom table condition) is = refl
change_writes db (UpdateTable table sets condition) is = refl
change_writes db (Select query) is = cc
change_writes db (ExplainSelect query) is = cc

-- a query that has a plan is run by it, to these rows
pub query_runs : (why : Option Refusal) (plan over : Plan) (rows : Option (List (List Cell))) → Ok plan ≡ unless_refused why over → query_doing why over rows ≡ Beginning (Some plan) (shown_rows rows)
query_runs None plan over rows is = let same : over ≡ plan = cc in ap (λ (run : Plan). Beginning (Some run) (shown_rows rows)) same
query_runs (Some refusal) plan over rows is = cc

-- and one that has none shows the refusal
pub query_refuses : (why : Option Refusal) (refusal : Refusal) (over : Plan) (rows : Option (List (List Cell))) → Err refusal ≡ unless_refused why over → query_doing why over rows ≡ Beginning None (shown.Refused refusal)
query_refuses None refusal over rows is = cc
query_refuses (Some other) refusal over rows is = let same : other ≡ refusal = cc in ap (λ (why : Refusal). Beginning None (shown.Refused why)) same

-- likewise an EXPLAIN
pub explain_shows : (why : Option Refusal) (plan over : Plan) → Ok plan ≡ unless_refused why over → shown_explain why (plan_text over) ≡ shown.Mal (plan_text plan)
explain_shows None plan over is = let same : over ≡ plan = cc in ap (λ (run : Plan). shown.Mal (plan_text run)) same
explain_shows (Some refusal) plan over is = cc

pub explain_refuses : (why : Option Refusal) (refusal : Refusal) (over : Plan) (text : List ℕ) → Err refusal ≡ unless_refused why over → shown_explain why text ≡ shown.Refused refusal
explain_refuses None refusal over text is = cc
explain_refuses (Some other) refusal over text is = let same : other ≡ refusal = cc in ap shown.Refused same

-- ## A statement begins

module _ (options : PoolOptions) (log : List EventTree) (x : Session) (s : Stands options log x) (is : x.stage ≡ stage.Between) (piece : List ℕ) (here : slice_get x.pieces x.ended ≡ Some piece) where
  abbrev now : LogState
  now = run_of options log

  abbrev p : Progress
  p = progress_of x.number log

  -- the session's next event, and its progress after it
  abbrev Does : ActTree → Session → Type 0
  Does act new = IsNext (order_of x) options x.pieces x.number log (event_by x act) × Stands options (log ++ event_by x act ∷ []) new

  quiet : untold x.ended x.stage ≡ []
  quiet = ap (untold x.ended) is

  none : p.begun ≡ None
  none = subst (IsStage options log x p) is s.stage

  -- the first act of what its text does
  next_first : (said : Said) → Reads piece said → (doing : Doing Plan) → doing_over now.db said ≡ doing → (act : ActTree) → IsFirstAct doing act → IsNext (order_of x) options x.pieces x.number log (event_by x act)
  next_first said read doing does act first =
      next_is options log x s piece here said read act
      (subst (λ b. IsNextAct (order_of x) options log (who_at x.number p) p b said act) (sym none) (subst (λ (d : Doing Plan). IsFirstAct d act) (sym does) first))

  -- a refused text
  pub text_refused : (refusal : Refusal) (work : ℕ) → Reads piece (Err refusal) → Does (Writes None (refusal_number refusal) 0) (replied x work (shown.Refused refusal))
  text_refused refusal work read = (
    next_first (Err refusal) read (Writing None (shown.Refused refusal)) refl (Writes None (refusal_number refusal) 0) refl,
    whole_stands options log x s None (refusal_number refusal) 0 work (shown.Refused refusal) quiet none piece here (Err refusal) read refl,
  )

  -- a change
  pub change_done : (statement : StmtTree) (reply : Reply) (work : ℕ) → Reads piece (Ok statement) → is_change statement ≡ true → reply ≡ (effect statement now.db).1
      → Does (Writes (Some statement) (code_of (shown_reply reply)) (count_of (shown_reply reply))) (replied x work (shown_reply reply))
  change_done statement reply work read change effects = (
    next_first (Ok statement) read (Writing (Some statement) (shown_reply reply)) does (Writes (Some statement) (code_of (shown_reply reply)) (count_of (shown_reply reply))) refl,
    whole_stands options log x s (Some statement) (code_of (shown_reply reply)) (count_of (shown_reply reply)) work (shown_reply reply) quiet none piece here (Ok statement) read (sym (ap shown_in does)),
  )
    where
      does : doing_over now.db (Ok statement) ≡ Writing (Some statement) (shown_reply reply)
      does = change_writes now.db statement change ∙ ap (λ (r : Reply). Writing (Some statement) (shown_reply r)) (sym effects)

  -- a statement whose plan is run
  pub plan_begins : (said : Said) (plan : Plan) (q : RunningQuery) (work : ℕ) → Reads piece said → doing_over now.db said ≡ Beginning (Some plan) (shown_rows (plan_rows plan now.db)) → Began now plan q
      → Does (Begins 0 (Some plan)) (restaged x work (stage.Querying (step.Begun q)))
  plan_begins said plan q work read does began = (
    next_first said read (Beginning (Some plan) (shown_rows (plan_rows plan now.db))) does (Begins 0 (Some plan)) refl,
    begun_stands options log x s 0 (Some plan) work (stage.Querying (step.Begun q)) quiet refl none piece here said read
        (λ given. record { plan = plan; does = does; step = (began, λ n. refl) })
        (λ has. has),
  )

  -- one that its tables refuse
  pub refused_begins : (said : Said) (refusal : Refusal) (work : ℕ) → Reads piece said → doing_over now.db said ≡ Beginning None (shown.Refused refusal)
      → Does (Begins (refusal_number refusal) None) (restaged x work (stage.Querying (step.Ending (shown.Refused refusal) 0)))
  refused_begins said refusal work read does = (
    next_first said read (Beginning None (shown.Refused refusal)) does (Begins (refusal_number refusal) None) refl,
    begun_stands options log x s (refusal_number refusal) None work (stage.Querying (step.Ending (shown.Refused refusal) 0)) quiet refl none piece here said read
        (λ given. record {
          act = λ t who. subst (λ (d : Doing Plan). IsLaterAct (order_of x) t who now nothing_got d (Ends (refusal_number refusal))) (sym does) refl;
          shows = sym (ap shown_in does);
        })
        (λ has. has),
  )

  -- one that shows a plan
  pub explain_begins : (said : Said) (plan : Plan) (work : ℕ) → plan_fault plan ≡ None → Reads piece said → doing_over now.db said ≡ Beginning None (shown.Mal (plan_text plan)) → Does (Begins 0 None) (restaged x work (stage.Explaining plan))
  explain_begins said plan work checked read does = (
    next_first said read (Beginning None (shown.Mal (plan_text plan))) does (Begins 0 None) refl,
    begun_stands options log x s 0 None work (stage.Explaining plan) quiet refl none piece here said read (λ given. record { checked = checked; does = does }) (λ has. has),
  )

-- ## A statement ends

module _ (options : PoolOptions) (log : List EventTree) (x : Session) (s : Stands options log x) (reply : Shown) (told : ℕ) (is : x.stage ≡ stage.Querying (step.Ending reply told)) where
  ending : HasBegun options log x (progress_of x.number log)
  ending = subst (IsStage options log x (progress_of x.number log)) is s.stage

  ends_so : EndsSo (order_of x) (state_before options log ending.at) (progress_of x.number log).results ending.said reply
  ends_so = subst (IsUnder (order_of x) (state_before options log ending.at) (run_of options log).given (progress_of x.number log).results ending.said) is ending.under

  -- a query or an EXPLAIN ends
  pub statement_ends : (work : ℕ) → IsNext (order_of x) options x.pieces x.number log (event_by x (Ends (code_of reply))) × Stands options (log ++ event_by x (Ends (code_of reply)) ∷ []) (replied x work reply)
  statement_ends work =
      let p = progress_of x.number log in
      let who = who_at x.number p in (
        next_is options log x s ending.piece ending.here ending.said ending.read (Ends (code_of reply))
            (subst (λ b. IsNextAct (order_of x) options log who p b ending.said (Ends (code_of reply))) (sym ending.begun) (ends_so.act (run_of options log) who)),
        end_stands options log x s (code_of reply) work reply (ap (untold x.ended) is) ending ends_so.shows,
      )

  -- with the reply by its tables
  pub end_shows : (work : ℕ) → reply ≡ shown_over (tables_met log x.number (x.ended + 1)) (statement_ends work).0.reading
  unfolding statement_ends
  end_shows work =
      let p = progress_of x.number log in
      let who = who_at x.number p in
      let reads = next_reads options log x s ending.piece ending.here ending.said ending.read (Ends (code_of reply))
      (subst (λ b. IsNextAct (order_of x) options log who p b ending.said (Ends (code_of reply))) (sym ending.begun) (ends_so.act (run_of options log) who)) in
      ends_so.shows ∙ ap (λ db. shown_over db ending.said) (sym (begun_met options log x s ending)) ∙ ap (shown_over (tables_met log x.number (x.ended + 1))) (sym reads)

  -- it is open until then
  pub ends_open : (book : BookView) → log_tree book.log ≡ log → is_open x.number book ≡ true
  ends_open book same = open_is_begun x.number book ∙ ap (λ (events : List EventTree). is_begun (progress_of x.number events).begun) same ∙ ap is_begun ending.begun
