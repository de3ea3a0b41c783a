-- A session agrees with the log, by its stages.
use Rattle.std.proofs.Common.{◌≡◌, ℕ, ◌≤◌, List, [], ◌∷◌, ◌++◌, take, length, Bool, Some, None, Result, Ok, Err, refl, ap, sym, ◌∙◌, subst, arith}
use Rattle.std.specs.Prelude.{IfOk, slice_get}
use Rattle.std.specs.declared.vec.Vec.{Vec}
use Rattle.std.specs.declared.alloc.Global.{Global}
use Rattle.mal_meaning.specs.declared.plan.Plan.{Plan}
use Rattle.mal_meaning.specs.Meaning.{plan_rows}
use Rattle.mal_check.specs.Checked.{plan_fault}
use Rattle.mal_check.specs.Runnable.{FitsDb}
use Rattle.mal_print.specs.Canon.{plan_text}
use Rattle.recycle_mark.specs.Marks.{marks_of}
use Rattle.sql_tree.specs.declared.tree.Stmt.{Stmt}
use Rattle.sql_tree.specs.Tree.{QueryTree}
use Rattle.sql_tree.specs.Tree.StmtTree.{Select, ExplainSelect}
use Rattle.sql_definitions.specs.Answer.{answer, answer_of_stmt}
use Rattle.sql_definitions.specs.declared.refusal.Refusal.{Refusal}
use Rattle.read_laws.specs.Answered.{Reads}
use Rattle.plan_queries.specs.Plans.{plan_over, refusal_over}
use Rattle.pool_policy.specs.declared.options.PoolOptions.{PoolOptions}
use Rattle.run_log.specs.Events.{ActTree, EventTree, act_tree}
use Rattle.run_log.specs.Fold.{LogState, run_of}
use Rattle.reply_layout.specs.declared.shown.Shown.{Shown}
use Rattle.reply_layout.specs.Doings.{Beginning, shown_rows}
use Rattle.answer_text.specs.Log.{doing_over}
use Rattle.table_store.specs.Content.{Content}
use Rattle.book_core.specs.Begins.{begin_act, marks_in, unless_refused}
use Rattle.book_core.specs.Versions.{HasVersions}
use Rattle.session_run.specs.declared.session.Session.{Session}
use Rattle.session_run.specs.declared.stage.Stage.{Stage}
use Rattle.session_run.specs.declared.stage.Stage.TheVariants as stage
use Rattle.session_run.specs.Progress.{Progress, progress_of}
use Rattle.read_laws.specs.Readings.{AreReadings}
use Rattle.session_run.specs.Turns.{IsNext, state_before}
use Rattle.session_run.specs.Kept.{HasBegun, HasRead, IsStage, IsUnder, Stands, order_of, untold}
use Rattle.session_run.specs.Stages.{BeginsWith, ComesTo, GoesInPlan, HasComputed, IsSoundStage, MayBegin, ReadsOn, at_stage, explained, with_reply}
use Rattle.session_run.proofs.InsideLemmas.{explain_begins, explain_refuses, explain_shows, plan_begins, query_refuses, query_runs, refused_begins}
use Rattle.session_run.proofs.OwnLemmas.{event_by}
use Rattle.session_run.proofs.OutsideLemmas.{explain_computes, query_computes, query_sound, reply_told, restaged, stands_as}

-- ## A new session

pub new_stands : (options : PoolOptions) (x : Session) → 1 ≤ x.number → x.number ≤ 16 → length x.pieces ≤ 256 → x.ended ≡ 0 → x.text.items ≡ [] → x.stage ≡ stage.Between → Stands options [] x
new_stands options x low high short ended text is = record {
  low = low;
  high = high;
  short = short;
  ended = sym ended;
  within = omega (arith, ended);
  readings = [];
  read = subst (λ n. AreReadings (take n x.pieces) []) (sym ended) tt;
  text = ap (λ more. x.text.items ++ more) (ap (untold x.ended) is) ∙ ap (λ start. start ++ []) text;
  placed = λ k above below. absurd (let no : ⊥ = omega (arith, above, below) in no);
  open_ = λ k above. omega arith;
  stage = subst (IsStage options [] x (progress_of x.number [])) (sym is) refl;
}

-- ## A session computes

module _ (options : PoolOptions) (log : List EventTree) (x : Session) (text : Vec ℕ Global) (same : text.items ≡ x.text.items) where
  abbrev retold : Session
  retold = record x { text = text }

  begun_retold : (p : Progress) → HasBegun options log x p → HasBegun options log retold p
  begun_retold p has = record {
    at = has.at;
    begun = has.begun;
    first = has.first;
    within = has.within;
    place = has.place;
    piece = has.piece;
    here = has.here;
    said = has.said;
    read = has.read;
    under = has.under;
  }

  stage_retold : (p : Progress) (at : Stage) → IsStage options log x p at → IsStage options log retold p at
  stage_retold p stage.Between is = is
  stage_retold p (stage.Telling reply) is = is
  stage_retold p (stage.Reading read) is = is
  stage_retold p (stage.Querying at) is = begun_retold p is
  stage_retold p (stage.Explaining plan) is = begun_retold p is

  retold_stands : Stands options log x → Stands options log retold
  retold_stands s = record {
    low = s.low;
    high = s.high;
    short = s.short;
    ended = s.ended;
    within = s.within;
    readings = s.readings;
    read = s.read;
    text = ap (λ bytes. bytes ++ untold x.ended x.stage) same ∙ s.text;
    placed = s.placed;
    open_ = s.open_;
    stage = stage_retold (progress_of x.number log) x.stage s.stage;
  }

-- the text of its next statement is read, if there is one
read_on : (options : PoolOptions) (log : List EventTree) (x : Session) → Stands options log x → x.stage ≡ stage.Between → (next : Stage) → ReadsOn x.pieces x.ended next → Stands options log (at_stage x next)
read_on options log x s is next reads = go next reads
  where
    p : Progress
    p = progress_of x.number log

    none : p.begun ≡ None
    none = subst (IsStage options log x p) is s.stage

    go : (next : Stage) → ReadsOn x.pieces x.ended next → Stands options log (at_stage x next)
    go stage.Between all = stands_as options log x s x.work stage.Between (ap (untold x.ended) is) none
    go (stage.Reading read) has = stands_as options log x s x.work (stage.Reading read) (ap (untold x.ended) is) (none, has)
    go (stage.Querying at) never = absurd never
    go (stage.Explaining plan) never = absurd never
    go (stage.Telling reply) never = absurd never

-- a session whose next statement is read is between statements too
pub read_between : (options : PoolOptions) (log : List EventTree) (x : Session) → Stands options log x → (read : Result Stmt Refusal) → x.stage ≡ stage.Reading read → Stands options log (at_stage x stage.Between) × HasRead x.pieces x.ended read
read_between options log x s read is =
    let has = subst (IsStage options log x (progress_of x.number log)) is s.stage in
    (stands_as options log x s x.work stage.Between (ap (untold x.ended) is) has.0, has.1)

module _ (options : PoolOptions) (log : List EventTree) (x : Session) (s : Stands options log x) where
  -- it may compute
  pub stage_sound : IsSoundStage x.stage
  stage_sound = go x.stage refl
    where
      go : (at : Stage) → x.stage ≡ at → IsSoundStage at
      go stage.Between is = tt
      go (stage.Telling reply) is = tt
      go (stage.Reading read) is = tt
      go (stage.Querying from) is = query_sound options log x from s is
      go (stage.Explaining plan) is =
          let has = subst (IsStage options log x (progress_of x.number log)) is s.stage in
          (subst (IsUnder (order_of x) (state_before options log has.at) (run_of options log).given (progress_of x.number log).results has.said) is has.under).checked

  computed_at : (at next : Stage) (text : Vec ℕ Global) (work : ℕ) → x.stage ≡ at → GoesInPlan x at → ComesTo x at next text.items → Stands options log (record x { text = text; work = work; stage = next })
  computed_at stage.Between next text work is in_plan c =
      let same = retold_stands options log (restaged x work x.stage) text c.1 (worked work) in
      read_on options log (record x { text = text; work = work }) same is next c.0
    where
      worked : (work : ℕ) → Stands options log (restaged x work x.stage)
      worked work = record {
        low = s.low;
        high = s.high;
        short = s.short;
        ended = s.ended;
        within = s.within;
        readings = s.readings;
        read = s.read;
        text = s.text;
        placed = s.placed;
        open_ = s.open_;
        stage = subst (IsStage options log (restaged x work x.stage) (progress_of x.number log)) (sym is) (subst (IsStage options log x (progress_of x.number log)) is s.stage);
      }
  computed_at (stage.Telling reply) next text work is in_plan c =
      read_on options log (record x { text = text; work = work; stage = stage.Between }) (reply_told options log x reply text work s is c.1) refl next c.0
  computed_at (stage.Reading read) next text work is in_plan c =
      subst (λ to. Stands options log (record x { text = text; work = work; stage = to })) (sym c.0)
      (retold_stands options log (restaged x work (stage.Reading read)) text c.1
      (stands_as options log x s work (stage.Reading read) (ap (untold x.ended) is) (subst (IsStage options log x (progress_of x.number log)) is s.stage)))
  computed_at (stage.Querying from) next text work is in_plan c =
      subst (λ to. Stands options log (record x { text = text; work = work; stage = to })) (sym c.1)
      (retold_stands options log (restaged x work (stage.Querying c.0)) text c.3 (query_computes options log x from c.0 work in_plan s is c.2))
  computed_at (stage.Explaining plan) next text work is in_plan c =
      subst (λ to. Stands options log (record x { text = text; work = work; stage = to })) (sym c.0)
      (retold_stands options log (restaged x work _) text c.1 (explain_computes options log x plan (plan_text plan) work s is refl))

  -- and agrees with the log as before
  pub computed_stands : GoesInPlan x x.stage → (new : Session) → HasComputed x new → Stands options log new
  computed_stands in_plan new c =
      subst (Stands options log) (λ i. record {
        number = sym c.number i;
        pieces = sym c.pieces i;
        ended = sym c.ended i;
        text = new.text;
        work = new.work;
        wide = sym c.wide i;
        stage = new.stage;
      }) (computed_at x.stage new.stage new.text new.work refl in_plan c.stage)

-- ## A statement begins

module _ (options : PoolOptions) (log : List EventTree) (x : Session) (s : Stands options log x) (is : x.stage ≡ stage.Between) (piece : List ℕ) (here : slice_get x.pieces x.ended ≡ Some piece) (query : QueryTree) where
  abbrev now : LogState
  now = run_of options log

  -- the session's next event, and its progress after it
  abbrev Does : ActTree → Session → Type 0
  Does act new = IsNext (order_of x) options x.pieces x.number log (event_by x act) × Stands options (log ++ event_by x act ∷ []) new

  -- a query, with the plan that it began with or refused
  pub query_starts : (outcome : Result Plan Refusal) (snap : Content) (marks : List Bool) (next : Stage) (work : ℕ) → Reads piece (Ok (Select query))
      → outcome ≡ unless_refused (refusal_over now.db (Select query)) (plan_over now.db query) → snap.db ≡ now.db → HasVersions now.versions snap → marks ≡ marks_in outcome
      → IfOk outcome (λ plan. plan_fault plan ≡ None) → IfOk outcome (λ plan. FitsDb plan now.db) → IfOk outcome (λ plan. plan_rows plan now.db ≡ answer_of_stmt (Select query) now.db)
      → BeginsWith snap marks outcome next → Does (act_tree (begin_act (Select query) outcome)) (restaged x work next)
  query_starts (Ok plan) snap marks next work read outcome db versions marked checked fits meaning begins =
      let q = begins.0 in
      let new = begins.2 in
      subst (λ to. Does (act_tree (begin_act (Select query) (Ok plan))) (restaged x work to)) (sym begins.1)
      (plan_begins options log x s is piece here (Ok (Select query)) plan q work read does (record {
        db = ap (λ (content : Content). content.db) new.snap_is ∙ db;
        versions = subst (HasVersions now.versions) (sym new.snap_is) versions;
        plan_is = new.plan_is;
        fresh = record {
          checked = ap plan_fault new.plan_is ∙ checked;
          fits = subst (λ pl. FitsDb pl q.snap.db) (sym new.plan_is) (subst (FitsDb plan) (sym (ap (λ (content : Content). content.db) new.snap_is ∙ db)) fits);
          marks = new.marks_are ∙ marked ∙ ap marks_of (sym new.plan_is);
          work = new.work;
        };
      }))
    where
      does : doing_over now.db (Ok (Select query)) ≡ Beginning (Some plan) (shown_rows (plan_rows plan now.db))
      does = query_runs (refusal_over now.db (Select query)) plan (plan_over now.db query) (answer query now.db) outcome ∙ ap (λ rows. Beginning (Some plan) (shown_rows rows)) (sym meaning)
  query_starts (Err refusal) snap marks next work read outcome db versions marked checked fits meaning begins =
      subst (λ to. Does (act_tree (begin_act (Select query) (Err refusal))) (restaged x work to)) (sym begins)
      (refused_begins options log x s is piece here (Ok (Select query)) refusal work read (query_refuses (refusal_over now.db (Select query)) refusal (plan_over now.db query) (answer query now.db) outcome))

  -- and an EXPLAIN
  pub explain_starts : (outcome : Result Plan Refusal) (next : Stage) (work : ℕ) → Reads piece (Ok (ExplainSelect query)) → outcome ≡ unless_refused (refusal_over now.db (ExplainSelect query)) (plan_over now.db query)
      → IfOk outcome (λ plan. plan_fault plan ≡ None) → next ≡ explained outcome → Does (act_tree (begin_act (ExplainSelect query) outcome)) (restaged x work next)
  explain_starts (Ok plan) next work read outcome checked begins =
      subst (λ to. Does (act_tree (begin_act (ExplainSelect query) (Ok plan))) (restaged x work to)) (sym begins)
      (explain_begins options log x s is piece here (Ok (ExplainSelect query)) plan work checked read (ap (Beginning None) (explain_shows (refusal_over now.db (ExplainSelect query)) plan (plan_over now.db query) outcome)))
  explain_starts (Err refusal) next work read outcome checked begins =
      subst (λ to. Does (act_tree (begin_act (ExplainSelect query) (Err refusal))) (restaged x work to)) (sym begins)
      (refused_begins options log x s is piece here (Ok (ExplainSelect query)) refusal work read (ap (Beginning None) (explain_refuses (refusal_over now.db (ExplainSelect query)) refusal (plan_over now.db query) (plan_text (plan_over now.db query)) outcome)))

-- it has then just begun, or ends
pub begins_so : (snap : Content) (marks : List Bool) (outcome : Result Plan Refusal) (next : Stage) → BeginsWith snap marks outcome next → MayBegin next
begins_so snap marks (Ok plan) next begins = subst MayBegin (sym begins.1) tt
begins_so snap marks (Err refusal) next begins = subst MayBegin (sym begins) tt

pub explained_so : (outcome : Result Plan Refusal) (next : Stage) → next ≡ explained outcome → MayBegin next
explained_so (Ok plan) next begins = subst MayBegin (sym begins) tt
explained_so (Err refusal) next begins = subst MayBegin (sym begins) tt

-- likewise after a statement that has ended
pub told_so : (x y : Session) (reply : Shown) → y ≡ with_reply x reply → MayBegin y.stage
told_so x y reply is = subst (λ (z : Session). MayBegin z.stage) (sym is) tt
