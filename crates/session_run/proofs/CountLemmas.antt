-- What a counter shows of an event.
use Rattle.std.proofs.Common.{◌≡◌, ℕ, ◌+◌, List, [], ◌∷◌, ◌++◌, Bool, Option, Some, None, Result, Ok, Err, refl, ap, sym, ◌∙◌, subst, arith}
use Rattle.mal_meaning.specs.declared.plan.Plan.{Plan}
use Rattle.lineage_key.specs.declared.key.Key.{Key}
use Rattle.sql_tree.specs.declared.tree.Stmt.{Stmt}
use Rattle.sql_tree.specs.Tree.{StmtTree}
use Rattle.sql_definitions.specs.declared.refusal.Refusal.{Refusal}
use Rattle.pool_policy.specs.declared.entry.Who.{Who}
use Rattle.pool_policy.specs.declared.options.Admitted.{Admitted}
use Rattle.pool_policy.specs.declared.options.Admitted.TheVariants.{Taken, There, Stale, Orphan, NoCredit, NoRoom}
use Rattle.pool_policy.specs.Admits.{admit_of}
use Rattle.table_store.specs.Content.{Content}
use Rattle.store_changes.specs.Work.{Counts, write_lost}
use Rattle.run_log.specs.declared.event.FoundLog.{FoundLog}
use Rattle.run_log.specs.declared.event.FoundLog.TheVariants.{Exact, Within, Across, Miss}
use Rattle.run_log.specs.declared.event.Totals.{Totals}
use Rattle.run_log.specs.Events.{ActTree, Begins, Looks, Admits, Writes, Ends, log_tree, who_of}
use Rattle.run_log.specs.Fold.{LogState, after, after_act, key_offer, run_of}
use Rattle.run_log.specs.Totals.{with_admission}
use Rattle.run_log.proofs.LogLemmas.{run_more}
use Rattle.reply_layout.specs.declared.shown.Shown.{Shown}
use Rattle.reply_layout.specs.Doings.{code_of}
use Rattle.book_core.specs.BookView.{BookView, state_of}
use Rattle.query_run.specs.declared.step.RunningQuery.{RunningQuery}
use Rattle.query_run.specs.declared.step.Offer.{Offer}
use Rattle.query_run.specs.declared.step.Step.{Step}
use Rattle.query_run.specs.declared.step.Step.TheVariants as step
use Rattle.query_run.specs.Queries.{IsLooked}
use Rattle.query_run.specs.Steps.{held}
use Rattle.pool_policy.specs.Pool.{PoolState}
use Rattle.session_run.specs.declared.session.Session.{Session}
use Rattle.session_run.specs.declared.stage.Stage.{Stage}
use Rattle.session_run.specs.declared.stage.Stage.TheVariants as stage
use Rattle.session_run.specs.Progress.{progress_of}
use Rattle.session_run.specs.Stages.{BeginsWith, at_stage, explained}
use Rattle.session_run.specs.Work.{act_lost, run_lost}
use Rattle.session_run.specs.Works.{CountsAt, CountsInside, CountsOn, CountsStart, held_in, lost_of}
use Rattle.session_run.proofs.OwnLemmas.{event_by}
use Rattle.session_run.proofs.WorkLemmas.{lost_more}

-- ## The work of the totals

-- an act that leaves it as it is
abbrev Keeps : ActTree → Type 0
Keeps act = (who : Who) (now : ℕ) (s : LogState) → (after_act who act now s).totals.work ≡ s.totals.work

look_keeps : (instr : ℕ) (key : Key) (found : FoundLog) → Keeps (Looks instr key found)
look_keeps instr key (Exact id) who now s = refl
look_keeps instr key (Within id) who now s = refl
look_keeps instr key (Across pieces) who now s = refl
look_keeps instr key Miss who now s = refl

admission_keeps : (said : Admitted) (t : Totals) → (with_admission said t).work ≡ t.work
admission_keeps (Taken id bytes gone) t = refl
admission_keeps (There id) t = refl
admission_keeps (Stale version) t = refl
admission_keeps (Orphan id) t = refl
admission_keeps (NoCredit shape) t = refl
admission_keeps (NoRoom bytes) t = refl

admit_keeps : (instr : ℕ) (key : Key) (result : Admitted) → Keeps (Admits instr key result)
admit_keeps instr key result who now s = admission_keeps (admit_of who now (key_offer key s) s.pool).0 s.totals

-- ## One more event

module _ (old new : BookView) (x : Session) (act : ActTree) (options : new.options ≡ old.options) (log : log_tree new.log ≡ log_tree old.log ++ event_by x act ∷ []) where
  state_behind : state_of new ≡ after (state_of old) (event_by x act)
  state_behind = ap (λ o. run_of o (log_tree new.log)) options ∙ ap (run_of old.options) log ∙ run_more old.options (log_tree old.log) (event_by x act)

  work_kept : Keeps act → (state_of new).totals.work ≡ (state_of old).totals.work
  work_kept keeps = ap (λ (s : LogState). s.totals.work) state_behind ∙ keeps (who_of (event_by x act)) ((state_of old).at + 1) (state_of old)

  lost_behind : lost_of new ≡ lost_of old + act_lost old.options (log_tree old.log) (progress_of x.number (log_tree old.log)) act
  lost_behind = ap (λ o. run_lost o (log_tree new.log)) options ∙ ap (run_lost old.options) log ∙ lost_more old.options (log_tree old.log) (event_by x act)

  -- a query goes on
  goes_count : Keeps act → (steps : ℕ) → CountsOn old new steps steps (act_lost old.options (log_tree old.log) (progress_of x.number (log_tree old.log)) act)
  goes_count keeps steps = record { steps = refl; totals = work_kept keeps; lost = lost_behind }

  -- a statement begins that is no change
  starts_count : Keeps act → act_lost old.options (log_tree old.log) (progress_of x.number (log_tree old.log)) act ≡ 0 → (steps : ℕ) → CountsStart old new steps steps
  starts_count keeps none steps =
      let kept = work_kept keeps in
      let lost = lost_behind in
      record { least = omega (arith, kept); most = omega (arith, kept, lost, none) }

  -- a change
  change_counts : (work lost before after : ℕ) → (state_of new).totals.work ≡ (state_of old).totals.work + work → Counts before after work lost
      → act_lost old.options (log_tree old.log) (progress_of x.number (log_tree old.log)) act ≡ lost → CountsStart old new before after
  change_counts work lost before after more counts is =
      let all = lost_behind in
      let least = counts.least in
      let most = counts.most in
      record { least = omega (arith, more, least); most = omega (arith, more, most, all, is) }

-- ## Sessions

-- a session whose next statement was read begins it
pub started_as : (old new : BookView) (x y : Session) (read : Result Stmt Refusal) → x.stage ≡ stage.Reading read → (before after : ℕ) → CountsInside old new (at_stage x stage.Between) y before after → CountsInside old new x y before after
started_as old new x y read is before after c =
    let before_held : held_in x.stage ≡ 0 = ap held_in is in
    let done = c.done in
    record {
      done = omega (arith, done, before_held);
      counts = subst (λ at. CountsAt old new x.number at before after) (sym is) c.counts;
    }

module _ (old new : BookView) (x y : Session) (options : new.options ≡ old.options) where
  abbrev Adds : ActTree → Type 0
  Adds act = log_tree new.log ≡ log_tree old.log ++ event_by x act ∷ []

  started : (before after : ℕ) → x.stage ≡ stage.Between → y.work ≡ x.work → held_in y.stage ≡ 0 → CountsStart old new before after → CountsInside old new x y before after
  started before after is work none counts =
      let before_held : held_in x.stage ≡ 0 = ap held_in is in
      record {
        done = omega (arith, work, none, before_held);
        counts = subst (λ at. CountsAt old new x.number at before after) (sym is) counts;
      }

  -- a text that is refused
  pub refuse_counts : (code count : ℕ) → x.stage ≡ stage.Between → y.work ≡ x.work → held_in y.stage ≡ 0 → Adds (Writes None code count) → (steps : ℕ) → CountsInside old new x y steps steps
  refuse_counts code count is work none log steps =
      started steps steps is work none (starts_count old new x (Writes None code count) options log (λ who now s. refl) refl steps)

  -- a query or an EXPLAIN that begins
  pub begin_counts : (code : ℕ) (plan : Option Plan) → x.stage ≡ stage.Between → y.work ≡ x.work → held_in y.stage ≡ 0 → Adds (Begins code plan) → (steps : ℕ) → CountsInside old new x y steps steps
  begin_counts code plan is work none log steps =
      started steps steps is work none (starts_count old new x (Begins code plan) options log (λ who now s. refl) refl steps)

  -- a change
  pub write_counts : (statement : StmtTree) (code count work before after : ℕ) → x.stage ≡ stage.Between → y.work ≡ x.work → held_in y.stage ≡ 0 → Adds (Writes (Some statement) code count)
      → (state_of new).totals.work ≡ (state_of old).totals.work + work → Counts before after work (write_lost statement (state_of old).db) → CountsInside old new x y before after
  write_counts statement code count work before after is same none log more counts =
      started before after is same none
      (change_counts old new x (Writes (Some statement) code count) options log work (write_lost statement (state_of old).db) before after more counts refl)

  looked_holds : (q : RunningQuery) (n : ℕ) (pool : PoolState) (key : Key) (to : Step) → IsLooked q n pool key to → held to ≡ q.work
  looked_holds q n pool key (step.Open to) l = l.2.work_is
  looked_holds q n pool key (step.Found to at what parts) l = l.1.work_is
  looked_holds q n pool key (step.Begun to) none = absurd none
  looked_holds q n pool key (step.Asking to at named) none = absurd none
  looked_holds q n pool key (step.Offering to at offer) none = absurd none
  looked_holds q n pool key (step.Ending reply work) none = absurd none

  -- a query that asks
  pub look_counts : (q : RunningQuery) (n : ℕ) (pool : PoolState) (key : Key) (to : Step) (instr : ℕ) (found : FoundLog) → x.stage ≡ stage.Querying (step.Asking q n key) → IsLooked q n pool key to → y.work ≡ x.work → y.stage ≡ stage.Querying to
      → Adds (Looks instr key found) → (steps : ℕ) → CountsInside old new x y steps steps
  look_counts q n pool key to instr found is looked work next log steps =
      let held_before : held_in x.stage ≡ q.work = ap held_in is in
      let held_after : held_in y.stage ≡ q.work = ap held_in next ∙ looked_holds q n pool key to looked in
      record {
        done = omega (arith, work, held_before, held_after);
        counts = subst (λ at. CountsAt old new x.number at steps steps) (sym is) (goes_count old new x (Looks instr key found) options log (look_keeps instr key found) steps);
      }

  -- a query that offers
  pub offer_counts : (q : RunningQuery) (n : ℕ) (offer : Offer) (to : Step) (instr : ℕ) (key : Key) (result : Admitted) → x.stage ≡ stage.Querying (step.Offering q n offer) → held to ≡ q.work → y.work ≡ x.work + offer.done
      → y.stage ≡ stage.Querying to → Adds (Admits instr key result) → (steps : ℕ) → CountsInside old new x y steps steps
  offer_counts q n offer to instr key result is kept work next log steps =
      let held_before : held_in x.stage ≡ q.work + offer.done = ap held_in is in
      let held_after : held_in y.stage ≡ q.work = ap held_in next ∙ kept in
      record {
        done = omega (arith, work, held_before, held_after);
        counts = subst (λ at. CountsAt old new x.number at steps steps) (sym is) (goes_count old new x (Admits instr key result) options log (admit_keeps instr key result) steps);
      }

  -- a query that ends
  pub end_counts : (reply : Shown) (told : ℕ) → x.stage ≡ stage.Querying (step.Ending reply told) → y.work ≡ x.work + told → held_in y.stage ≡ 0 → Adds (Ends (code_of reply)) → (steps : ℕ) → CountsInside old new x y steps steps
  end_counts reply told is work none log steps =
      let held_before : held_in x.stage ≡ told = ap held_in is in
      record {
        done = omega (arith, work, held_before, none);
        counts = subst (λ at. CountsAt old new x.number at steps steps) (sym is) (goes_count old new x (Ends (code_of reply)) options log (λ who now s. refl) steps);
      }

-- a query that has just begun holds no work
pub begun_holds : (outcome : Result Plan Refusal) (snap : Content) (marks : List Bool) (next : Stage) → BeginsWith snap marks outcome next → held_in next ≡ 0
begun_holds (Ok plan) snap marks next begins = let new = begins.2 in ap held_in begins.1 ∙ new.work
begun_holds (Err refusal) snap marks next begins = ap held_in begins

-- nor does an EXPLAIN
pub explained_holds : (outcome : Result Plan Refusal) (next : Stage) → next ≡ explained outcome → held_in next ≡ 0
explained_holds (Ok plan) next begins = ap held_in begins
explained_holds (Err refusal) next begins = ap held_in begins
