-- One turn of a session.
use Rattle.std.proofs.Common.{◌≡◌, ◌≢◌, ℕ, ◌+◌, ◌-◌, ◌≤◌, ◌<◌, List, [], ◌∷◌, ◌++◌, length, Bool, true, false, cond, Some, refl, ap, sym, ◌∙◌, subst, arith, slice_set}
use Rattle.std.specs.Prelude.{slice_get, option_map, Ok, Err}
use Rattle.std.proofs.lemmas.Option.{slice_get-map, slice_get_within}
use Rattle.pool_policy.specs.declared.options.PoolOptions.{PoolOptions}
use Rattle.read_laws.specs.Answered.{EachReadsAsOne}
use Rattle.run_log.specs.Events.{EventTree, event_tree, log_tree}
use Rattle.book_core.specs.BookView.{BookView}
use Rattle.book_core.specs.Lawful.{IsLawful}
use Rattle.query_run.specs.declared.step.RunningQuery.{RunningQuery}
use Rattle.query_run.specs.declared.step.Step.{Step}
use Rattle.query_run.specs.declared.step.Step.TheVariants as step
use Rattle.query_run.specs.Queries.{ComesTo as QueryComesTo, BecomesOf}
use Rattle.recycle_pool.specs.declared.found.Found.{Found}
use Rattle.recycle_pool.specs.declared.found.CoverPiece.{CoverPiece}
use Rattle.cell_core.specs.declared.operator.Instr.{Instr}
use Rattle.query_run.specs.Steps.{Computes, IsSoundStep}
use Rattle.session_run.specs.declared.session.Session.{Session}
use Rattle.session_run.specs.declared.stage.Stage.{Stage}
use Rattle.session_run.specs.declared.stage.Stage.TheVariants as stage
use Rattle.session_run.specs.Kept.{IsStage, Stands, order_of}
use Rattle.session_run.specs.Progress.{progress_of}
use Rattle.session_run.specs.Stages.{ComesTo, GoesInPlan, HasComputed, HasDone, IsReady, IsSoundStage, ReadsOn}
use Rattle.session_run.specs.Works.{IsWorked, done_by}
use Rattle.session_run.specs.Turns.{AsReady, InPlan, IsDone, IsNext, IsNextAct, who_at}
use Rattle.session_run.proofs.DoesLemmas.{done_log, lawful_then}
use Rattle.session_run.proofs.OtherLemmas.{others_stay}
use Rattle.session_run.proofs.RunLemmas.{done_is, next_other}
use Rattle.session_run.proofs.StageLemmas.{computed_stands, stage_sound}
use Rattle.session_run.proofs.WorkLemmas.{others_worked}
use Rattle.run_sessions.specs.Played.{IsPlayed, Does, Passes}
use Rattle.run_sessions.specs.Ordered.{IsInOrder}
use Rattle.run_sessions.specs.Tables.{AreInPlan, AreStanding, CountsTurns, HasTurned, HavePlayed, IsOver, scripts_of}
use Rattle.run_sessions.proofs.OrderLemmas.{ordered_as, others_ordered, own_ordered}
use Rattle.run_sessions.proofs.PlaceLemmas.{map_set, set_all, sum_set}

-- ## A stage that was computed

query_ready : (q : RunningQuery) (to : Step) → QueryComesTo q to → IsReady (stage.Querying to)
query_ready q (step.Asking to n key) comes = tt
query_ready q (step.Ending reply work) comes = tt
query_ready q (step.Begun to) comes = absurd comes
query_ready q (step.Open to) comes = absurd comes
query_ready q (step.Found to n found parts) comes = absurd comes
query_ready q (step.Offering to n offer) comes = absurd comes

result_ready : (q : RunningQuery) (n : ℕ) (instr : Instr) (what : Found) (parts : List CoverPiece) (to : Step) → BecomesOf q n instr what parts to → IsReady (stage.Querying to)
result_ready q n instr what parts (step.Offering to at offer) becomes = tt
result_ready q n instr what parts (step.Ending reply work) becomes = tt
result_ready q n instr what parts (step.Begun to) becomes = absurd becomes
result_ready q n instr what parts (step.Open to) becomes = absurd becomes
result_ready q n instr what parts (step.Asking to at key) becomes = absurd becomes
result_ready q n instr what parts (step.Found to at found pieces) becomes = absurd becomes

step_ready : (from to : Step) → IsSoundStep from → Computes from to → IsReady (stage.Querying to)
step_ready (step.Begun q) to sound comes = query_ready comes.0 to comes.2
step_ready (step.Open q) to sound comes = query_ready q to comes
step_ready (step.Found q n found parts) to sound comes = result_ready q n sound.1.0 found parts.items to (comes sound.1.0 sound.1.1)
step_ready (step.Asking q n key) to sound comes = subst (λ at. IsReady (stage.Querying at)) (sym comes) tt
step_ready (step.Offering q n offer) to sound comes = subst (λ at. IsReady (stage.Querying at)) (sym comes) tt
step_ready (step.Ending reply work) to sound comes = subst (λ at. IsReady (stage.Querying at)) (sym comes) tt

-- the next statement is read where one is left
reads_ready : (pieces : List (List ℕ)) (ended : ℕ) (next : Stage) → ReadsOn pieces ended next → ended < length pieces → IsReady next
reads_ready pieces ended stage.Between all more = absurd (let none : ⊥ = omega (arith, all, more) in none)
reads_ready pieces ended (stage.Reading read) has more = tt
reads_ready pieces ended (stage.Querying at) never more = absurd never
reads_ready pieces ended (stage.Explaining plan) never more = absurd never
reads_ready pieces ended (stage.Telling reply) never more = absurd never

stage_ready : (x : Session) (from next : Stage) (text : List ℕ) → IsSoundStage from → ComesTo x from next text → x.ended < length x.pieces → IsReady next
stage_ready x (stage.Querying from) next text sound comes more = subst IsReady (sym comes.1) (step_ready from comes.0 sound comes.2)
stage_ready x (stage.Explaining plan) next text sound comes more = subst IsReady (sym comes.0) tt
stage_ready x (stage.Reading read) next text sound comes more = subst IsReady (sym comes.0) tt
stage_ready x (stage.Telling reply) next text sound comes more = reads_ready x.pieces x.ended next comes.0 more
stage_ready x stage.Between next text sound comes more = reads_ready x.pieces x.ended next comes.0 more

-- a session that has computed has its next event, where a statement is left
pub computed_ready : (options : PoolOptions) (log : List EventTree) (x new : Session) → Stands options log x → HasComputed x new → new.ended < length new.pieces → IsReady new.stage
computed_ready options log x new s c more =
    let ended = c.ended in
    let pieces = ap (λ (texts : List (List ℕ)). length texts) c.pieces in
    stage_ready x x.stage new.stage new.text.items (stage_sound options log x s) c.stage (omega (arith, more, ended, pieces))

-- a session that has computed has no reply to write
abbrev IsSettled : Stage → Type 0
IsSettled (stage.Explaining plan) = ⊥
IsSettled (stage.Telling reply) = ⊥
IsSettled _ = Unit {0}

reads_settled : (pieces : List (List ℕ)) (ended : ℕ) (next : Stage) → ReadsOn pieces ended next → IsSettled next
reads_settled pieces ended stage.Between all = tt
reads_settled pieces ended (stage.Reading read) has = tt
reads_settled pieces ended (stage.Querying at) never = tt
reads_settled pieces ended (stage.Explaining plan) never = never
reads_settled pieces ended (stage.Telling reply) never = never

settled : (x : Session) (from next : Stage) (text : List ℕ) → ComesTo x from next text → IsSettled next
settled x (stage.Querying from) next text comes = subst IsSettled (sym comes.1) tt
settled x (stage.Explaining plan) next text comes = subst IsSettled (sym comes.0) tt
settled x (stage.Reading read) next text comes = subst IsSettled (sym comes.0) tt
settled x (stage.Telling reply) next text comes = reads_settled x.pieces x.ended next comes.0
settled x stage.Between next text comes = reads_settled x.pieces x.ended next comes.0

-- a session whose statements have all ended is at none
over_is : (options : PoolOptions) (log : List EventTree) (x : Session) → Stands options log x → IsSettled x.stage → length x.pieces ≤ x.ended → IsOver x
over_is options log x s quiet all = record { between = go x.stage refl quiet s.stage; all = all }
  where
    none_left : (piece : List ℕ) → slice_get x.pieces x.ended ≡ Some piece → ⊥
    none_left piece here = let low = slice_get_within x.pieces x.ended piece here in omega (arith, low, all)

    go : (at : Stage) → x.stage ≡ at → IsSettled at → IsStage options log x (progress_of x.number log) at → x.stage ≡ stage.Between
    go stage.Between is is_quiet has = is
    go (stage.Reading (Ok statement)) is is_quiet has = absurd (none_left has.1.0 has.1.1)
    go (stage.Reading (Err refusal)) is is_quiet has = absurd (none_left has.1.0 has.1.1)
    go (stage.Querying to) is is_quiet has = absurd (none_left has.piece has.here)
    go (stage.Explaining plan) is is_quiet has = absurd is_quiet
    go (stage.Telling reply) is is_quiet has = absurd is_quiet

-- a session that goes through its plans in their order may compute at any stage
pub in_plan_goes : (x : Session) → x.wide ≡ false → GoesInPlan x x.stage
in_plan_goes x narrow = go x.stage
  where
    go : (at : Stage) → GoesInPlan x at
    go (stage.Querying (step.Begun q)) = narrow
    go (stage.Querying (step.Open q)) = narrow
    go (stage.Querying (step.Found q n what parts)) = narrow
    go (stage.Querying (step.Asking q n key)) = tt
    go (stage.Querying (step.Offering q n offer)) = tt
    go (stage.Querying (step.Ending reply work)) = tt
    go (stage.Explaining plan) = tt
    go (stage.Reading read) = tt
    go (stage.Telling reply) = tt
    go stage.Between = tt

-- likewise where it has computed
pub computed_over : (options : PoolOptions) (log : List EventTree) (x new : Session) → GoesInPlan x x.stage → Stands options log x → HasComputed x new → length new.pieces ≤ new.ended → IsOver new
computed_over options log x new in_plan s c all = over_is options log new (computed_stands options log x s in_plan new c) (settled x x.stage new.stage new.text.items c.stage) all

-- an event of the session as it was before it computed
pub done_before : (old new : BookView) (x mid y : Session) → mid.number ≡ x.number → mid.pieces ≡ x.pieces → mid.wide ≡ x.wide → HasDone old new mid y → HasDone old new x y
done_before old new x mid y number pieces wide d = record {
  event = d.event;
  log = d.log;
  next = record {
    piece = d.next.piece;
    here = (λ i. slice_get (sym pieces i) (progress_of (sym number i) (log_tree old.log)).ended) ∙ d.next.here;
    reading = d.next.reading;
    read = d.next.read;
    own = d.next.own ∙ number;
    numbered = d.next.numbered ∙ ap (λ n. (progress_of n (log_tree old.log)).ended + 1) number;
    act = subst (λ o. IsNextAct o old.options (log_tree old.log) (who_at x.number (progress_of x.number (log_tree old.log))) (progress_of x.number (log_tree old.log)) (progress_of x.number (log_tree old.log)).begun d.next.reading (event_tree d.event).act)
        (ap (λ b. cond b AsReady InPlan) wide)
        (subst (λ n. IsNextAct (order_of mid) old.options (log_tree old.log) (who_at n (progress_of n (log_tree old.log))) (progress_of n (log_tree old.log)) (progress_of n (log_tree old.log)).begun d.next.reading (event_tree d.event).act) number d.next.act);
  };
  stands = d.stands;
  worked = d.worked;
  ends = d.ends;
}

-- ## A turn of one of the sessions

module _ (old new : BookView) (sessions : List Session) (place : ℕ) (x y : Session) (here : slice_get sessions place ≡ Some x) (standing : AreStanding old.options (log_tree old.log) sessions)
    (options : new.options ≡ old.options) (number : y.number ≡ x.number) (pieces : y.pieces ≡ x.pieces) (lawful : IsLawful new.options (log_tree new.log)) where
  abbrev after : List Session
  after = slice_set sessions place y

  -- the facts of the session at a place
  abbrev StandsAt : BookView → ℕ → Session → Type 0
  StandsAt book at z = (z.number ≡ at + 1) × Stands book.options (log_tree book.log) z × IsWorked book.options (log_tree book.log) z × IsInOrder (log_tree book.log) z

  stood : StandsAt old place x
  stood = standing place x here

  numbered : x.number ≡ place + 1
  numbered = stood.0

  script : slice_get (scripts_of sessions) ((place + 1) - 1) ≡ Some x.pieces
  script =
      let same : (place + 1) - 1 ≡ place = omega arith in
      ap (slice_get (scripts_of sessions)) same ∙ slice_get-map (λ (z : Session). z.pieces) sessions place ∙ ap (option_map (λ (z : Session). z.pieces)) here

  scripts_stay : scripts_of after ≡ scripts_of sessions
  scripts_stay = map_set (λ (z : Session). z.pieces) sessions place x y here pieces

  -- another session agrees with the log after the event
  other_stands : HasDone old new x y → (other : ℕ) (z : Session) → other ≢ place → slice_get sessions other ≡ Some z → StandsAt new other z
  other_stands d other z apart there =
      let log = log_tree old.log in
      let event = event_tree d.event in
      let more = done_log old new x y d in
      let was = standing other z there in
      let far : x.number ≡ z.number → ⊥ = λ same. apart (let a = was.0 in let b = numbered in omega (arith, a, b, same)) in
      let none = next_other (order_of x) old.options x.pieces x.number z.number log event d.next far in (
        was.0,
        subst (λ (o : PoolOptions). Stands o (log_tree new.log) z) (sym options)
            (subst (λ (l : List EventTree). Stands old.options l z) (sym more) (others_stay old.options log z event (lawful_then old new event options more lawful) was.1 none)),
        subst (λ (o : PoolOptions). IsWorked o (log_tree new.log) z) (sym options)
            (subst (λ (l : List EventTree). IsWorked old.options l z) (sym more) (others_worked old.options log z event none was.2)),
        subst (λ (l : List EventTree). IsInOrder l z) (sym more) (others_ordered old.options log z was.1 event none was.3),
      )

  -- and the session by its own event
  own_stands : EachReadsAsOne → HasDone old new x y → StandsAt new place y
  own_stands each d =
      let log = log_tree old.log in
      let more = done_log old new x y d in
      let ended = sym d.stands.ended ∙ (λ i. (progress_of (number i) (more i)).ended) in (
        number ∙ numbered,
        d.stands,
        d.worked,
        subst (λ (l : List EventTree). IsInOrder l y) (sym more) (own_ordered old.options log x stood.1 (event_tree d.event) each (order_of x) d.next d.ends stood.3 y number pieces ended),
      )

  -- where it does none
  same_stands : Stands old.options (log_tree old.log) y → IsWorked old.options (log_tree old.log) y → StandsAt old place y
  same_stands s w =
      let log = log_tree old.log in
      let ended = sym stood.1.ended ∙ ap (λ n. (progress_of n log).ended) (sym number) ∙ s.ended in
      (number ∙ numbered, s, w, ordered_as log x y (sym number) (sym pieces) ended stood.3)

  in_plan_stay : AreInPlan sessions → y.wide ≡ x.wide → AreInPlan after
  in_plan_stay in_plan wide = set_all (λ at (z : Session). z.wide ≡ false) sessions place y (wide ∙ in_plan place x here) (λ other z apart there. in_plan other z there)

  -- the sessions take this turn
  pub turn_played : EachReadsAsOne → AreInPlan sessions → y.wide ≡ x.wide → (more : Bool) → HasTurned old new x y more → HavePlayed old new sessions after ((place + 1) ∷ [])
  turn_played each in_plan wide true d = record {
    options = options;
    scripts = scripts_stay;
    in_plan = in_plan_stay in_plan wide;
    standing = set_all (StandsAt new) sessions place y (own_stands each d) (other_stands d);
    played = λ earlier before. subst (IsPlayed InPlan old.options (scripts_of sessions) (earlier ++ (place + 1) ∷ [])) (sym (done_log old new x y d))
        (Does earlier (log_tree old.log) (place + 1) x.pieces (event_tree d.event) before (omega arith) script
        (subst (λ o. IsNext o old.options x.pieces (place + 1) (log_tree old.log) (event_tree d.event)) (ap (λ b. cond b AsReady InPlan) (in_plan place x here))
        (subst (λ n. IsNext (order_of x) old.options x.pieces n (log_tree old.log) (event_tree d.event)) numbered d.next)));
  }
  turn_played each in_plan wide false d = record {
    options = options;
    scripts = scripts_stay;
    in_plan = in_plan_stay in_plan wide;
    standing = subst (λ (book : BookView). AreStanding book.options (log_tree book.log) after) (sym d.0)
        (set_all (StandsAt old) sessions place y (same_stands d.1 d.2) (λ other z apart there. standing other z there));
    played = λ earlier before. subst (λ (book : BookView). IsPlayed InPlan old.options (scripts_of sessions) (earlier ++ (place + 1) ∷ []) (log_tree book.log)) (sym d.0)
        (Passes earlier (log_tree old.log) (place + 1) x.pieces before (omega arith) script
        (subst (λ n. IsDone x.pieces n (log_tree old.log)) (number ∙ numbered) (subst (λ ps. IsDone ps y.number (log_tree old.log)) pieces (done_is old.options (log_tree old.log) y d.1 d.3.all))));
  }

  -- a session that did no event is over
  pub turn_over : (more : Bool) → HasTurned old new x y more → more ≡ false → (z : Session) → slice_get after place ≡ Some z → IsOver z
  turn_over more turned none z there =
      set_all (λ at w. at ≡ place → IsOver w) sessions place y (λ _. (subst (HasTurned old new x y) none turned).3) (λ other w apart at is. absurd (apart is)) place z there refl

  -- the counter of the session's turn is that of all
  pub turn_counts : (from to : ℕ) → CountsTurns old new (x ∷ []) (y ∷ []) from to → CountsTurns old new sessions after from to
  turn_counts from to c =
      let least = c.least in
      let most = c.most in
      let sums = sum_set done_by sessions place x y here in
      record { least = omega (arith, least, sums); most = omega (arith, most, sums) }
