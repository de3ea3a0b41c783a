-- A session agrees with the log, whatever event of another session comes next.
use Rattle.std.proofs.Common.{◌≡◌, ℕ, ◌+◌, ◌≤◌, ◌<◌, List, [], ◌∷◌, ◌++◌, take, length, false, Option, Some, None, refl, ap, sym, ◌∙◌, subst, arith}
use Rattle.std.specs.Prelude.{◌==◌}
use Rattle.std.proofs.lemmas.List.{length-take-le}
use Rattle.mal_meaning.specs.declared.plan.Plan.{Plan}
use Rattle.mal_meaning.specs.Meaning.{plan_values}
use Rattle.pool_policy.specs.declared.options.PoolOptions.{PoolOptions}
use Rattle.pool_policy.specs.Keeps.{Face}
use Rattle.pool_policy.specs.Worths.{WorthsStay}
use Rattle.run_log.specs.Events.{EventTree}
use Rattle.run_log.specs.Fold.{LogState, run_of}
use Rattle.book_core.specs.Lawful.{IsLawful}
use Rattle.answer_text.specs.Log.{Said}
use Rattle.query_keys.proofs.StepLemmas.{ids_stay}
use Rattle.query_run.specs.declared.step.RunningQuery.{RunningQuery}
use Rattle.query_run.specs.declared.step.Step.{Step}
use Rattle.query_run.specs.declared.step.Step.TheVariants as step
use Rattle.session_run.specs.declared.session.Session.{Session}
use Rattle.session_run.specs.declared.stage.Stage.{Stage}
use Rattle.session_run.specs.declared.stage.Stage.TheVariants as stage
use Rattle.session_run.specs.Progress.{Got, Progress, progress_of}
use Rattle.read_laws.specs.Readings.{AreReadings}
use Rattle.session_run.specs.Turns.{Order, state_before}
use Rattle.session_run.specs.Kept.{HasBegun, IsRun, IsStage, IsStep, IsUnder, Knows, Stands, opened, order_of}
use Rattle.session_run.proofs.LogLemmas.{ArePlaced, log_long, other_progress, place_stays, placed_other, replies_stay, state_stays}
use Rattle.book_core.proofs.LawfulLemmas.{worths_later}

-- ## Readings

pub readings_count : (pieces : List (List ℕ)) (readings : List Said) → AreReadings pieces readings → length readings ≡ length pieces
readings_count [] [] are = refl
readings_count [] (r ∷ rs) are = absurd are
readings_count (p ∷ ps) [] are = absurd are
readings_count (p ∷ ps) (r ∷ rs) are = let more = readings_count ps rs are.1 in omega (arith, more)

-- as many as its statements that have ended
pub stands_count : (options : PoolOptions) (log : List EventTree) (x : Session) (s : Stands options log x) → length s.readings ≡ x.ended
stands_count options log x s = readings_count (take x.ended x.pieces) s.readings s.read ∙ length-take-le x.ended x.pieces s.within

pub stands_placed : (options : PoolOptions) (log : List EventTree) (x : Session) (s : Stands options log x) → ArePlaced x.number (opened (progress_of x.number log) (progress_of x.number log).begun) log
stands_placed options log x s = record { placed = s.placed; open_ = s.open_ }

pub opened_above : (p : Progress) (begun : Option ℕ) → p.ended ≤ opened p begun
opened_above p None = omega arith
opened_above p (Some at) = omega arith

-- ## Steps

module _ (seen : LogState) (given later : List Face) (stay : WorthsStay given later) where
  pub knows_stays : (plan : Plan) (q : RunningQuery) → Knows seen given plan q → Knows seen later plan q
  knows_stays plan q k = record {
    under = k.under;
    plan_is = k.plan_is;
    db = k.db;
    versions = k.versions;
    ids = ids_stay given later stay q.ids.items (plan_values seen.db plan.instrs) k.ids;
  }

  pub step_stays : (order : Order) (plan : Plan) (results : ℕ → Got) (at : Step) → IsStep order seen given plan results at → IsStep order seen later plan results at
  step_stays order plan results (step.Begun q) is = is
  step_stays order plan results (step.Open q) is = (knows_stays plan q is.0, is.1, is.2)
  step_stays order plan results (step.Asking q n key) is = (knows_stays plan q is.0, is.1, is.2, is.3, is.4, is.5)
  step_stays order plan results (step.Found q n found parts) is = (knows_stays plan q is.0, is.1, is.2, is.3, is.4, is.5)
  step_stays order plan results (step.Offering q n offer) is = (knows_stays plan q is.0, is.1, is.2, is.3, is.4, is.5)
  step_stays order plan results (step.Ending reply work) is = is

  run_stays : (order : Order) (results : ℕ → Got) (said : Said) (at : Step) → IsRun order seen given results said at → IsRun order seen later results said at
  run_stays order results said at run = record {
    plan = run.plan;
    does = run.does;
    step = step_stays order run.plan results at run.step;
  }

  pub under_stays : (order : Order) (results : ℕ → Got) (said : Said) (at : Stage) → IsUnder order seen given results said at → IsUnder order seen later results said at
  under_stays order results said (stage.Querying (step.Begun q)) is = run_stays order results said (step.Begun q) is
  under_stays order results said (stage.Querying (step.Open q)) is = run_stays order results said (step.Open q) is
  under_stays order results said (stage.Querying (step.Asking q n key)) is = run_stays order results said (step.Asking q n key) is
  under_stays order results said (stage.Querying (step.Found q n found parts)) is = run_stays order results said (step.Found q n found parts) is
  under_stays order results said (stage.Querying (step.Offering q n offer)) is = run_stays order results said (step.Offering q n offer) is
  under_stays order results said (stage.Querying (step.Ending reply work)) is = is
  under_stays order results said (stage.Explaining plan) is = is
  under_stays order results said stage.Between is = is
  under_stays order results said (stage.Telling reply) is = is
  under_stays order results said (stage.Reading read) is = is

-- ## Sessions

module _ (options : PoolOptions) (log : List EventTree) (x : Session) (event : EventTree) (lawful : IsLawful options (log ++ event ∷ [])) where
  abbrev later : List EventTree
  later = log ++ event ∷ []

  begun_stays : (p : Progress) → HasBegun options log x p → HasBegun options later x p
  begun_stays p has = record {
    at = has.at;
    begun = has.begun;
    first = has.first;
    within = (let long = log_long log event in let before = has.within in omega (arith, long, before));
    place = place_stays x.number (x.ended + 1) log event (let before = has.within in let here = has.place in omega (arith, before, here)) ∙ has.place;
    piece = has.piece;
    here = has.here;
    said = has.said;
    read = has.read;
    under = subst (λ (s : LogState). IsUnder (order_of x) s (run_of options later).given p.results has.said x.stage) (sym (state_stays options log event has.at (let before = has.within in omega (arith, before))))
        (under_stays (state_before options log has.at) (run_of options log).given (run_of options later).given (worths_later options log (event ∷ []) lawful) (order_of x) p.results has.said x.stage has.under);
  }

  stage_stays : (p : Progress) (at : Stage) → IsStage options log x p at → IsStage options later x p at
  stage_stays p stage.Between is = is
  stage_stays p (stage.Telling reply) is = is
  stage_stays p (stage.Reading read) is = is
  stage_stays p (stage.Querying q) is = begun_stays p is
  stage_stays p (stage.Explaining plan) is = begun_stays p is

  pub others_stay : Stands options log x → (event.session == x.number) ≡ false → Stands options later x
  others_stay s other =
      let p = progress_of x.number log in
      let same = other_progress x.number log event other in
      let placed = placed_other x.number (opened p p.begun) log event other (stands_placed options log x s) in
      let count = stands_count options log x s in
      let above = opened_above p p.begun in
      let ended = s.ended in
      record {
        low = s.low;
        high = s.high;
        short = s.short;
        ended = ap (λ (q : Progress). q.ended) same ∙ s.ended;
        within = s.within;
        readings = s.readings;
        read = s.read;
        text = s.text ∙ sym (replies_stay x.number (opened p p.begun) log event s.readings (stands_placed options log x s) (omega (arith, count, above, ended)));
        placed = λ k low high. placed.placed k low (subst (λ (q : Progress). k ≤ opened q q.begun) same high);
        open_ = λ k high. placed.open_ k (subst (λ (q : Progress). opened q q.begun < k) same high);
        stage = subst (λ (q : Progress). IsStage options later x q x.stage) (sym same) (stage_stays p x.stage s.stage);
      }
