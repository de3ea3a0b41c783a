-- Many turns of the sessions of a run.
use Rattle.std.proofs.Common.{◌≡◌, ◌≢◌, ℕ, suc, ◌+◌, ◌-◌, ◌≤◌, ◌<◌, List, [], ◌∷◌, ◌++◌, length, map, Some, refl, ap, sym, ◌∙◌, subst, arith, append_assoc}
use Rattle.std.specs.Prelude.{slice_get}
use Rattle.std.specs.declared.vec.Vec.{Vec}
use Rattle.std.specs.declared.alloc.Global.{Global}
use Rattle.std.proofs.lemmas.List.{append-nil, length-map, take_all}
use Rattle.std.proofs.lemmas.Option.{slice_get_within}
use Rattle.answer_text.specs.Log.{AreStatements, logged_of}
use Rattle.pool_policy.specs.declared.options.PoolOptions.{PoolOptions}
use Rattle.read_laws.specs.Answered.{EachReadsAsOne}
use Rattle.run_log.specs.Events.{EventTree, log_tree}
use Rattle.book_core.specs.BookView.{BookView}
use Rattle.session_run.specs.declared.session.Session.{Session}
use Rattle.session_run.specs.Kept.{IsStage, Stands}
use Rattle.session_run.specs.Progress.{progress_of}
use Rattle.read_laws.specs.Readings.{AreReadings}
use Rattle.session_run.specs.Turns.{InPlan, IsDone}
use Rattle.session_run.proofs.RunLemmas.{done_is, done_text}
use Rattle.run_sessions.specs.Played.{IsPlayed, IsScheduled, RiseFrom, Starts}
use Rattle.run_sessions.specs.Tables.{AreInPlan, AreOver, AreStanding, AreTexts, HasRun, HaveEnded, HavePlayed, IsOver, IsText, scripts_of}
use Rattle.run_sessions.specs.Ordered.{IsInOrder, IsOpenedAs}
use Rattle.run_sessions.proofs.ListedLemmas.{readings_one}
use Rattle.run_sessions.proofs.PlaceLemmas.{map_there, same_or}

-- ## Turns after turns

pub none_played : (book : BookView) (sessions : List Session) → AreStanding book.options (log_tree book.log) sessions → AreInPlan sessions → HavePlayed book book sessions sessions []
none_played book sessions standing in_plan = record {
  options = refl;
  scripts = refl;
  standing = standing;
  in_plan = in_plan;
  played = λ earlier before. subst (λ turns. IsPlayed InPlan book.options (scripts_of sessions) turns (log_tree book.log)) (sym (append-nil earlier)) before;
}

pub then_played : (a b c : BookView) (x y z : List Session) (first more : List ℕ) → HavePlayed a b x y first → HavePlayed b c y z more → HavePlayed a c x z (first ++ more)
then_played a b c x y z first more p q = record {
  options = q.options ∙ p.options;
  scripts = q.scripts ∙ p.scripts;
  standing = q.standing;
  in_plan = q.in_plan;
  played = λ earlier before.
      subst (λ turns. IsPlayed InPlan a.options (scripts_of x) turns (log_tree c.log)) (append_assoc earlier first more)
      (subst (λ (o : PoolOptions). IsPlayed InPlan o (scripts_of x) ((earlier ++ first) ++ more) (log_tree c.log)) p.options
      (subst (λ scripts. IsPlayed InPlan b.options scripts ((earlier ++ first) ++ more) (log_tree c.log)) p.scripts
      (q.played (earlier ++ first) (subst (λ scripts. IsPlayed InPlan b.options scripts (earlier ++ first) (log_tree b.log)) (sym p.scripts)
      (subst (λ (o : PoolOptions). IsPlayed InPlan o (scripts_of x) (earlier ++ first) (log_tree b.log)) (sym p.options) (p.played earlier before))))));
}

-- no session comes or goes
pub played_length : (a b : BookView) (x y : List Session) (turns : List ℕ) → HavePlayed a b x y turns → length y ≡ length x
played_length a b x y turns p = sym (length-map y (λ (z : Session). z.pieces)) ∙ ap length p.scripts ∙ length-map x (λ (z : Session). z.pieces)

-- ## One session to its end

pub rise_lower : (low high : ℕ) → low ≤ high → (later : List ℕ) → RiseFrom high later → RiseFrom low later
rise_lower low high below [] rises = tt
rise_lower low high below (turn ∷ later) rises = (let first = rises.0 in omega (arith, below, first), rises.1)

pub none_run : (book : BookView) (sessions : List Session) (place : ℕ) → AreStanding book.options (log_tree book.log) sessions → AreInPlan sessions → HasRun book book sessions sessions place
none_run book sessions place standing in_plan = record {
  turns = [];
  own = λ low below later rises. rise_lower low (place + 1) below later rises;
  played = none_played book sessions standing in_plan;
}

pub more_run : (a b c : BookView) (x y z : List Session) (place : ℕ) → HasRun a b x y place → HavePlayed b c y z ((place + 1) ∷ []) → HasRun a c x z place
more_run a b c x y z place r p = record {
  turns = r.turns ++ (place + 1) ∷ [];
  own = λ low below later rises. subst (RiseFrom low) (sym (append_assoc r.turns ((place + 1) ∷ []) later)) (r.own low below ((place + 1) ∷ later) (omega arith, rises));
  played = then_played a b c x y z r.turns ((place + 1) ∷ []) r.played p;
}

-- ## All sessions to their ends

-- this many sessions have run to their ends, one after the other
pub record HaveRun (old new : BookView) (before after : List Session) (n : ℕ) : Type 0 where
  pub rest : List ℕ
  pub rises : (later : List ℕ) → RiseFrom (n + 1) later → RiseFrom 1 (rest ++ later)
  pub played : HavePlayed old new before after rest
  pub over : AreOver n after

pub none_have_run : (book : BookView) (sessions : List Session) → AreStanding book.options (log_tree book.log) sessions → AreInPlan sessions → HaveRun book book sessions sessions 0
none_have_run book sessions standing in_plan = record {
  rest = [];
  rises = λ later rises. rises;
  played = none_played book sessions standing in_plan;
  over = λ place x low there. absurd (let none : ⊥ = omega (arith, low) in none);
}

pub more_have_run : (a b c : BookView) (x y z : List Session) (place : ℕ) → HaveRun a b x y place → HasRun b c y z place → ((other : ℕ) → other ≢ place → slice_get z other ≡ slice_get y other) → ((s : Session) → slice_get z place ≡ Some s → IsOver s)
    → HaveRun a c x z (place + 1)
more_have_run a b c x y z place h r others over = record {
  rest = h.rest ++ r.turns;
  rises = λ later rises.
      let lower : RiseFrom (place + 1) later = rise_lower (place + 1) (place + 1 + 1) (omega arith) later rises in
      subst (RiseFrom 1) (sym (append_assoc h.rest r.turns later)) (h.rises (r.turns ++ later) (r.own (place + 1) (omega arith) later lower));
  played = then_played a b c x y z h.rest r.turns h.played r.played;
  over = λ at s low there.
      same_or at place (λ same. over s (subst (λ n. slice_get z n ≡ Some s) same there)) (λ apart. h.over at s (omega (arith, low, apart)) (sym (others at apart) ∙ there));
}

pub all_have_run : (old new : BookView) (before after : List Session) (n : ℕ) → n ≡ length before → HaveRun old new before after n → HaveEnded old new before after
all_have_run old new before after n all h = record {
  rest = h.rest;
  rises = subst (RiseFrom 1) (append-nil h.rest) (h.rises [] tt);
  played = h.played;
  over = subst (λ m. AreOver m after) (all ∙ sym (played_length old new before after h.rest h.played)) h.over;
}

-- ## The whole run

-- the sessions follow the schedule
pub scheduled : (a b c : BookView) (x y z : List Session) (options : PoolOptions) (scripts : List (List (List ℕ))) (turns : List ℕ) → a ≡ record { options = options; log = [] } → scripts_of x ≡ scripts → HavePlayed a b x y turns
    → HaveEnded b c y z → IsScheduled options scripts turns (log_tree c.log)
scheduled a b c x y z options scripts turns new of p e =
    let all = then_played a b c x y z turns e.rest p e.played in
    let start : a.options ≡ options = ap (λ (book : BookView). book.options) new in
    let empty : log_tree a.log ≡ [] = ap (λ (book : BookView). log_tree book.log) new in
    let kept : scripts_of z ≡ scripts = all.scripts ∙ of in
    record {
      rest = e.rest;
      rises = e.rises;
      played = subst (λ (o : PoolOptions). IsPlayed InPlan o scripts (turns ++ e.rest) (log_tree c.log)) start
          (subst (λ scripts. IsPlayed InPlan a.options scripts (turns ++ e.rest) (log_tree c.log)) of
          (all.played [] (subst (IsPlayed InPlan a.options (scripts_of x) []) (sym empty) Starts)));
      done = λ session pieces low there.
          map_there (λ (s : Session). s.pieces) z (session - 1) pieces (ap (λ scripts. slice_get scripts (session - 1)) kept ∙ there)
          (λ s at same.
          let stood = all.standing (session - 1) s at in
          let number : s.number ≡ session = stood.0 ∙ (let back : (session - 1) + 1 ≡ session = omega (arith, low) in back) in
          let over = e.over (session - 1) s (within z (session - 1) s at) at in
          subst (λ n. IsDone pieces n (log_tree c.log)) number (subst (λ ps. IsDone ps s.number (log_tree c.log)) same (done_is c.options (log_tree c.log) s stood.1 over.all)));
    }
  where
    within : (xs : List Session) (i : ℕ) (s : Session) → slice_get xs i ≡ Some s → i < length xs
    within xs i s at = slice_get_within xs i s at

-- the text of a session that is over; each of its statements occurs once in the log
over_text : EachReadsAsOne → (options : PoolOptions) (log : List EventTree) (x : Session) → Stands options log x → IsOver x → IsInOrder log x → IsText log x.number x.pieces x.text.items
over_text each options log x s over o =
    let told = done_text options log x s over.between over.all in
    let read = subst (λ pieces. AreReadings pieces o.readings) (take_all x.ended x.pieces over.all) o.read in
    let same = readings_one each x.pieces o.readings told.0 read told.1 in
    let none = subst (IsStage options log x (progress_of x.number log)) over.between s.stage in
    let nothing = subst (λ begun. IsOpenedAs log x begun o.opened) none o.open_ in
    let logged : o.finished ≡ logged_of x.number log = sym (o.logged ∙ ap (λ more. o.finished ++ more) nothing ∙ append-nil o.finished) in (
      told.0,
      told.1,
      told.2,
      subst (λ readings. AreStatements log x.number 1 readings (logged_of x.number log)) same (subst (AreStatements log x.number 1 o.readings) logged o.statements),
    )

-- the texts of sessions that are over
texts_from : EachReadsAsOne → (options : PoolOptions) (log : List EventTree) (n : ℕ) (sessions : List Session)
    → ((place : ℕ) (x : Session) → slice_get sessions place ≡ Some x → (x.number ≡ n + place) × Stands options log x × IsOver x × IsInOrder log x)
    → AreTexts log n (scripts_of sessions) (map (λ (text : Vec ℕ Global). text.items) (map (λ (x : Session). x.text) sessions))
texts_from each options log n [] all = tt
texts_from each options log n (x ∷ sessions) all =
    let one = all 0 x refl in
    let number : x.number ≡ n = omega (arith, one.0) in (
      subst (λ m. IsText log m x.pieces x.text.items) number (over_text each options log x one.1 one.2 one.3),
      texts_from each options log (n + 1) sessions (λ place y there. let more = all (suc place) y there in (let same = more.0 in omega (arith, same), more.1, more.2, more.3)),
    )

pub texts_are : EachReadsAsOne → (options : PoolOptions) (log : List EventTree) (sessions : List Session) → AreStanding options log sessions → AreOver (length sessions) sessions
    → AreTexts log 1 (scripts_of sessions) (map (λ (text : Vec ℕ Global). text.items) (map (λ (x : Session). x.text) sessions))
texts_are each options log sessions standing over =
    texts_from each options log 1 sessions
    (λ place x there. let stood = standing place x there in (let same = stood.0 in omega (arith, same), stood.1, over place x (slice_get_within sessions place x there) there, stood.3))
