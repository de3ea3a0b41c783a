-- The totals of a whole run, and what its counter shows.
use Rattle.std.proofs.Common.{◌≡◌, ℕ, ◌+◌, List, [], ◌++◌, length, Result, Ok, Err, ap, sym, ◌∙◌, subst, arith}
use Rattle.std.specs.Prelude.{sum_by, IfOk}
use Rattle.std.specs.List.{AllByRecursion}
use Rattle.std.proofs.lemmas.List.{length-map}
use Rattle.pool_policy.specs.declared.options.PoolOptions.{PoolOptions}
use Rattle.store_changes.specs.Work.{Counts}
use Rattle.run_log.specs.declared.event.Event.{Event}
use Rattle.run_log.specs.declared.event.Totals.{Totals}
use Rattle.run_log.specs.Events.{EventTree, log_tree}
use Rattle.run_log.specs.Fold.{run_of}
use Rattle.book_core.specs.BookView.{BookView, state_of}
use Rattle.session_run.specs.declared.session.Session.{Session}
use Rattle.session_run.specs.Work.{run_lost, run_totals, run_work, sessions_work}
use Rattle.session_run.specs.Works.{done_by}
use Rattle.run_sessions.specs.Played.{IsScheduled}
use Rattle.run_sessions.specs.Tables.{AreStanding, AreTexts, CountsTurns, HaveEnded, HavePlayed, scripts_of}
use Rattle.run_sessions.proofs.CountLemmas.{then_counted}
use Rattle.run_sessions.proofs.RunLemmas.{scheduled}
use Rattle.run_sessions.proofs.SumLemmas.{IsOfOne, over_done, played_sessions, work_is}

-- what follows from two facts of a value holds of it
pub both_ok : {X E : Type 0} (r : Result X E) (P Q R : X → Type 0) → ((x : X) → P x → Q x → R x) → IfOk r P → IfOk r Q → IfOk r R
both_ok (Ok x) P Q R tells p q = tells x p q
both_ok (Err e) P Q R tells p q = tt

-- the totals of a log, with the work of the sessions after it, are those of the run
pub totals_are : (options : PoolOptions) (log : List EventTree) (sessions : List Session) → AreStanding options log sessions → AllByRecursion (IsOfOne (length sessions)) log
    → (held more : Totals) (work : ℕ) → held ≡ (run_of options log).totals → work ≡ sum_by (λ (s : Session). s.work) sessions → more ≡ record held { work = held.work + work } → more ≡ run_totals options log
totals_are options log sessions standing all held more work is worked with =
    let same = worked ∙ work_is options log sessions standing all in
    let sum : (run_of options log).totals.work + work ≡ run_work options log = omega (arith, same) in
    with ∙ ap (λ (t : Totals). let next : Totals = record t { work = t.work + work } in next) is
    ∙ ap (λ w. let next : Totals = record (run_of options log).totals { work = w } in next) sum

-- the outcome of a run of sessions, with its counter before and after
pub record ComesTo (options : PoolOptions) (scripts : List (List (List ℕ))) (turns : List ℕ) (book : BookView) (sessions : List Session) (from to : ℕ) : Type 0 where
  pub follows : IsScheduled options scripts turns (log_tree book.log)
  pub many : length sessions ≡ length scripts
  pub of_sessions : AllByRecursion (IsOfOne (length sessions)) (log_tree book.log)
  pub options_are : book.options ≡ options
  pub scripts_are : scripts_of sessions ≡ scripts
  pub counted : Counts from to (run_work options (log_tree book.log)) (run_lost options (log_tree book.log))

module _ (a b c : BookView) (x y z : List Session) (options : PoolOptions) (scripts : List (List (List ℕ))) (turns : List ℕ) (new : a ≡ record { options = options; log = [] }) (of : scripts_of x ≡ scripts)
    (p : HavePlayed a b x y turns) (e : HaveEnded b c y z) where
  abbrev log : List EventTree
  log = log_tree c.log

  same_options : c.options ≡ options
  same_options = e.played.options ∙ p.options ∙ ap (λ (book : BookView). book.options) new

  same_scripts : scripts_of z ≡ scripts
  same_scripts = e.played.scripts ∙ p.scripts ∙ of

  follows : IsScheduled options scripts turns log
  follows = scheduled a b c x y z options scripts turns new of p e

  as_many : length z ≡ length scripts
  as_many = sym (length-map z (λ (s : Session). s.pieces)) ∙ ap length same_scripts

  -- each event is of one of the sessions
  events_of : AllByRecursion (IsOfOne (length z)) log
  events_of = subst (λ n. AllByRecursion (IsOfOne n) log) (sym as_many) (played_sessions options scripts (turns ++ follows.rest) log follows.played)

  works : sum_by (λ (s : Session). s.work) z ≡ sessions_work options log
  works = work_is options log z (subst (λ (o : PoolOptions). AreStanding o log z) same_options e.played.standing) events_of

  -- the counter rises by the work of the run; by more only where plans overflow
  run_counted : (from mid to : ℕ) → sum_by done_by x ≡ 0 → CountsTurns a b x y from mid → CountsTurns b c y z mid to → Counts from to (run_work options log) (run_lost options log)
  run_counted from mid to none first last =
      let all = then_counted a b c x y z from mid to first last in
      let least = all.least in
      let most = all.most in
      let done = over_done z e.over ∙ works in
      let started : (state_of a).totals.work ≡ 0 = ap (λ (book : BookView). (state_of book).totals.work) new in
      let start_lost : run_lost a.options (log_tree a.log) ≡ 0 = ap (λ (book : BookView). run_lost book.options (log_tree book.log)) new in
      let ended : (state_of c).totals.work ≡ (run_of options log).totals.work = ap (λ (o : PoolOptions). (run_of o log).totals.work) same_options in
      let end_lost : run_lost c.options log ≡ run_lost options log = ap (λ (o : PoolOptions). run_lost o log) same_options in
      record { least = omega (arith, least, none, done, started, ended); most = omega (arith, most, none, done, started, start_lost, ended, end_lost) }

  -- sessions that take the turns of a schedule, and then run to their ends
  pub run_comes : (from mid to : ℕ) → sum_by done_by x ≡ 0 → CountsTurns a b x y from mid → CountsTurns b c y z mid to → ComesTo options scripts turns c z from to
  run_comes from mid to none first last = record {
    follows = follows;
    many = as_many;
    of_sessions = events_of;
    options_are = same_options;
    scripts_are = same_scripts;
    counted = run_counted from mid to none first last;
  }

-- ## The result of a run

module _ (options : PoolOptions) (scripts : List (List (List ℕ))) (turns : List ℕ) (book : BookView) (sessions : List Session) (from to : ℕ) (c : ComesTo options scripts turns book sessions from to) (events : List Event) (log : events ≡ book.log) where
  pub run_follows : IsScheduled options scripts turns (log_tree events)
  run_follows = subst (λ (es : List Event). IsScheduled options scripts turns (log_tree es)) (sym log) c.follows

  pub run_of_sessions : AllByRecursion (IsOfOne (length scripts)) (log_tree events)
  run_of_sessions = subst (λ (es : List Event). AllByRecursion (IsOfOne (length scripts)) (log_tree es)) (sym log) (subst (λ n. AllByRecursion (IsOfOne n) (log_tree book.log)) c.many c.of_sessions)

  pub run_texts : (texts : List (List ℕ)) → AreTexts (log_tree book.log) 1 (scripts_of sessions) texts → AreTexts (log_tree events) 1 scripts texts
  run_texts texts are = subst (λ (es : List Event). AreTexts (log_tree es) 1 scripts texts) (sym log) (subst (λ them. AreTexts (log_tree book.log) 1 them texts) c.scripts_are are)

  pub run_totals_are : (totals : Totals) → totals ≡ run_totals book.options (log_tree book.log) → totals ≡ run_totals options (log_tree events)
  run_totals_are totals are = are ∙ ap (λ (o : PoolOptions). run_totals o (log_tree book.log)) c.options_are ∙ ap (λ (es : List Event). run_totals options (log_tree es)) (sym log)

  pub run_counts : (totals : Totals) → totals ≡ run_totals book.options (log_tree book.log) → Counts from to totals.work (run_lost options (log_tree events))
  run_counts totals are =
      let is : totals.work ≡ run_work options (log_tree book.log) = ap (λ (t : Totals). t.work) are ∙ ap (λ (o : PoolOptions). run_work o (log_tree book.log)) c.options_are in
      subst (λ (es : List Event). Counts from to totals.work (run_lost options (log_tree es))) (sym log) (subst (λ work. Counts from to work (run_lost options (log_tree book.log))) (sym is) c.counted)
