-- The log of sessions that are over, each of which did its next event wherever an event is its own.
use Rattle.std.proofs.Common.{◌≡◌, ◌≢◌, ℕ, zero, suc, ◌+◌, ◌-◌, ◌≤◌, ◌<◌, List, [], ◌∷◌, ◌++◌, length, map, take, Bool, true, false, cond, Some, refl, ap, sym, ◌∙◌, subst, arith, ◌⊎◌, inl, inr, append_assoc}
use Rattle.std.specs.Prelude.{nat_lt, slice_get, ◌==◌}
use Rattle.std.specs.List.{AllByRecursion}
use Rattle.std.specs.Option.{option_map}
use Rattle.std.proofs.Math.Seq.{take-append_seam}
use Rattle.std.proofs.lemmas.Bool.{cases_lt, eq-eqb}
use Rattle.std.proofs.lemmas.List.{append-nil, map-append}
use Rattle.std.proofs.lemmas.Option.{slice_get-map, slice_get_within}
use Rattle.cell_core.proofs.ListLemmas.{slice_get-append_middle}
use Rattle.pool_policy.specs.declared.options.PoolOptions.{PoolOptions}
use Rattle.run_log.specs.declared.event.Event.{Event}
use Rattle.run_log.specs.declared.event.Totals.{Totals}
use Rattle.run_log.specs.Events.{EventTree, log_tree}
use Rattle.book_core.specs.Lawful.{IsLawful}
use Rattle.turn_hall.specs.Entries.{entries_by}
use Rattle.session_run.specs.declared.session.Session.{Session}
use Rattle.session_run.specs.Kept.{order_of}
use Rattle.session_run.specs.Turns.{AsReady, InPlan, IsDone, IsNext}
use Rattle.session_run.specs.Work.{run_totals}
use Rattle.session_run.proofs.RunLemmas.{done_is}
use Rattle.run_sessions.specs.Played.{Does, IsPlayed, Starts}
use Rattle.run_sessions.specs.Tables.{AreOver, AreStanding, AreTexts, scripts_of}
use Rattle.run_sessions.proofs.PlaceLemmas.{map_there}
use Rattle.run_sessions.proofs.SumLemmas.{IsOfOne}
use Rattle.thread_sessions.specs.Runners.{IsAt, session_of}
use Rattle.thread_sessions.specs.Runs.{AreSet, HasNoneBeside, HaveSeen, IsRunOut, order_for}
use Rattle.thread_sessions.proofs.AlongLemmas.{seen_at}
use Rattle.thread_sessions.proofs.ListLemmas.{none_first, none_more}

there_is : {X : Type 0} (xs : List X) (n : ℕ) → n < length xs → (x : X) × (slice_get xs n ≡ Some x)
there_is [] n low = absurd (let no : ⊥ = omega (arith, low) in no)
there_is (x ∷ xs) zero low = (x, refl)
there_is (x ∷ xs) (suc n) low = there_is xs n (omega (arith, low))

-- ## Whose events there are

false_true : false ≡ true → ⊥
false_true e = cc

unlike : (b : Bool) → b ≡ true → b ≡ false → ⊥
unlike b is not = false_true (sym not ∙ is)

first_of : (n : ℕ) (event : Event) (list : List Event) → HasNoneBeside n (event ∷ list) → (1 ≤ event.session) × (event.session ≤ n)
first_of n event list none = (low, high)
  where
    apart : event.session ≢ 0
    apart is = unlike (event.session == 0) (eq-eqb event.session 0 is) (none_first (event.session == 0) event (entries_by session_of 0 list) none.0)

    low : 1 ≤ event.session
    low = omega (arith, apart)

    go : (n < event.session) ⊎ (event.session ≤ n) → event.session ≤ n
    go (inr small) = small
    go (inl great) = absurd (unlike (event.session == event.session) (eq-eqb event.session event.session refl) (none_first (event.session == event.session) event (entries_by session_of event.session list) (none.1 event.session great)))

    high : event.session ≤ n
    high = go (cases_lt n event.session)

-- where no entry is of another number than those of the sessions, each event is of one of them
of_one : (n : ℕ) (list : List Event) → HasNoneBeside n list → AllByRecursion (IsOfOne n) (log_tree list)
of_one n [] none = tt
of_one n (event ∷ list) none = (
  first_of n event list none,
  of_one n list (
    none_more (event.session == 0) event (entries_by session_of 0 list) none.0,
    λ number low. none_more (event.session == number) event (entries_by session_of number list) (none.1 number low),
  ),
)

pub events_of : (n : ℕ) (log : List Event) → HasNoneBeside n log → AllByRecursion (IsOfOne n) (log_tree log)
events_of n log none = of_one n log none

-- ## The log at the end

module _ (log events : List Event) (same : events ≡ log) where
  pub texts_in : (scripts : List (List (List ℕ))) (texts : List (List ℕ)) → AreTexts (log_tree log) 1 scripts texts → AreTexts (log_tree events) 1 scripts texts
  texts_in scripts texts are = subst (λ (es : List Event). AreTexts (log_tree es) 1 scripts texts) (sym same) are

  pub totals_in : (options : PoolOptions) (totals : Totals) → totals ≡ run_totals options (log_tree log) → totals ≡ run_totals options (log_tree events)
  totals_in options totals are = are ∙ ap (λ (es : List Event). run_totals options (log_tree es)) (sym same)

-- ## The sessions at the end

-- each agrees with the log, with its number
abbrev pub AreAt : PoolOptions → List EventTree → List Session → Type 0
AreAt options log sessions = (place : ℕ) (x : Session) → slice_get sessions place ≡ Some x → (x.number ≡ place + 1) × IsAt options log x

pub all_at : (options : PoolOptions) (log : List Event) (sessions : List Session) → IsLawful options (log_tree log) → HaveSeen options log sessions → AreAt options (log_tree log) sessions
all_at options log sessions lawful seen place x there = let saw = seen place x there in (saw.0, seen_at options log x lawful saw.1)

pub all_stand : (options : PoolOptions) (log : List EventTree) (sessions : List Session) → AreAt options log sessions → AreStanding options log sessions
all_stand options log sessions at place x there = let is = at place x there in (is.0, is.1.stands, is.1.worked, is.1.ordered)

-- ## The turns

module _ (workers : ℕ) (options : PoolOptions) (log : List EventTree) (sessions : List Session) (at : AreAt options log sessions) (set : AreSet (nat_lt 1 workers) sessions) where
  abbrev turns_of : List EventTree → List ℕ
  turns_of events = map (λ (event : EventTree). event.session) events

  script_at : (place : ℕ) (x : Session) → slice_get sessions place ≡ Some x → slice_get (scripts_of sessions) place ≡ Some x.pieces
  script_at place x there = slice_get-map (λ (z : Session). z.pieces) sessions place ∙ ap (option_map (λ (z : Session). z.pieces)) there

  -- an event is the next one of its session
  does_at : (front : List EventTree) (event : EventTree) (back : List EventTree) → log ≡ front ++ event ∷ back → IsOfOne (length sessions) event → IsPlayed (order_for workers) options (scripts_of sessions) (turns_of front) front
      → IsPlayed (order_for workers) options (scripts_of sessions) (turns_of front ++ event.session ∷ []) (front ++ event ∷ [])
  does_at front event back is one before =
      let low = one.0 in
      let high = one.1 in
      let there = there_is sessions (event.session - 1) (omega (arith, low, high)) in
      let x = there.0 in
      let stood = at (event.session - 1) x there.1 in
      let counts : (event.session - 1) + 1 ≡ event.session = omega (arith, low) in
      let number = stood.0 ∙ counts in
      let here : slice_get log (length front) ≡ Some event = ap (λ l. slice_get l (length front)) is ∙ slice_get-append_middle front event back in
      let before_it : take (length front) log ≡ front = ap (take (length front)) is ∙ take-append_seam front (event ∷ back) in
      let next = stood.1.does (length front) event here (sym number) in
      Does (turns_of front) front event.session x.pieces event before low (script_at (event.session - 1) x there.1)
      (subst (λ b. IsNext (cond b AsReady InPlan) options x.pieces event.session front event) (set (event.session - 1) x there.1).0
      (subst (λ n. IsNext (order_of x) options x.pieces n front event) number (subst (λ (l : List EventTree). IsNext (order_of x) options x.pieces x.number l event) before_it next)))

  played_from : (front back : List EventTree) → log ≡ front ++ back → AllByRecursion (IsOfOne (length sessions)) back → IsPlayed (order_for workers) options (scripts_of sessions) (turns_of front) front → IsPlayed (order_for workers) options (scripts_of sessions) (turns_of log) log
  played_from front [] is all before = subst (λ (l : List EventTree). IsPlayed (order_for workers) options (scripts_of sessions) (turns_of l) l) (sym (is ∙ append-nil front)) before
  played_from front (event ∷ back) is all before =
      played_from (front ++ event ∷ []) back (is ∙ sym (append_assoc front (event ∷ []) back)) all.1
      (subst (λ turns. IsPlayed (order_for workers) options (scripts_of sessions) turns (front ++ event ∷ [])) (sym (map-append (λ (e : EventTree). e.session) front (event ∷ []))) (does_at front event back is all.0 before))

  -- the sessions, which are over, took turns that make the log
  pub run_out : AllByRecursion (IsOfOne (length sessions)) log → AreOver (length sessions) sessions → IsRunOut (order_for workers) options (scripts_of sessions) log
  run_out all over = record {
    turns = turns_of log;
    played = played_from [] log refl all Starts;
    done = λ session pieces low there.
        map_there (λ (x : Session). x.pieces) sessions (session - 1) pieces there
        (λ x here same.
        let stood = at (session - 1) x here in
        let counts : (session - 1) + 1 ≡ session = omega (arith, low) in
        subst (λ n. IsDone pieces n log) (stood.0 ∙ counts)
        (subst (λ ps. IsDone ps x.number log) same (done_is options log x stood.1.stands (over (session - 1) x (slice_get_within sessions (session - 1) x here) here).all)));
  }
