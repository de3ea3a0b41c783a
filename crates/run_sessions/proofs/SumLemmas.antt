-- The work of all sessions is that of each, summed up.
use Rattle.std.proofs.Common.{◌≡◌, ◌≢◌, ℕ, zero, suc, ◌+◌, ◌≤◌, ◌<◌, List, [], ◌∷◌, ◌++◌, length, take, get_or, cond, Some, refl, ap, sym, ◌∙◌, arith}
use Rattle.std.specs.Prelude.{slice_get, sum_by, ◌==◌}
use Rattle.std.specs.List.{AllByRecursion}
use Rattle.std.proofs.lemmas.Bool.{eq-eqb, ne_eqb}
use Rattle.std.proofs.lemmas.List.{take_more}
use Rattle.std.proofs.lemmas.List.Sums.{sum_by-cons, sum_by_push}
use Rattle.std.proofs.lemmas.Option.{slice_get_within}
use Rattle.pool_policy.specs.declared.options.PoolOptions.{PoolOptions}
use Rattle.pool_policy.proofs.Ends.{all_append}
use Rattle.run_log.specs.Events.{EventTree}
use Rattle.session_run.specs.declared.session.Session.{Session}
use Rattle.session_run.specs.Work.{event_work, session_work, sessions_work, sum_behind}
use Rattle.session_run.specs.Works.{done_by, held_in}
use Rattle.session_run.specs.Turns.{Order}
use Rattle.run_sessions.specs.Played.{IsPlayed, Starts, Does, Passes}
use Rattle.run_sessions.specs.Tables.{AreOver, AreStanding}
use Rattle.run_sessions.proofs.PlaceLemmas.{same_or}

-- ## Events are of sessions

-- an event is of one of this many sessions
abbrev pub IsOfOne : ℕ → EventTree → Type 0
IsOfOne many event = (1 ≤ event.session) × (event.session ≤ many)

-- those of sessions that take turns
pub played_sessions : {order : Order} (options : PoolOptions) (scripts : List (List (List ℕ))) (turns : List ℕ) (log : List EventTree) → IsPlayed order options scripts turns log → AllByRecursion (IsOfOne (length scripts)) log
played_sessions options scripts turns log Starts = tt
played_sessions options scripts turns log (Does before events session pieces event played low here next) =
    let own : event.session ≡ session = next.own in
    let high = slice_get_within scripts _ pieces here in
    all_append (IsOfOne (length scripts)) events (event ∷ []) (played_sessions options scripts before events played) ((omega (arith, own, low), omega (arith, own, low, high)), tt)
played_sessions options scripts turns log (Passes before events session pieces played low here done) = played_sessions options scripts before log played

-- ## Sums over a log

module _ (takes : List EventTree → EventTree → ℕ) where
  -- what an event takes, where it is of this session
  abbrev own : ℕ → List EventTree → EventTree → ℕ
  own session before event = cond (event.session == session) (takes before event) 0

  -- what it takes of m sessions, from number n on
  abbrev ones : ℕ → ℕ → List EventTree → EventTree → ℕ
  ones n zero before event = 0
  ones n (suc m) before event = own n before event + ones (n + 1) m before event

  -- and what all events take
  abbrev parts : ℕ → ℕ → List EventTree → List EventTree → ℕ
  parts n zero before log = 0
  parts n (suc m) before log = sum_behind (own n) before log + parts (n + 1) m before log

  own_is : (session : ℕ) (before : List EventTree) (event : EventTree) → event.session ≡ session → own session before event ≡ takes before event
  own_is session before event is = ap (λ b. cond b (takes before event) 0) (eq-eqb event.session session is)

  own_none : (session : ℕ) (before : List EventTree) (event : EventTree) → event.session ≢ session → own session before event ≡ 0
  own_none session before event apart = ap (λ b. cond b (takes before event) 0) (ne_eqb event.session session apart)

  ones_none : (n m : ℕ) (before : List EventTree) (event : EventTree) → event.session < n → ones n m before event ≡ 0
  ones_none n zero before event low = refl
  ones_none n (suc m) before event low =
      let one = own_none n before event (λ same. omega (arith, low, same)) in
      let more = ones_none (n + 1) m before event (omega (arith, low)) in
      omega (arith, one, more)

  -- an event is of one session alone
  ones_is : (n m : ℕ) (before : List EventTree) (event : EventTree) → n ≤ event.session → event.session < n + m → ones n m before event ≡ takes before event
  ones_is n zero before event low high = absurd (let none : ⊥ = omega (arith, low, high) in none)
  ones_is n (suc m) before event low high = same_or event.session n
      (λ same. let one = own_is n before event same in let more = ones_none (n + 1) m before event (omega (arith, same)) in omega (arith, one, more))
      (λ apart. let one = own_none n before event apart in let more = ones_is (n + 1) m before event (omega (arith, low, apart)) (omega (arith, high)) in omega (arith, one, more))

  parts_none : (n m : ℕ) (before : List EventTree) → parts n m before [] ≡ 0
  parts_none n zero before = refl
  parts_none n (suc m) before = let more = parts_none (n + 1) m before in omega (arith, more)

  parts_more : (n m : ℕ) (before : List EventTree) (event : EventTree) (log : List EventTree) → parts n m before (event ∷ log) ≡ ones n m before event + parts n m (before ++ event ∷ []) log
  parts_more n zero before event log = refl
  parts_more n (suc m) before event log = let more = parts_more (n + 1) m before event log in omega (arith, more)

  parts_all : (m : ℕ) (before log : List EventTree) → AllByRecursion (IsOfOne m) log → parts 1 m before log ≡ sum_behind takes before log
  parts_all m before [] all = parts_none 1 m before
  parts_all m before (event ∷ log) all =
      let low = all.0.0 in
      let high = all.0.1 in
      let one = ones_is 1 m before event low (omega (arith, high)) in
      let more = parts_all m (before ++ event ∷ []) log all.1 in
      let both = parts_more 1 m before event log in
      omega (arith, one, more, both)

-- ## The work of the sessions

module _ (options : PoolOptions) (log : List EventTree) where
  worked_from : (n : ℕ) (sessions : List Session) → ((place : ℕ) (x : Session) → slice_get sessions place ≡ Some x → (x.number ≡ n + place) × (x.work ≡ session_work options x.number log))
      → sum_by (λ (x : Session). x.work) sessions ≡ parts (event_work options) n (length sessions) [] log
  worked_from n [] all = refl
  worked_from n (x ∷ sessions) all =
      let first = all 0 x refl in
      let number : x.number ≡ n = omega (arith, first.0) in
      let one = first.1 ∙ ap (λ k. session_work options k log) number in
      let more = worked_from (n + 1) sessions (λ place y there. let later = all (suc place) y there in (let same = later.0 in omega (arith, same), later.1)) in
      let sum = sum_by-cons (λ (y : Session). y.work) x sessions in
      omega (arith, one, more, sum)

  -- what the sessions have worked is the work of all events
  pub work_is : (sessions : List Session) → AreStanding options log sessions → AllByRecursion (IsOfOne (length sessions)) log → sum_by (λ (x : Session). x.work) sessions ≡ sessions_work options log
  work_is sessions standing all =
      worked_from 1 sessions (λ place x there. let stood = standing place x there in (let same = stood.0 in omega (arith, same), stood.2.work))
      ∙ parts_all (event_work options) (length sessions) [] log all

-- sessions that are over hold no work
pub over_done : (sessions : List Session) → AreOver (length sessions) sessions → sum_by done_by sessions ≡ sum_by (λ (x : Session). x.work) sessions
over_done [] over = refl
over_done (x ∷ sessions) over =
    let none = ap held_in (over 0 x (omega arith) refl).between in
    let more = over_done sessions (λ place y low there. over (suc place) y (omega (arith, low)) there) in
    let done = sum_by-cons done_by x sessions in
    let worked = sum_by-cons (λ (y : Session). y.work) x sessions in
    omega (arith, none, more, done, worked)

-- the work of one session more
pub work_more : (sessions : List Session) (i : ℕ) (x : Session) → i < length sessions → x ≡ get_or sessions i x → sum_by (λ (y : Session). y.work) (take (i + 1) sessions) ≡ sum_by (λ (y : Session). y.work) (take i sessions) + x.work
work_more sessions i x low is =
    ap (sum_by (λ (y : Session). y.work)) (take_more sessions i x low) ∙ sum_by_push (λ (y : Session). y.work) (take i sessions) (get_or sessions i x)
    ∙ ap (λ (y : Session). sum_by (λ (w : Session). w.work) (take i sessions) + y.work) (sym is)
