-- A schedule has one log: each turn does one thing, and the turns at the end are those of the sessions that are not done.
use Rattle.std.proofs.Common.{◌≡◌, ◌≢◌, ℕ, ◌-◌, ◌≤◌, ◌<◌, List, [], ◌∷◌, ◌++◌, length, Bool, Option, Some, None, inl, inr, ◌⊎◌, refl, ap, sym, ◌∙◌, subst, arith}
use Rattle.std.specs.Prelude.{slice_get}
use Rattle.std.proofs.lemmas.Bool.{cases_lt, ne_eqb}
use Rattle.std.proofs.lemmas.Option.{same_Some, slice_get_within}
use Rattle.mal_meaning.specs.declared.plan.Plan.{Plan}
use Rattle.pool_policy.specs.declared.entry.Who.{Who}
use Rattle.pool_policy.specs.declared.options.PoolOptions.{PoolOptions}
use Rattle.reply_layout.specs.Doings.{Doing, Beginning, Writing}
use Rattle.read_laws.specs.Answered.{EachReadsAsOne, Reads}
use Rattle.read_laws.specs.Readings.{AreAllRead, AreReadings}
use Rattle.run_log.specs.Events.{ActTree, EventTree}
use Rattle.run_log.specs.Fold.{LogState, run_of}
use Rattle.answer_text.specs.Log.{Said, doing_over}
use Rattle.answer_text.specs.Layout.{printed}
use Rattle.session_run.specs.Progress.{Got, Progress, progress_of}
use Rattle.session_run.specs.Turns.{InPlan, IsDone, IsLaterAct, IsNext, IsNextAct, state_before, who_at}
use Rattle.session_run.specs.Work.{run_totals}
use Rattle.session_run.proofs.LogLemmas.{other_progress}
use Rattle.run_sessions.specs.Played.{Does, IsPlayed, IsScheduled, Passes, RiseFrom, Starts}
use Rattle.run_sessions.proofs.PlaceLemmas.{same_or}
use Rattle.run_laws.specs.Laws.{IsPrinted, OneLog}

-- two numbers are in one of three orders
in_order : {P : Type 0} (a b : ℕ) → (a < b → P) → (a ≡ b → P) → (b < a → P) → P
in_order {P = P} a b less same more = same_or a b same (λ apart. go apart (cases_lt a b))
  where
    go : a ≢ b → (a < b) ⊎ (b ≤ a) → P
    go apart (inl low) = less low
    go apart (inr high) = more (omega (arith, apart, high))

-- ## The next event is one

later_same : (s : LogState) (who : Who) (seen : LogState) (results : ℕ → Got) (doing : Doing Plan) (a b : ActTree) → IsLaterAct InPlan s who seen results doing a → IsLaterAct InPlan s who seen results doing b → a ≡ b
later_same s who seen results (Beginning (Some plan) shown) a b one other = one ∙ sym other
later_same s who seen results (Beginning None shown) a b one other = one ∙ sym other
later_same s who seen results (Writing statement shown) a b one other = one ∙ sym other

act_same : (options : PoolOptions) (log : List EventTree) (who : Who) (p : Progress) (begun : Option ℕ) (said : Said) (a b : ActTree)
    → IsNextAct InPlan options log who p begun said a → IsNextAct InPlan options log who p begun said b → a ≡ b
act_same options log who p None said a b one other = same_Some a b (sym one ∙ other)
act_same options log who p (Some at) said a b one other =
    let seen = state_before options log at in later_same (run_of options log) who seen p.results (doing_over seen.db said) a b one other

event_same : (a b : EventTree) → a.session ≡ b.session → a.statement ≡ b.statement → a.act ≡ b.act → a ≡ b
event_same a b session statement act =
    ap (λ n. event n a.statement a.act) session ∙ ap (λ n. event b.session n a.act) statement ∙ ap (λ x. event b.session b.statement x) act
  where
    event : ℕ → ℕ → ActTree → EventTree
    event n k x = record { session = n; statement = k; act = x }

next_same : EachReadsAsOne → (options : PoolOptions) (pieces : List (List ℕ)) (session : ℕ) (log : List EventTree) (a b : EventTree)
    → IsNext InPlan options pieces session log a → IsNext InPlan options pieces session log b → a ≡ b
next_same each options pieces session log a b one other =
    let p = progress_of session log in
    let piece = same_Some one.piece other.piece (sym one.here ∙ other.here) in
    let reading = each other.piece one.reading other.reading (subst (λ text. Reads text one.reading) piece one.read) other.read in
    let act = act_same options log (who_at session p) p p.begun other.reading a.act b.act
    (subst (λ said. IsNextAct InPlan options log (who_at session p) p p.begun said a.act) reading one.act) other.act in
    event_same a b (one.own ∙ sym other.own) (one.numbered ∙ sym other.numbered) act

-- ## Turns

-- at its turn a session does its next event, or none where it is done
data Turn (options : PoolOptions) (scripts : List (List (List ℕ))) (session : ℕ) (log later : List EventTree) : Type 0 where
  Moves : (pieces : List (List ℕ)) (event : EventTree) → 1 ≤ session → slice_get scripts (session - 1) ≡ Some pieces → IsNext InPlan options pieces session log event → later ≡ log ++ event ∷ []
      → Turn options scripts session log later
  Rests : (pieces : List (List ℕ)) → slice_get scripts (session - 1) ≡ Some pieces → IsDone pieces session log → later ≡ log → Turn options scripts session log later

-- one turn after the other, from a log on
abbrev Plays : PoolOptions → List (List (List ℕ)) → List EventTree → List ℕ → List EventTree → Type 0
Plays options scripts log [] later = later ≡ log
Plays options scripts log (session ∷ turns) later = (mid : List EventTree) × Turn options scripts session log mid × Plays options scripts mid turns later

abbrev AreAllDone : List (List (List ℕ)) → List EventTree → Type 0
AreAllDone scripts log = (session : ℕ) (pieces : List (List ℕ)) → 1 ≤ session → slice_get scripts (session - 1) ≡ Some pieces → IsDone pieces session log

module _ (options : PoolOptions) (scripts : List (List (List ℕ))) where
  plays_more : (turns : List ℕ) (session : ℕ) (log mid later : List EventTree) → Plays options scripts log turns mid → Turn options scripts session mid later → Plays options scripts log (turns ++ session ∷ []) later
  plays_more [] session log mid later same turn = (later, subst (λ (from : List EventTree). Turn options scripts session from later) same turn, refl)
  plays_more (t ∷ turns) session log mid later plays turn = (plays.0, plays.1, plays_more turns session plays.0 mid later plays.2 turn)

  plays_of : (turns : List ℕ) (log : List EventTree) → IsPlayed InPlan options scripts turns log → Plays options scripts [] turns log
  plays_of turns log Starts = refl
  plays_of turns log (Does before events session pieces event played low here next) =
      plays_more before session [] events log (plays_of before events played) (Moves pieces event low here next refl)
  plays_of turns log (Passes before events session pieces played low here done) = plays_more before session [] log log (plays_of before log played) (Rests pieces here done refl)

  -- those of two parts
  parts : (first rest : List ℕ) (log later : List EventTree) → Plays options scripts log (first ++ rest) later → (mid : List EventTree) × Plays options scripts log first mid × Plays options scripts mid rest later
  parts [] rest log later plays = (log, refl, plays)
  parts (t ∷ first) rest log later plays = let more = parts first rest plays.0 later plays.2 in (more.0, (plays.0, plays.1, more.1), more.2)

  -- a session that is done has no next event
  no_more : {P : Type 0} (session : ℕ) (log : List EventTree) (pieces others : List (List ℕ)) (event : EventTree) → slice_get scripts (session - 1) ≡ Some pieces → slice_get scripts (session - 1) ≡ Some others
      → IsNext InPlan options pieces session log event → length others ≤ (progress_of session log).ended → P
  no_more session log pieces others event here there next done =
      let same = ap (λ (texts : List (List ℕ)). length texts) (same_Some pieces others (sym here ∙ there)) in
      let within = slice_get_within pieces (progress_of session log).ended next.piece next.here in
      absurd (let none : ⊥ = omega (arith, same, within, done) in none)

  one_turn : EachReadsAsOne → (session : ℕ) (log a b : List EventTree) → Turn options scripts session log a → Turn options scripts session log b → a ≡ b
  one_turn each session log a b (Moves pieces event low here next a_is) (Moves others event' low' there next' b_is) =
      let same = same_Some pieces others (sym here ∙ there) in
      let one = next_same each options others session log event event' (subst (λ texts. IsNext InPlan options texts session log event) same next) next' in
      a_is ∙ ap (λ (e : EventTree). log ++ e ∷ []) one ∙ sym b_is
  one_turn each session log a b (Moves pieces event low here next a_is) (Rests others there done b_is) = no_more session log pieces others event here there next done
  one_turn each session log a b (Rests pieces here done a_is) (Moves others event low there next b_is) = no_more session log others pieces event there here next done
  one_turn each session log a b (Rests pieces here done a_is) (Rests others there done' b_is) = a_is ∙ sym b_is

  one_play : EachReadsAsOne → (turns : List ℕ) (log a b : List EventTree) → Plays options scripts log turns a → Plays options scripts log turns b → a ≡ b
  one_play each [] log a b one other = one ∙ sym other
  one_play each (t ∷ turns) log a b one other =
      let same = one_turn each t log one.0 other.0 one.1 other.1 in
      one_play each turns other.0 a b (subst (λ (mid : List EventTree). Plays options scripts mid turns a) same one.2) other.2

  -- ## The turns at the end

  -- where all are done nothing more is done
  ends : (turns : List ℕ) (log later : List EventTree) → AreAllDone scripts log → Plays options scripts log turns later → later ≡ log
  ends [] log later done plays = plays
  ends (t ∷ turns) log later done plays = go (ends turns log later done) plays.1
    where
      go : (Plays options scripts log turns later → later ≡ log) → Turn options scripts t log plays.0 → later ≡ log
      go rest (Moves pieces event low here next is) = no_more t log pieces pieces event here here next (done t pieces low here)
      go rest (Rests pieces here done_here is) = rest (subst (λ (mid : List EventTree). Plays options scripts mid turns later) is plays.2)

  -- a session below the turns stays as it is
  waits : (session low : ℕ) (turns : List ℕ) (log later : List EventTree) → RiseFrom low turns → session < low → Plays options scripts log turns later → progress_of session later ≡ progress_of session log
  waits session low [] log later rises under plays = ap (progress_of session) plays
  waits session low (t ∷ turns) log later rises under plays = waits session t turns plays.0 later rises.1 above plays.2 ∙ go plays.1
    where
      above : session < t
      above = let first = rises.0 in omega (arith, first, under)

      go : Turn options scripts t log plays.0 → progress_of session plays.0 ≡ progress_of session log
      go (Moves pieces event low_here here next is) =
          let own : event.session ≡ t = next.own in
          ap (progress_of session) is ∙ other_progress session log event (ne_eqb event.session session (λ same. omega (arith, same, own, above)))
      go (Rests pieces here done is) = ap (progress_of session) is

  -- a session that has more to do is not below them, where all come to their ends
  not_below : {P : Type 0} (session low : ℕ) (turns : List ℕ) (log later : List EventTree) (pieces : List (List ℕ)) (event : EventTree) → RiseFrom low turns → session < low → Plays options scripts log turns later → AreAllDone scripts later
      → 1 ≤ session → slice_get scripts (session - 1) ≡ Some pieces → IsNext InPlan options pieces session log event → P
  not_below session low turns log later pieces event rises under plays done one here next =
      let still = ap (λ (p : Progress). p.ended) (waits session low turns log later rises under plays) in
      let end : length pieces ≤ (progress_of session later).ended = done session pieces one here in
      no_more session log pieces pieces event here here next (omega (arith, still, end))

  -- two first turns: one of them does nothing, or both do the same
  meet : EachReadsAsOne → (s t : ℕ) (first second : List ℕ) (log mid other a b : List EventTree) → RiseFrom s first → RiseFrom t second → Turn options scripts s log mid → Turn options scripts t log other
      → Plays options scripts mid first a → Plays options scripts other second b → AreAllDone scripts a → AreAllDone scripts b
      → (Plays options scripts log first a → a ≡ b) → (Plays options scripts log second b → a ≡ b) → ((next : List EventTree) → Plays options scripts next first a → Plays options scripts next second b → a ≡ b) → a ≡ b
  meet each s t first second log mid other a b up high (Rests pieces here done is) turn plays others a_done b_done left right both = left (subst (λ (from : List EventTree). Plays options scripts from first a) is plays)
  meet each s t first second log mid other a b up high (Moves pieces event one here next a_is) (Rests texts there done is) plays others a_done b_done left right both =
      right (subst (λ (from : List EventTree). Plays options scripts from second b) is others)
  meet each s t first second log mid other a b up high (Moves pieces event one here next a_is) (Moves texts event' one' there next' b_is) plays others a_done b_done left right both =
      in_order s t
      (λ less. not_below s t (t ∷ second) log b pieces event (omega arith, high) less (other, Moves texts event' one' there next' b_is, others) b_done one here next)
      (λ same. both other (subst (λ (from : List EventTree). Plays options scripts from first a) (one_turn each t log mid other (subst (λ n. Turn options scripts n log mid) same (Moves pieces event one here next a_is)) (Moves texts event' one' there next' b_is)) plays) others)
      (λ more. not_below t s (s ∷ first) log a texts event' (omega arith, up) more (mid, Moves pieces event one here next a_is, plays) a_done one' there next')

  one_rest : EachReadsAsOne → (first second : List ℕ) (low high : ℕ) (log a b : List EventTree) → RiseFrom low first → RiseFrom high second → Plays options scripts log first a → Plays options scripts log second b
      → AreAllDone scripts a → AreAllDone scripts b → a ≡ b
  one_rest each [] second low high log a b up rises plays others a_done b_done = plays ∙ sym (ends second log b (subst (AreAllDone scripts) plays a_done) others)
  one_rest each (s ∷ first) [] low high log a b up rises plays others a_done b_done = ends (s ∷ first) log a (subst (AreAllDone scripts) others b_done) plays ∙ sym others
  one_rest each (s ∷ first) (t ∷ second) low high log a b up rises plays others a_done b_done =
      meet each s t first second log plays.0 others.0 a b up.1 rises.1 plays.1 others.1 plays.2 others.2 a_done b_done
      (λ next. one_rest each first (t ∷ second) s high log a b up.1 rises next others a_done b_done)
      (λ next. one_rest each (s ∷ first) second low t log a b up rises.1 plays next a_done b_done)
      (λ from one other. one_rest each first second s t from a b up.1 rises.1 one other a_done b_done)

one_log_of : EachReadsAsOne → (options : PoolOptions) (scripts : List (List (List ℕ))) (schedule : List ℕ) (a b : List EventTree) → IsScheduled options scripts schedule a → IsScheduled options scripts schedule b → a ≡ b
one_log_of each options scripts schedule a b one other =
    let first = parts options scripts schedule one.rest [] a (plays_of options scripts (schedule ++ one.rest) a one.played) in
    let second = parts options scripts schedule other.rest [] b (plays_of options scripts (schedule ++ other.rest) b other.played) in
    let same = one_play options scripts each schedule [] first.0 second.0 first.1 second.1 in
    one_rest options scripts each one.rest other.rest 1 1 second.0 a b one.rises other.rises
    (subst (λ (from : List EventTree). Plays options scripts from one.rest a) same first.2) second.2 one.done other.done

-- ## What is printed

readings_same : EachReadsAsOne → (pieces : List (List ℕ)) (a b : List Said) → AreReadings pieces a → AreReadings pieces b → a ≡ b
readings_same each [] [] [] one other = refl
readings_same each [] [] (y ∷ b) one other = elim other [ ]
readings_same each [] (x ∷ a) b one other = elim one [ ]
readings_same each (piece ∷ pieces) [] b one other = elim one [ ]
readings_same each (piece ∷ pieces) (x ∷ a) [] one other = elim other [ ]
readings_same each (piece ∷ pieces) (x ∷ a) (y ∷ b) one other = ap (λ said. said ∷ a) (each piece x y one.0 other.0) ∙ ap (λ (rest : List Said). y ∷ rest) (readings_same each pieces a b one.1 other.1)

all_same : EachReadsAsOne → (scripts : List (List (List ℕ))) (a b : List (List Said)) → AreAllRead scripts a → AreAllRead scripts b → a ≡ b
all_same each [] [] [] one other = refl
all_same each [] [] (y ∷ b) one other = elim other [ ]
all_same each [] (x ∷ a) b one other = elim one [ ]
all_same each (pieces ∷ scripts) [] b one other = elim one [ ]
all_same each (pieces ∷ scripts) (x ∷ a) [] one other = elim other [ ]
all_same each (pieces ∷ scripts) (x ∷ a) (y ∷ b) one other = ap (λ (readings : List Said). readings ∷ a) (readings_same each pieces x y one.0 other.0) ∙ ap (λ (rest : List (List Said)). y ∷ rest) (all_same each scripts a b one.1 other.1)

text_same : EachReadsAsOne → (options : PoolOptions) (with_events : Bool) (names : List (List ℕ)) (scripts : List (List (List ℕ))) (schedule : List ℕ) (a b : List ℕ)
    → IsPrinted options with_events names scripts schedule a → IsPrinted options with_events names scripts schedule b → a ≡ b
text_same each options with_events names scripts schedule a b one other =
    let log = one_log_of each options scripts schedule one.log other.log one.scheduled other.scheduled in
    let readings = all_same each scripts one.readings other.readings one.read other.read in
    one.text_is
    ∙ ap (λ (them : List (List Said)). printed with_events names them one.log (run_totals options one.log)) readings
    ∙ ap (λ (events : List EventTree). printed with_events names other.readings events (run_totals options events)) log
    ∙ sym other.text_is

pub one_log_holds : EachReadsAsOne → OneLog
one_log_holds each = record { log = one_log_of each; text = text_same each }
