-- A query moves by itself, as results are ready: the session agrees with the log, with its work.
use Rattle.std.proofs.Common.{◌≡◌, ◌≢◌, ℕ, List, length, Bool, true, false, cond, Some, None, refl, ap, sym, ◌∙◌, subst}
use Rattle.std.specs.Prelude.{◌==◌, IsSome, is_some, slice_get, slice_index_or}
use Rattle.std.proofs.lemmas.Bool.{eqb-false, eqb-true, ne_eqb}
use Rattle.std.proofs.lemmas.List.{get_or-set_other}
use Rattle.std.proofs.lemmas.Option.{same_Some}
use Rattle.cell_core.specs.declared.operator.Instr.{Instr}
use Rattle.mal_meaning.specs.Meaning.{plan_rows}
use Rattle.recycle_mark.specs.Marks.{marks_of}
use Rattle.mal_meaning.specs.declared.plan.Plan.{Plan}
use Rattle.pool_policy.specs.declared.options.PoolOptions.{PoolOptions}
use Rattle.pool_policy.specs.Keeps.{Face}
use Rattle.pool_policy.specs.Looks.{look_of}
use Rattle.recycle_pool.specs.declared.found.Found.{Found}
use Rattle.recycle_pool.specs.declared.found.Found.TheVariants as found
use Rattle.recycle_pool.specs.declared.found.CoverPiece.{CoverPiece}
use Rattle.recycle_pool.specs.Answers.{told}
use Rattle.std.specs.declared.vec.Vec.{Vec}
use Rattle.std.specs.declared.alloc.Global.{Global}
use Rattle.run_log.specs.Events.{Ends, EventTree}
use Rattle.run_log.specs.Fold.{LogState, run_of}
use Rattle.reply_layout.specs.declared.shown.Shown.{Shown}
use Rattle.reply_layout.specs.declared.shown.Shown.TheVariants as shown
use Rattle.reply_layout.specs.Doings.{Beginning, code_of, shown_rows}
use Rattle.answer_text.specs.Log.{Said, doing_over}
use Rattle.query_run.specs.declared.step.Offer.{Offer}
use Rattle.query_run.specs.declared.step.RunningQuery.{RunningQuery}
use Rattle.query_run.specs.declared.step.Step.{Step}
use Rattle.query_run.specs.declared.step.Step.TheVariants as step
use Rattle.query_run.specs.Queries.{HasArgs, HasAsked, HasMark, IsAt, IsOffered, has_result, id_at, key_in, was_asked}
use Rattle.query_run.specs.Ready.{Computes, HandsOut, MayEnd, Moves, Notes, WithNone, WithRows}
use Rattle.query_run.specs.Steps.{IsSoundStep}
use Rattle.query_run.proofs.ReadyLemmas.{taken_goes}
use Rattle.session_run.specs.declared.session.Session.{Session}
use Rattle.session_run.specs.declared.stage.Stage.TheVariants as stage
use Rattle.session_run.specs.Progress.{Got, Progress, progress_of}
use Rattle.session_run.specs.Turns.{AsReady, InPlan, IsQueryAct, MayOverflow, state_before}
use Rattle.session_run.specs.Kept.{AreNoted, IsNoted, IsStage, IsStep, IsUnder, Knows, Stands, order_of, untold}
use Rattle.session_run.specs.Kept.{EndsWith as EndsSo}
use Rattle.session_run.specs.Stages.{HasMoved, IsSoundStage}
use Rattle.session_run.specs.Work.{act_work, pool_asked, work_by}
use Rattle.session_run.specs.Works.{IsLookedUp, IsPlanned, IsWorked, IsWorkedStage, IsWorkedStep, OweLoads}
use Rattle.session_run.proofs.GainedLemmas.{asked_knows}
use Rattle.session_run.proofs.NotedLemmas.{noted_opened}
use Rattle.session_run.proofs.OutsideLemmas.{begun_as, finish_act, goes_known, goes_noted, later_is, opened_knows, rows_known, run_at, shows_rows, stands_as}
use Rattle.session_run.proofs.OweLemmas.{asks_owe, goes_owe}
use Rattle.session_run.proofs.StageLemmas.{stage_sound}
use Rattle.session_run.proofs.WorkedLemmas.{admit_is, becomes_worked, end_counts, opened_owe, planned_as}

-- ## An unmarked result that is computed elsewhere

-- nothing is noted of it
pub noted_handed : (results : ℕ → Got) (q to : RunningQuery) (n : ℕ) → HasMark q n false → HasAsked q n to → AreNoted results q → AreNoted results to
noted_handed results q to n unmarked a are m mark is = go (m == n) refl
  where
    marked : HasMark q m mark
    marked = ap (λ pl. slice_get (marks_of pl) m) (sym a.plan_is) ∙ is

    there : has_result to m ≡ has_result q m
    there = ap (λ vs. is_some (slice_index_or vs m None)) a.values_are

    its_id : id_at to m ≡ id_at q m
    its_id = ap (λ ids. slice_index_or ids m 0) a.ids_are

    go : (b : Bool) → (m == n) ≡ b → IsNoted (results m) mark (has_result to m) (id_at to m) (was_asked to m)
    go true same =
        let plain : mark ≡ false = same_Some mark false (sym marked ∙ ap (slice_get (marks_of q.plan)) (eqb-true m n same) ∙ unmarked) in
        subst (λ k. IsNoted (results m) k (has_result to m) (id_at to m) (was_asked to m)) (sym plain) (subst (λ k. IsNoted (results m) k (has_result q m) (id_at q m) (was_asked q m)) plain (are m mark marked))
    go false same =
        let was : was_asked to m ≡ was_asked q m = ap (λ bs. slice_index_or bs m false) a.asked_are ∙ get_or-set_other q.asked.items n m true false (eqb-false m n same) in
        subst (λ b. IsNoted (results m) mark b (id_at to m) (was_asked to m)) (sym there)
        (subst (λ i. IsNoted (results m) mark (has_result q m) i (was_asked to m)) (sym its_id) (subst (IsNoted (results m) mark (has_result q m) (id_at q m)) (sym was) (are m mark marked)))

-- and nothing more is owed
handed_owe : (options : PoolOptions) (log : List EventTree) (results : ℕ → Got) (q to : RunningQuery) (n : ℕ) → HasMark q n false → HasAsked q n to → OweLoads options log results q (λ m. ⊥) → OweLoads options log results to (λ m. ⊥)
handed_owe options log results q to n unmarked a owes m instr at asked none =
    let apart : m ≢ n = λ same. let no : Some true ≡ Some false = sym at.marked ∙ ap (λ pl. slice_get (marks_of pl) m) a.plan_is ∙ ap (slice_get (marks_of q.plan)) same ∙ unmarked in cc in
    subst (λ got. HasArgs to instr × ((load pairs : ℕ) → work_by (pool_asked options log got) (look_of (pool_asked options log got) (key_in to m instr)) load pairs ≡ load)) (ap (λ b. cond b (results n) (results m)) (ne_eqb m n apart))
    (asks_owe options log log results q to n (results n) a (λ k. refl) owes m instr at asked apart)

-- ## The query under its statement

module _ (seen : LogState) (given : List Face) (results : ℕ → Got) (said : Said) (plan : Plan) (does : doing_over seen.db said ≡ Beginning (Some plan) (shown_rows (plan_rows plan seen.db))) where
  -- it ends
  ends_ready : (q : RunningQuery) → Knows seen given plan q → AreNoted results q → (reply : Shown) (work : ℕ) → MayEnd q reply work → EndsSo AsReady seen results said reply
  ends_ready q k noted reply work (WithRows rows all some is counted) =
      let some_seen = rows_known seen given plan q k ∙ some in record {
        act = λ s who. later_is AsReady seen given results said plan does s who (Ends (code_of reply))
            (subst (IsQueryAct AsReady s who seen plan results) (ap (λ r. Ends (code_of r)) (sym is))
            (finish_act AsReady seen given results said plan does s who q k noted all (subst (λ o. IsSome o) (sym some_seen) refl) AsReady));
        shows = is ∙ sym (shows_rows AsReady seen given results said plan does ∙ ap shown_rows some_seen);
      }
  ends_ready q k noted reply work (WithNone none is no_work) =
      let none_seen = rows_known seen given plan q k ∙ none in record {
        act = λ s who. later_is AsReady seen given results said plan does s who (Ends (code_of reply))
            (subst (IsQueryAct AsReady s who seen plan results) (ap (λ r. Ends (code_of r)) (sym is)) (MayOverflow none_seen refl));
        shows = is ∙ sym (shows_rows AsReady seen given results said plan does ∙ ap shown_rows none_seen);
      }

  abbrev Under : Step → Type 0
  Under at = IsUnder AsReady seen given results said (stage.Querying at)

  abbrev At : Step → Type 0
  At at = IsStep AsReady seen given plan results at

  notes_on : (q to : RunningQuery) → At (step.Open q) → Notes q to → At (step.Open to)
  notes_on q to is (HandsOut n unmarked a) = (asked_knows seen given plan q is.0 n to a, noted_handed results q to n unmarked a is.1, tt)
  notes_on q to is (Computes n result t) = let goes = taken_goes q to n result is.0.under t in (goes_known seen given plan q is.0 to goes, goes_noted results q to goes is.1, tt)

  open_on : (q : RunningQuery) → At (step.Open q) → (to : Step) → Moves (step.Open q) to → Under to
  open_on q is (step.Begun to) none = absurd none
  open_on q is (step.Open to) notes = run_at AsReady seen given results said plan does (step.Open to) (notes_on q to is notes)
  open_on q is (step.Asking to n key) m = run_at AsReady seen given results said plan does (step.Asking to n key) (subst (λ r. At (step.Asking r n key)) (sym m.0) (is.0, is.1, tt, m.1, m.2, tt))
  open_on q is (step.Found to n what parts) none = absurd none
  open_on q is (step.Offering to n offer) m = run_at AsReady seen given results said plan does (step.Offering to n offer) (subst (λ r. At (step.Offering r n offer)) (sym m.0) (is.0, is.1, tt, m.1, tt, m.2))
  open_on q is (step.Ending reply work) ends = ends_ready q is.0 is.1 reply work ends

  found_on : (q : RunningQuery) (n : ℕ) (what : Found) (parts : Vec CoverPiece Global) → At (step.Found q n what parts) → (to : Step) → Moves (step.Found q n what parts) to → Under to
  found_on q n what parts is (step.Begun to) none = absurd none
  found_on q n what parts is (step.Open to) m = run_at AsReady seen given results said plan does (step.Open to) (subst (λ r. At (step.Open r)) (sym m.1) (is.0, is.1, tt))
  found_on q n what parts is (step.Asking to j key) none = absurd none
  found_on q n what parts is (step.Found to j other pieces) none = absurd none
  found_on q n what parts is (step.Offering to j offer) m =
      let b = m.2 in
      run_at AsReady seen given results said plan does (step.Offering to j offer) (subst (λ r. At (step.Offering r j offer)) (sym b.0) (subst (λ i. At (step.Offering q i offer)) (sym b.1) (is.0, is.1, tt, is.3, tt, (m.0, m.1, b.2))))
  found_on q n what parts is (step.Ending reply work) none = absurd none

module _ (seen : LogState) (given : List Face) (results : ℕ → Got) (said : Said) where
  moves_on : (from to : Step) → IsUnder AsReady seen given results said (stage.Querying from) → Moves from to → IsUnder AsReady seen given results said (stage.Querying to)
  moves_on (step.Begun q) (step.Open to) run o =
      run_at AsReady seen given results said run.plan run.does (step.Open to)
      (opened_knows seen given run.plan q to run.step.0 o, noted_opened results q to o run.step.1, tt)
  moves_on (step.Begun q) (step.Begun to) run none = absurd none
  moves_on (step.Begun q) (step.Asking to n key) run none = absurd none
  moves_on (step.Begun q) (step.Found to n what parts) run none = absurd none
  moves_on (step.Begun q) (step.Offering to n offer) run none = absurd none
  moves_on (step.Begun q) (step.Ending reply work) run none = absurd none
  moves_on (step.Open q) to run m = open_on seen given results said run.plan run.does q run.step to m
  moves_on (step.Asking q n key) to run none = absurd none
  moves_on (step.Found q n what parts) to run m = found_on seen given results said run.plan run.does q n what parts run.step to m
  moves_on (step.Offering q n offer) to run none = absurd none
  moves_on (step.Ending reply work) to ends none = absurd none

-- ## Its work

module _ (options : PoolOptions) (log : List EventTree) (p : Progress) where
  abbrev WorkedAt : Step → Type 0
  WorkedAt at = IsWorkedStep options log p at

  ends_counted : (q : RunningQuery) → IsPlanned options log p q → (reply : Shown) (work : ℕ) → MayEnd q reply work → work ≡ act_work options log p (Ends (code_of reply))
  ends_counted q k reply work (WithRows rows all some is counted) = counted ∙ sym (end_counts options log p q k) ∙ ap (λ r. act_work options log p (Ends (code_of r))) (sym is)
  ends_counted q k reply work (WithNone none is no_work) = no_work ∙ ap (λ r. act_work options log p (Ends (code_of r))) (sym is)

  notes_worked : (q to : RunningQuery) → IsSoundStep (step.Open q) → WorkedAt (step.Open q) → Notes q to → WorkedAt (step.Open to)
  notes_worked q to sound is (HandsOut n unmarked a) = (planned_as options log p q to a.snap_is a.plan_is is.0, handed_owe options log p.results q to n unmarked a is.1)
  notes_worked q to sound is (Computes n result t) =
      let goes = taken_goes q to n result sound t in (planned_as options log p q to goes.snap_is goes.plan_is is.0, goes_owe options log p.results q to goes is.1)

  offers_worked : (q : RunningQuery) → WorkedAt (step.Open q) → (n : ℕ) (instr : Instr) → IsAt q n instr → was_asked q n ≡ true → (offer : Offer) → IsOffered q n instr offer → offer.done ≡ offer.work → WorkedAt (step.Offering q n offer)
  offers_worked q is n instr at asked offer offered done = (
    is.0,
    λ m own own_at own_asked apart. is.1 m own own_at own_asked (λ no. no),
    λ result. done ∙ sym (admit_is options log p q is.0 n instr at offer offered result ∙ (is.1 n instr at asked (λ no. no)).1 offer.work (length offer.value)),
  )

  open_worked : (q : RunningQuery) → IsSoundStep (step.Open q) → WorkedAt (step.Open q) → (to : Step) → Moves (step.Open q) to → WorkedAt to
  open_worked q sound is (step.Begun to) none = absurd none
  open_worked q sound is (step.Open to) notes = notes_worked q to sound is notes
  open_worked q sound is (step.Asking to n key) m = subst (λ r. WorkedAt (step.Asking r n key)) (sym m.0) is
  open_worked q sound is (step.Found to n what parts) none = absurd none
  open_worked q sound is (step.Offering to n offer) m = subst (λ r. WorkedAt (step.Offering r n offer)) (sym m.0) (offers_worked q is n m.2.0 m.2.1 m.1 offer m.2.2 m.3)
  open_worked q sound is (step.Ending reply work) ends = ends_counted q is.0 reply work ends

  -- what was found in vain is owed by itself
  missed_owe : (q : RunningQuery) (n : ℕ) (what : Found) (parts : List CoverPiece) (own : Instr) → IsAt q n own → HasArgs q own → what ≡ found.Miss → IsLookedUp (pool_asked options log (p.results n)) q n what parts
      → OweLoads options log p.results q (λ m. m ≡ n) → OweLoads options log p.results q (λ m. ⊥)
  missed_owe q n what parts own own_at has miss looked owes m instr at asked none = go (m == n) refl
    where
      go : (b : Bool) → (m == n) ≡ b → HasArgs q instr × ((load pairs : ℕ) → work_by (pool_asked options log (p.results m)) (look_of (pool_asked options log (p.results m)) (key_in q m instr)) load pairs ≡ load)
      go false same = owes m instr at asked (eqb-false m n same)
      go true same =
          let place : m ≡ n = eqb-true m n same in
          let here : slice_get q.plan.instrs n ≡ Some instr = ap (slice_get q.plan.instrs) (sym place) ∙ at.here in
          let one : own ≡ instr = same_Some own instr (sym own_at.here ∙ here) in
          let told_miss = (looked own own_at).0 in
          subst (λ i. HasArgs q i × ((load pairs : ℕ) → work_by (pool_asked options log (p.results m)) (look_of (pool_asked options log (p.results m)) (key_in q m i)) load pairs ≡ load)) one
          (subst (λ j. HasArgs q own × ((load pairs : ℕ) → work_by (pool_asked options log (p.results j)) (look_of (pool_asked options log (p.results j)) (key_in q j own)) load pairs ≡ load)) (sym place)
          (has, λ load pairs. ap (λ finding. work_by (pool_asked options log (p.results n)) finding load pairs) (sym told_miss ∙ ap (λ w. told w parts) miss)))

  found_worked : (q : RunningQuery) (n : ℕ) (what : Found) (parts : Vec CoverPiece Global) → IsSoundStep (step.Found q n what parts) → WorkedAt (step.Found q n what parts) → (to : Step) → Moves (step.Found q n what parts) to → WorkedAt to
  found_worked q n what parts sound is (step.Begun to) none = absurd none
  found_worked q n what parts sound is (step.Open to) m =
      subst (λ r. WorkedAt (step.Open r)) (sym m.1) (is.0, missed_owe q n what parts.items sound.1.0 sound.1.1 sound.1.2 m.0 is.2 is.1)
  found_worked q n what parts sound is (step.Asking to j key) none = absurd none
  found_worked q n what parts sound is (step.Found to j other pieces) none = absurd none
  found_worked q n what parts sound is (step.Offering to j offer) m = becomes_worked options log p q is.0 n is.1 m.0 m.1 what parts.items is.2 (step.Offering to j offer) m.2
  found_worked q n what parts sound is (step.Ending reply work) none = absurd none

  moves_worked : (from to : Step) → IsSoundStep from → WorkedAt from → Moves from to → WorkedAt to
  moves_worked (step.Begun q) (step.Open to) sound is o = (planned_as options log p q to o.snap_is o.plan_is is, opened_owe options log p q to o)
  moves_worked (step.Begun q) (step.Begun to) sound is none = absurd none
  moves_worked (step.Begun q) (step.Asking to n key) sound is none = absurd none
  moves_worked (step.Begun q) (step.Found to n what parts) sound is none = absurd none
  moves_worked (step.Begun q) (step.Offering to n offer) sound is none = absurd none
  moves_worked (step.Begun q) (step.Ending reply work) sound is none = absurd none
  moves_worked (step.Open q) to sound is m = open_worked q sound is to m
  moves_worked (step.Asking q n key) to sound is none = absurd none
  moves_worked (step.Found q n what parts) to sound is m = found_worked q n what parts sound is to m
  moves_worked (step.Offering q n offer) to sound is none = absurd none
  moves_worked (step.Ending reply work) to sound is none = absurd none

-- ## Sessions

module _ (options : PoolOptions) (log : List EventTree) (x new : Session) (s : Stands options log x) (m : HasMoved x new) where
  abbrev p : Progress
  p = progress_of x.number log

  -- it agrees with the log as before
  pub moved_stands : x.wide ≡ true → Stands options log new
  moved_stands wide =
      let has = subst (IsStage options log x p) m.was s.stage in
      let as_ready : order_of x ≡ AsReady = ap (λ b. cond b AsReady InPlan) wide in
      subst (Stands options log) (sym m.is)
      (stands_as options log x s x.work (stage.Querying m.to) (ap (untold x.ended) m.was) (begun_as options log x p x.work (stage.Querying m.to) has
      (λ at said under. subst (λ o. IsUnder o (state_before options log at) (run_of options log).given p.results said (stage.Querying m.to)) (sym as_ready)
      (moves_on (state_before options log at) (run_of options log).given p.results said m.from m.to
      (subst (λ o. IsUnder o (state_before options log at) (run_of options log).given p.results said (stage.Querying m.from)) as_ready
      (subst (IsUnder (order_of x) (state_before options log at) (run_of options log).given p.results said) m.was under)) m.moves))))

  -- with its work
  pub moved_worked : IsWorked options log x → IsWorked options log new
  moved_worked w =
      subst (IsWorked options log) (sym m.is) (record {
        work = w.work;
        stage = moves_worked options log p m.from m.to (sound_at m.from m.was (stage_sound options log x s)) (worked_at m.from m.was w) m.moves;
      })
    where
      sound_at : (from : Step) → x.stage ≡ stage.Querying from → IsSoundStage x.stage → IsSoundStep from
      sound_at from was sound = subst IsSoundStage was sound

      worked_at : (from : Step) → x.stage ≡ stage.Querying from → IsWorked options log x → IsWorkedStep options log p from
      worked_at from was w = subst (IsWorkedStage options log p) was w.stage
