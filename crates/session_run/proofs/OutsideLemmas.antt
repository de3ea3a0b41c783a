-- A session agrees with the log while it computes up to its next event.
use Rattle.std.proofs.Common.{◌≡◌, ℕ, zero, suc, ◌+◌, ◌-◌, ◌≤◌, ◌<◌, List, ◌∷◌, ◌++◌, drop, length, Bool, true, false, cond, Option, Some, None, refl, ap, sym, ◌∙◌, subst, arith}
use Rattle.std.specs.Prelude.{IsSome, slice_get, slice_index_or}
use Rattle.std.proofs.lemmas.List.{append-nil}
use Rattle.std.proofs.lemmas.Option.{same_Some, slice_get_within}
use Rattle.std.specs.declared.vec.Vec.{Vec}
use Rattle.std.specs.declared.alloc.Global.{Global}
use Rattle.cell_core.specs.declared.operator.Instr.{Instr}
use Rattle.cell_core.specs.declared.operator.Value.{Value}
use Rattle.bat_core.specs.Objects.{value_of}
use Rattle.mal_meaning.specs.declared.plan.Plan.{Plan}
use Rattle.mal_meaning.specs.Meaning.{plan_rows, plan_values}
use Rattle.mal_print.specs.Canon.{plan_text}
use Rattle.recycle_mark.specs.Marks.{marks_of}
use Rattle.sql_definitions.specs.declared.refusal.Refusal.TheVariants.{Overflow}
use Rattle.pool_policy.specs.declared.entry.Who.{Who}
use Rattle.pool_policy.specs.declared.options.PoolOptions.{PoolOptions}
use Rattle.pool_policy.specs.Keeps.{Face}
use Rattle.recycle_pool.specs.declared.found.Found.{Found}
use Rattle.recycle_pool.specs.declared.found.CoverPiece.{CoverPiece}
use Rattle.run_log.specs.Events.{ActTree, Ends, EventTree}
use Rattle.run_log.specs.Fold.{LogState, run_of}
use Rattle.reply_layout.specs.declared.shown.Shown.{Shown}
use Rattle.reply_layout.specs.declared.shown.Shown.TheVariants as shown
use Rattle.reply_layout.specs.Layout.{reply_text}
use Rattle.reply_layout.specs.Doings.{Doing, Beginning, code_of, shown_in, shown_rows}
use Rattle.answer_text.specs.Log.{Said, doing_over, shown_over}
use Rattle.book_core.specs.Versions.{HasVersions}
use Rattle.query_keys.specs.Keys.{AreIdsOf}
use Rattle.query_run.specs.declared.step.RunningQuery.{RunningQuery}
use Rattle.query_run.specs.declared.step.Step.{Step}
use Rattle.query_run.specs.declared.step.Step.TheVariants as step
use Rattle.query_run.specs.Queries.{BecomesOf, ComesTo, EndsWith, GoesOn, HasBefore, HasMark, IsAt, IsUnderWay, all_values, has_result, id_at, result_at, value_at, was_asked}
use Rattle.query_run.specs.Queries.EndsWith.{HasRows, Overflows}
use Rattle.query_run.specs.Steps.{Computes, IsOpened, IsSoundStep}
use Rattle.query_run.proofs.ResultLemmas.{found}
use Rattle.query_run.proofs.WalkLemmas.{as_many_marks, as_many_values, instr_at, mark_inside, no_rows}
use Rattle.table_store.specs.Content.{Content}
use Rattle.session_run.specs.declared.session.Session.{Session}
use Rattle.session_run.specs.declared.stage.Stage.{Stage}
use Rattle.session_run.specs.declared.stage.Stage.TheVariants as stage
use Rattle.session_run.specs.Progress.{Got, Has, Progress, progress_of}
use Rattle.session_run.specs.Turns.{AsReady, Asks, Faults, Finishes, InPlan, IsLaterAct, IsQueryAct, MayFinish, MayOverflow, Next, Offers, Order, act_of_next, next_by, next_from, overflow_code, state_before}
use Rattle.session_run.specs.Kept.{AreNoted, Began, HasBegun, IsNoted, IsRun, IsStage, IsStep, IsUnder, Knows, OwesNone, Stands, order_of, untold}
use Rattle.session_run.specs.Kept.{EndsWith as EndsSo}
use Rattle.session_run.specs.Stages.{GoesInPlan}
use Rattle.session_run.proofs.NotedLemmas.{dropped, dropped_all, ids_none, noted_opened, some_at}

-- ## What a query knows

-- the values of a plan's instructions, as a query that knows the tables has them
pub values_known : (seen : LogState) (given : List Face) (plan : Plan) (q : RunningQuery) → Knows seen given plan q → plan_values seen.db plan.instrs ≡ plan_values q.snap.db q.plan.instrs
values_known seen given plan q k = ap (λ db. plan_values db plan.instrs) (sym k.db) ∙ ap (λ (pl : Plan). plan_values q.snap.db pl.instrs) (sym k.plan_is)

pub value_known : (seen : LogState) (given : List Face) (plan : Plan) (q : RunningQuery) → Knows seen given plan q → (n : ℕ) → slice_get (plan_values seen.db plan.instrs) n ≡ value_at q n
value_known seen given plan q k n = ap (λ values. slice_get values n) (values_known seen given plan q k)

pub rows_known : (seen : LogState) (given : List Face) (plan : Plan) (q : RunningQuery) → Knows seen given plan q → plan_rows plan seen.db ≡ plan_rows q.plan q.snap.db
rows_known seen given plan q k = ap (λ pl. plan_rows pl seen.db) (sym k.plan_is) ∙ ap (plan_rows q.plan) (sym k.db)

pub instr_known : (seen : LogState) (given : List Face) (plan : Plan) (q : RunningQuery) → Knows seen given plan q → (n : ℕ) (instr : Instr) → slice_get q.plan.instrs n ≡ Some instr → slice_get plan.instrs n ≡ Some instr
instr_known seen given plan q k n instr here = ap (λ (pl : Plan). slice_get pl.instrs n) (sym k.plan_is) ∙ here

pub mark_known : (seen : LogState) (given : List Face) (plan : Plan) (q : RunningQuery) → Knows seen given plan q → (n : ℕ) (mark : Bool) → slice_get (marks_of plan) n ≡ Some mark → HasMark q n mark
mark_known seen given plan q k n mark is = ap (λ pl. slice_get (marks_of pl) n) k.plan_is ∙ is

-- where it goes on to it knows the same
pub goes_known : (seen : LogState) (given : List Face) (plan : Plan) (q : RunningQuery) → Knows seen given plan q → (to : RunningQuery) → GoesOn q to → Knows seen given plan to
goes_known seen given plan q k to g = record {
  under = g.under;
  plan_is = g.plan_is ∙ k.plan_is;
  db = ap (λ (snap : Content). snap.db) g.snap_is ∙ k.db;
  versions = subst (HasVersions seen.versions) (sym g.snap_is) k.versions;
  ids = subst (λ is. AreIdsOf given is (plan_values seen.db plan.instrs)) (sym g.ids_are) k.ids;
}

-- the log has noted its results as those of the query that went on
noted_as : (got : Got) (mark a b : Bool) (id id' : ℕ) (asked asked' : Bool) → (mark ≡ true → b ≡ a) → id' ≡ id → asked' ≡ asked → IsNoted got mark a id asked → IsNoted got mark b id' asked'
noted_as got false a b id id' asked asked' there same was is = is
noted_as got true a b id id' asked asked' there same was is = (let same_there = sym (there refl) in subst (λ c. IsNoted got true c id' asked') same_there (subst (λ n. IsNoted got true a n asked') (sym same) (subst (IsNoted got true a id) (sym was) is)))

pub goes_noted : (results : ℕ → Got) (q to : RunningQuery) → GoesOn q to → AreNoted results q → AreNoted results to
goes_noted results q to g noted n mark is =
    let was : HasMark q n mark = ap (λ pl. slice_get (marks_of pl) n) (sym g.plan_is) ∙ is in
    noted_as (results n) mark (has_result q n) (has_result to n) (id_at q n) (id_at to n) (was_asked q n) (was_asked to n)
    (λ marked. g.marked_same n (was ∙ ap Some marked)) (ap (λ ids. slice_index_or ids n 0) g.ids_are) (ap (λ bs. slice_index_or bs n false) g.asked_are) (noted n mark was)

owes_so : (q to : RunningQuery) → GoesOn q to → OwesNone InPlan q (λ m. ⊥) → OwesNone InPlan to (λ m. ⊥)
owes_so q to g owes n none but = ap (λ bs. slice_index_or bs n false) g.asked_are ∙ owes n (go (has_result q n) refl) but
  where
    go : (b : Bool) → has_result q n ≡ b → has_result q n ≡ false
    go false is = is
    go true is = absurd (let no : true ≡ false = sym (g.keeps n is) ∙ none in cc)

goes_owes : (order : Order) (q to : RunningQuery) → GoesOn q to → OwesNone order q (λ m. ⊥) → OwesNone order to (λ m. ⊥)
goes_owes InPlan q to g owes = owes_so q to g owes
goes_owes AsReady q to g owes = tt

-- ## In the order of the plan

-- what comes next is found after the results that are there
module _ (results : ℕ → Got) (q : RunningQuery) (noted : AreNoted results q) (under : IsUnderWay q) where
  abbrev Next_at : ℕ → Next
  Next_at n = next_from results n (drop n q.plan.instrs) (drop n (marks_of q.plan)) (drop n (all_values q))

  -- a result that is there is passed
  passed : (n : ℕ) → n < length q.plan.instrs → has_result q n ≡ true → Next_at n ≡ Next_at (n + 1)
  passed n inside there =
      let here = instr_at q.plan.instrs n inside in
      let mark = some_at (marks_of q.plan) n (let many = as_many_marks q.plan in omega (arith, inside, many)) in
      let result = found (result_at q n) there in
      let value = under.known n result.0 result.1 in
      (λ i. next_from results n (dropped q.plan.instrs n here.0 here.1 i) (dropped (marks_of q.plan) n mark.0 mark.1 i) (dropped (all_values q) n (Some (value_of result.0)) value i))
      ∙ by_mark mark.0 (noted n mark.0 mark.1) here.0 (value_of result.0)
    where
      next_step : next_from results (n + 1) (drop (suc n) q.plan.instrs) (drop (suc n) (marks_of q.plan)) (drop (suc n) (all_values q)) ≡ Next_at (n + 1)
      next_step = let one : suc n ≡ n + 1 = omega arith in ap (λ k. next_from results (n + 1) (drop k q.plan.instrs) (drop k (marks_of q.plan)) (drop k (all_values q))) one

      by_mark : (mark : Bool) → IsNoted (results n) mark (has_result q n) (id_at q n) (was_asked q n) → (instr : Instr) (value : Value)
          → next_from results n (instr ∷ drop (suc n) q.plan.instrs) (mark ∷ drop (suc n) (marks_of q.plan)) (Some value ∷ drop (suc n) (all_values q)) ≡ Next_at (n + 1)
      by_mark false is instr value = next_step
      by_mark true is instr value =
          ap (λ got. next_by got n instr (Some value) (next_from results (n + 1) (drop (suc n) q.plan.instrs) (drop (suc n) (marks_of q.plan)) (drop (suc n) (all_values q)))) (subst (λ b. IsNoted (results n) true b (id_at q n) (was_asked q n)) there is)
          ∙ next_step

  pub passed_all : (n : ℕ) → n ≤ length q.plan.instrs → HasBefore q n → next_from results 0 q.plan.instrs (marks_of q.plan) (all_values q) ≡ Next_at n
  passed_all zero within before = refl
  passed_all (suc n) within before =
      let one : n + 1 ≡ suc n = omega arith in
      passed_all n (omega (arith, within)) (λ m low. before m (omega (arith, low))) ∙ passed n (omega (arith, within)) (before n (omega arith)) ∙ ap Next_at one

  -- an instruction without a result
  module _ (n : ℕ) (instr : Instr) (at : IsAt q n instr) where
    abbrev inside : n < length q.plan.instrs
    inside = slice_get_within q.plan.instrs n instr at.here

    abbrev value_there : (value : Option Value) × (slice_get (all_values q) n ≡ Some value)
    value_there = some_at (all_values q) n (let many = as_many_values q in let low = inside in omega (arith, many, low))

    pub open_noted : IsNoted (results n) true false (id_at q n) (was_asked q n)
    open_noted = subst (λ b. IsNoted (results n) true b (id_at q n) (was_asked q n)) at.open_ (noted n true at.marked)

    marked_next : Next_at n ≡ next_by (results n) n instr value_there.0 (next_from results (n + 1) (drop (suc n) q.plan.instrs) (drop (suc n) (marks_of q.plan)) (drop (suc n) (all_values q)))
    marked_next = λ i. next_from results n (dropped q.plan.instrs n instr at.here i) (dropped (marks_of q.plan) n true at.marked i) (dropped (all_values q) n value_there.0 value_there.1 i)

    abbrev Behind : Got → Next
    Behind got = next_by got n instr value_there.0 (next_from results (n + 1) (drop (suc n) q.plan.instrs) (drop (suc n) (marks_of q.plan)) (drop (suc n) (all_values q)))

    -- it is asked for
    pub next_asks : was_asked q n ≡ false → Next_at n ≡ Asks n instr
    next_asks unasked = marked_next ∙ ap Behind (subst (IsNoted (results n) true false (id_at q n)) unasked open_noted)

    -- it is offered, once it was asked for in vain
    pub next_offers : was_asked q n ≡ true → (value : Option Value) → slice_get (all_values q) n ≡ Some value → Next_at n ≡ Offers n instr value
    next_offers asked value is =
        let got = subst (IsNoted (results n) true false (id_at q n)) asked open_noted in
        marked_next ∙ ap Behind got.1 ∙ ap (Offers n instr) (same_Some value_there.0 value (sym value_there.1 ∙ is))

  -- one that isn't marked has no value
  pub next_faults : (n : ℕ) → HasMark q n false → value_at q n ≡ Some None → Next_at n ≡ Faults
  next_faults n unmarked none =
      let here = instr_at q.plan.instrs n (mark_inside q n false unmarked) in
      λ i. next_from results n (dropped q.plan.instrs n here.0 here.1 i) (dropped (marks_of q.plan) n false unmarked i) (dropped (all_values q) n None none i)

  -- none is left
  pub next_finishes : (n : ℕ) → n ≡ length q.plan.instrs → Next_at n ≡ Finishes
  next_finishes n all = ap (λ instrs. next_from results n instrs (drop n (marks_of q.plan)) (drop n (all_values q))) (dropped_all q.plan.instrs n (omega (arith, all)))

-- ## Queries that are run

module _ (order : Order) (seen : LogState) (given : List Face) (results : ℕ → Got) (said : Said) (plan : Plan) (does : doing_over seen.db said ≡ Beginning (Some plan) (shown_rows (plan_rows plan seen.db))) where
  abbrev pub run_at : (at : Step) → IsStep order seen given plan results at → IsRun order seen given results said at
  run_at at is = record { plan = plan; does = does; step = is }

  -- what the query does is what its statement does
  pub later_is : (s : LogState) (who : Who) (act : ActTree) → IsQueryAct order s who seen plan results act → IsLaterAct order s who seen results (doing_over seen.db said) act
  later_is s who act is = subst (λ (doing : Doing Plan). IsLaterAct order s who seen results doing act) (sym does) is

  pub shows_rows : shown_over seen.db said ≡ shown_rows (plan_rows plan seen.db)
  shows_rows = ap shown_in does

  -- the next act of a query that knows the tables is that of the plan
  pub next_known : (q : RunningQuery) → Knows seen given plan q → next_from results 0 plan.instrs (marks_of plan) (plan_values seen.db plan.instrs) ≡ next_from results 0 q.plan.instrs (marks_of q.plan) (all_values q)
  next_known q k = λ i. next_from results 0 (sym k.plan_is i).instrs (marks_of (sym k.plan_is i)) (plan_values (sym k.db i) (sym k.plan_is i).instrs)

  -- it overflows, or all its results are there
  overflow_act : (s : LogState) (who : Who) (q : RunningQuery) (n : ℕ) → Knows seen given plan q → AreNoted results q → HasBefore q n → HasMark q n false → value_at q n ≡ Some None → plan_rows plan seen.db ≡ None
      → (o : Order) → IsQueryAct o s who seen plan results (Ends overflow_code)
  overflow_act s who q n k noted before unmarked none no_rows InPlan =
      sym (ap (act_of_next s who seen.versions results) (next_known q k ∙ passed_all results q noted k.under n (let low = mark_inside q n false unmarked in omega (arith, low)) before ∙ next_faults results q noted k.under n unmarked none))
  overflow_act s who q n k noted before unmarked none no_rows AsReady = MayOverflow no_rows refl

  pub finish_act : (s : LogState) (who : Who) (q : RunningQuery) → Knows seen given plan q → AreNoted results q → HasBefore q (length q.plan.instrs) → IsSome (plan_rows plan seen.db) → (o : Order) → IsQueryAct o s who seen plan results (Ends 0)
  finish_act s who q k noted before some InPlan =
      sym (ap (act_of_next s who seen.versions results) (next_known q k ∙ passed_all results q noted k.under (length q.plan.instrs) (omega arith) before ∙ next_finishes results q noted k.under (length q.plan.instrs) refl))
  finish_act s who q k noted before some AsReady = MayFinish (λ n marked. all_got n (mark_known seen given plan q k n true marked)) some refl
    where
      all_got : (n : ℕ) → HasMark q n true → (id : ℕ) × (results n ≡ Has id)
      all_got n marked = (id_at q n, subst (λ b. IsNoted (results n) true b (id_at q n) (was_asked q n)) (before n (mark_inside q n true marked)) (noted n true marked))

  -- it ends
  goes_ends : (q : RunningQuery) → Knows seen given plan q → AreNoted results q → (reply : Shown) (work : ℕ) → EndsWith q reply work → EndsSo order seen results said reply
  goes_ends q k noted reply work (Overflows to n goes before unmarked none no_rows is no_work) =
      let none_seen = rows_known seen given plan q k ∙ no_rows in record {
        act = λ s who. later_is s who (Ends (code_of reply)) (subst (IsQueryAct order s who seen plan results) (ap (λ r. Ends (code_of r)) (sym is))
            (overflow_act s who to n (goes_known seen given plan q k to goes) (goes_noted results q to goes noted) before unmarked none none_seen order));
        shows = is ∙ sym (shows_rows ∙ ap shown_rows none_seen);
      }
  goes_ends q k noted reply work (HasRows to rows goes all_there some is counted) =
      let some_seen = rows_known seen given plan q k ∙ some in record {
        act = λ s who. later_is s who (Ends (code_of reply)) (subst (IsQueryAct order s who seen plan results) (ap (λ r. Ends (code_of r)) (sym is))
            (finish_act s who to (goes_known seen given plan q k to goes) (goes_noted results q to goes noted)
            (subst (λ (pl : Plan). HasBefore to (length pl.instrs)) (sym goes.plan_is) all_there) (subst (λ o. IsSome o) (sym some_seen) refl) order));
        shows = is ∙ sym (shows_rows ∙ ap shown_rows some_seen);
      }

-- in the order of the plan
module _ (seen : LogState) (given : List Face) (results : ℕ → Got) (said : Said) (plan : Plan) (does : doing_over seen.db said ≡ Beginning (Some plan) (shown_rows (plan_rows plan seen.db))) where
  comes_on : (q : RunningQuery) → Knows seen given plan q → AreNoted results q → OwesNone InPlan q (λ m. ⊥) → (to : Step) → ComesTo q to → IsUnder InPlan seen given results said (stage.Querying to)
  comes_on q k noted owes (step.Asking to n key) comes =
      run_at InPlan seen given results said plan does (step.Asking to n key) (
        goes_known seen given plan q k to comes.0,
        goes_noted results q to comes.0 noted,
        goes_owes InPlan q to comes.0 owes,
        comes.2,
        goes_owes InPlan q to comes.0 owes n comes.2.at.open_ (λ no. no),
        comes.1,
      )
  comes_on q k noted owes (step.Ending reply work) ends = goes_ends InPlan seen given results said plan does q k noted reply work ends
  comes_on q k noted owes (step.Begun to) none = absurd none
  comes_on q k noted owes (step.Open to) none = absurd none
  comes_on q k noted owes (step.Found to n what parts) none = absurd none
  comes_on q k noted owes (step.Offering to n offer) none = absurd none

  -- a result that it asked for in vain has no value
  offer_ends : (q : RunningQuery) → Knows seen given plan q → AreNoted results q → (n : ℕ) (instr : Instr) → IsAt q n instr → was_asked q n ≡ true → HasBefore q n → value_at q n ≡ Some None → (reply : Shown) → reply ≡ shown.Refused Overflow
      → EndsSo InPlan seen results said reply
  offer_ends q k noted n instr at asked before none reply is = record {
    act = λ s who. later_is InPlan seen given results said plan does s who (Ends (code_of reply))
        (ap (λ r. Ends (code_of r)) is
        ∙ sym (ap (act_of_next s who seen.versions results) (next_known InPlan seen given results said plan does q k
        ∙ passed_all results q noted k.under n (let low = slice_get_within q.plan.instrs n instr at.here in omega (arith, low)) before ∙ next_offers results q noted k.under n instr at asked None none)));
    shows = is ∙ sym (shows_rows InPlan seen given results said plan does ∙ ap shown_rows (rows_known seen given plan q k ∙ no_rows q n none));
  }

  becomes_on : (q : RunningQuery) → Knows seen given plan q → AreNoted results q → (n : ℕ) → OwesNone InPlan q (λ m. m ≡ n) → was_asked q n ≡ true → HasBefore q n → (instr : Instr) → IsAt q n instr → (what : Found) (parts : List CoverPiece) (to : Step)
      → BecomesOf q n instr what parts to → IsUnder InPlan seen given results said (stage.Querying to)
  becomes_on q k noted n owes asked before instr at what parts (step.Offering to m offer) b =
      run_at InPlan seen given results said plan does (step.Offering to m offer)
      (subst (λ r. IsStep InPlan seen given plan results (step.Offering r m offer)) (sym b.0)
      (subst (λ j. IsStep InPlan seen given plan results (step.Offering q j offer)) (sym b.1) (k, noted, owes, asked, before, (instr, at, b.2))))
  becomes_on q k noted n owes asked before instr at what parts (step.Ending reply work) b = offer_ends q k noted n instr at asked before b.0 reply b.2
  becomes_on q k noted n owes asked before instr at what parts (step.Begun to) none = absurd none
  becomes_on q k noted n owes asked before instr at what parts (step.Open to) none = absurd none
  becomes_on q k noted n owes asked before instr at what parts (step.Asking to m key) none = absurd none
  becomes_on q k noted n owes asked before instr at what parts (step.Found to m other pieces) none = absurd none

-- a query that has room for its results knows the tables over which it began
pub opened_knows : (seen : LogState) (given : List Face) (plan : Plan) (q to : RunningQuery) → Began seen plan q → IsOpened q to → Knows seen given plan to
opened_knows seen given plan q to b o = record {
  under = o.under;
  plan_is = o.plan_is ∙ b.plan_is;
  db = ap (λ (snap : Content). snap.db) o.snap_is ∙ b.db;
  versions = subst (HasVersions seen.versions) (sym o.snap_is) b.versions;
  ids = ids_none given to.ids.items (plan_values seen.db plan.instrs) few (λ n. o.under.bare n (o.none n));
}
  where
    few : length to.ids.items ≤ length (plan_values seen.db plan.instrs)
    few =
        let many : length (plan_values seen.db plan.instrs) ≡ length (all_values to) = λ i. length (plan_values (sym (ap (λ (snap : Content). snap.db) o.snap_is ∙ b.db) i) (sym (o.plan_is ∙ b.plan_is) i).instrs) in
        let same = as_many_values to in
        let long = o.under.ids in
        omega (arith, many, same, long)

pub opened_owes : (order : Order) (q to : RunningQuery) → IsOpened q to → OwesNone order to (λ m. ⊥)
opened_owes InPlan q to o = λ n none but. o.unasked n
opened_owes AsReady q to o = tt

module _ (seen : LogState) (given : List Face) (results : ℕ → Got) (said : Said) where
  abbrev At : Step → Type 0
  At at = IsUnder InPlan seen given results said (stage.Querying at)

  -- a step's computation comes to the next
  pub computes_on : (from to : Step) → At from → Computes from to → At to
  computes_on (step.Begun q) to run c =
      comes_on seen given results said run.plan run.does c.0 (opened_knows seen given run.plan q c.0 run.step.0 c.1)
      (noted_opened results q c.0 c.1 run.step.1) (opened_owes InPlan q c.0 c.1) to c.2
  computes_on (step.Open q) to run c = comes_on seen given results said run.plan run.does q run.step.0 run.step.1 run.step.2 to c
  computes_on (step.Asking q n key) to run c = subst At (sym c) run
  computes_on (step.Found q n found parts) to run c =
      becomes_on seen given results said run.plan run.does q run.step.0 run.step.1 n run.step.2 run.step.3 run.step.4 run.step.5.0 run.step.5.1 found parts.items to (c run.step.5.0 run.step.5.1)
  computes_on (step.Offering q n offer) to run c = subst At (sym c) run
  computes_on (step.Ending reply work) to ends c = subst At (sym c) ends

-- an EXPLAIN ends with the text of its plan
pub explain_on : (order : Order) (seen : LogState) (given : List Face) (results : ℕ → Got) (said : Said) (plan : Plan) (text : List ℕ) → IsUnder order seen given results said (stage.Explaining plan) → text ≡ plan_text plan
    → IsUnder order seen given results said (stage.Querying (step.Ending (shown.Mal text) 0))
explain_on order seen given results said plan text e is = record {
  act = λ s who. subst (λ (doing : Doing Plan). IsLaterAct order s who seen results doing (Ends 0)) (sym e.does) refl;
  shows = ap shown.Mal is ∙ sym (ap shown_in e.does);
}

-- and it may compute
pub step_sound : (order : Order) (seen : LogState) (given : List Face) (results : ℕ → Got) (said : Said) (from : Step) → IsUnder order seen given results said (stage.Querying from) → IsSoundStep from
step_sound order seen given results said (step.Begun q) run = run.step.0.fresh
step_sound order seen given results said (step.Open q) run = run.step.0.under
step_sound order seen given results said (step.Asking q n key) run = tt
step_sound order seen given results said (step.Found q n found parts) run = (run.step.0.under, run.step.5)
step_sound order seen given results said (step.Offering q n offer) run = tt
step_sound order seen given results said (step.Ending reply work) ends = tt

-- ## Sessions

-- a session at another stage of the same statement
abbrev pub restaged : Session → ℕ → Stage → Session
restaged x work now = record x { work = work; stage = now }

module _ (options : PoolOptions) (log : List EventTree) (x : Session) where
  pub begun_as : (p : Progress) (work : ℕ) (now : Stage) → (has : HasBegun options log x p)
      → ((at : ℕ) (said : Said) → IsUnder (order_of x) (state_before options log at) (run_of options log).given p.results said x.stage → IsUnder (order_of x) (state_before options log at) (run_of options log).given p.results said now)
      → HasBegun options log (restaged x work now) p
  begun_as p work now has on = record {
    at = has.at;
    begun = has.begun;
    first = has.first;
    within = has.within;
    place = has.place;
    piece = has.piece;
    here = has.here;
    said = has.said;
    read = has.read;
    under = on has.at has.said has.under;
  }

  pub stands_as : (s : Stands options log x) (work : ℕ) (now : Stage) → untold x.ended x.stage ≡ untold x.ended now → IsStage options log (restaged x work now) (progress_of x.number log) now → Stands options log (restaged x work now)
  stands_as s work now same is = record {
    low = s.low;
    high = s.high;
    short = s.short;
    ended = s.ended;
    within = s.within;
    readings = s.readings;
    read = s.read;
    text = ap (λ more. x.text.items ++ more) (sym same) ∙ s.text;
    placed = s.placed;
    open_ = s.open_;
    stage = is;
  }

  -- a query computes up to its next event, in the order of its plan
  goes_computes : (from to : Step) (work : ℕ) → x.wide ≡ false → Stands options log x → x.stage ≡ stage.Querying from → Computes from to → Stands options log (restaged x work (stage.Querying to))
  goes_computes from to work narrow s is c =
      let p = progress_of x.number log in
      let has = subst (IsStage options log x p) is s.stage in
      let in_plan : order_of x ≡ InPlan = ap (λ b. cond b AsReady InPlan) narrow in
      stands_as s work (stage.Querying to) (ap (untold x.ended) is) (begun_as p work (stage.Querying to) has
      (λ at said under. subst (λ o. IsUnder o (state_before options log at) (run_of options log).given p.results said (stage.Querying to)) (sym in_plan)
      (computes_on (state_before options log at) (run_of options log).given p.results said from to
      (subst (λ o. IsUnder o (state_before options log at) (run_of options log).given p.results said (stage.Querying from)) in_plan
      (subst (IsUnder (order_of x) (state_before options log at) (run_of options log).given p.results said) is under)) c)))

  -- a step that has its event stays as it is
  stays_so : (from to : Step) (work : ℕ) → Stands options log x → x.stage ≡ stage.Querying from → to ≡ from → Stands options log (restaged x work (stage.Querying to))
  stays_so from to work s is same =
      let p = progress_of x.number log in
      let has = subst (IsStage options log x p) is s.stage in
      subst (λ at. Stands options log (restaged x work (stage.Querying at))) (sym same)
      (stands_as s work (stage.Querying from) (ap (untold x.ended) is) (begun_as p work (stage.Querying from) has
      (λ at said under. subst (IsUnder (order_of x) (state_before options log at) (run_of options log).given p.results said) is under)))

  pub query_computes : (from to : Step) (work : ℕ) → GoesInPlan x (stage.Querying from) → Stands options log x → x.stage ≡ stage.Querying from → Computes from to → Stands options log (restaged x work (stage.Querying to))
  query_computes (step.Begun q) to work narrow s is c = goes_computes (step.Begun q) to work narrow s is c
  query_computes (step.Open q) to work narrow s is c = goes_computes (step.Open q) to work narrow s is c
  query_computes (step.Found q n what parts) to work narrow s is c = goes_computes (step.Found q n what parts) to work narrow s is c
  query_computes (step.Asking q n key) to work any s is c = stays_so (step.Asking q n key) to work s is c
  query_computes (step.Offering q n offer) to work any s is c = stays_so (step.Offering q n offer) to work s is c
  query_computes (step.Ending reply work') to work any s is c = stays_so (step.Ending reply work') to work s is c

  pub query_sound : (from : Step) → Stands options log x → x.stage ≡ stage.Querying from → IsSoundStep from
  query_sound from s is =
      let p = progress_of x.number log in
      let has = subst (IsStage options log x p) is s.stage in
      step_sound (order_of x) (state_before options log has.at) (run_of options log).given p.results has.said from
      (subst (IsUnder (order_of x) (state_before options log has.at) (run_of options log).given p.results has.said) is has.under)

  -- an EXPLAIN prints its plan
  pub explain_computes : (plan : Plan) (text : List ℕ) (work : ℕ) → Stands options log x → x.stage ≡ stage.Explaining plan → text ≡ plan_text plan → Stands options log (restaged x work (stage.Querying (step.Ending (shown.Mal text) 0)))
  explain_computes plan text work s is printed =
      let p = progress_of x.number log in
      let has = subst (IsStage options log x p) is s.stage in
      stands_as s work (stage.Querying (step.Ending (shown.Mal text) 0)) (ap (untold x.ended) is) (begun_as p work (stage.Querying (step.Ending (shown.Mal text) 0)) has
      (λ at said under. explain_on (order_of x) (state_before options log at) (run_of options log).given p.results said plan text
      (subst (IsUnder (order_of x) (state_before options log at) (run_of options log).given p.results said) is under) printed))

  -- a reply is written
  pub reply_told : (reply : Shown) (text : Vec ℕ Global) (work : ℕ) → Stands options log x → x.stage ≡ stage.Telling reply → text.items ≡ x.text.items ++ reply_text x.ended reply
      → Stands options log (record x { text = text; work = work; stage = stage.Between })
  reply_told reply text work s is grown =
      let told = subst (IsStage options log x (progress_of x.number log)) is s.stage in
      record {
        low = s.low;
        high = s.high;
        short = s.short;
        ended = s.ended;
        within = s.within;
        readings = s.readings;
        read = s.read;
        text = append-nil text.items ∙ grown ∙ ap (λ at. x.text.items ++ untold x.ended at) (sym is) ∙ s.text;
        placed = s.placed;
        open_ = s.open_;
        stage = told.0;
      }
