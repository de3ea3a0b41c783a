-- A session's work through its own events.
use Rattle.std.proofs.Common.{◌≡◌, ℕ, ◌+◌, ◌-◌, List, [], ◌∷◌, ◌++◌, length, take, Bool, true, false, cond, Option, Some, None, refl, ap, sym, ◌∙◌, subst, arith}
use Rattle.std.specs.Prelude.{Result, Ok, Err, slice_get, ◌==◌}
use Rattle.std.specs.Option.{option_and_then, option_map_or}
use Rattle.std.proofs.lemmas.Bool.{eq-eqb}
use Rattle.std.proofs.lemmas.Option.{same_Some}
use Rattle.cell_core.proofs.ListLemmas.{slice_get-append_middle}
use Rattle.cell_core.specs.declared.operator.Instr.{Instr}
use Rattle.cell_core.specs.Pairs.{Pairs}
use Rattle.mal_meaning.specs.declared.plan.Plan.{Plan}
use Rattle.lineage_key.specs.declared.key.Key.{Key}
use Rattle.sql_tree.specs.Tree.{QueryTree, StmtTree}
use Rattle.sql_tree.specs.Tree.StmtTree.{Select, ExplainSelect}
use Rattle.sql_definitions.specs.declared.refusal.Refusal.{Refusal}
use Rattle.pool_policy.specs.declared.options.Admitted.{Admitted}
use Rattle.pool_policy.specs.declared.options.PoolOptions.{PoolOptions}
use Rattle.pool_policy.specs.Looks.{look_of}
use Rattle.table_store.specs.Content.{Content}
use Rattle.run_log.specs.declared.event.FoundLog.{FoundLog}
use Rattle.run_log.specs.Events.{ActTree, Begins, Looks, Admits, Writes, Ends, EventTree, act_tree, looked_of}
use Rattle.query_keys.specs.Laws.{id_given}
use Rattle.recycle_pool.specs.Answers.{HandsOut, told}
use Rattle.recycle_pool.specs.declared.found.Found.{Found}
use Rattle.recycle_pool.specs.declared.found.CoverPiece.{CoverPiece}
use Rattle.pool_policy.specs.Looks.Finding.{Exact}
use Rattle.pool_policy.specs.Pool.{PoolState}
use Rattle.bat_core.specs.declared.shared.Obj.TheVariants as obj
use Rattle.std.specs.declared.vec.Vec.{Vec}
use Rattle.std.specs.declared.alloc.Global.{Global}
use Rattle.run_log.specs.Fold.{LogState, run_of}
use Rattle.reply_layout.specs.declared.shown.Shown.{Shown}
use Rattle.reply_layout.specs.Doings.{code_of}
use Rattle.book_core.specs.Begins.{begin_act}
use Rattle.query_keys.specs.Keys.{instr_key}
use Rattle.query_run.specs.declared.step.RunningQuery.{RunningQuery}
use Rattle.query_run.specs.declared.step.Offer.{Offer}
use Rattle.query_run.specs.declared.step.Step.{Step}
use Rattle.query_run.specs.declared.step.Step.TheVariants as step
use Rattle.query_run.specs.Queries.{AsksFor, HasAsked, HasGained, IsAt, IsLooked, IsUnderWay, key_in, unmarked_work, versions_in}
use Rattle.session_run.specs.declared.session.Session.{Session}
use Rattle.session_run.specs.declared.stage.Stage.{Stage}
use Rattle.session_run.specs.declared.stage.Stage.TheVariants as stage
use Rattle.session_run.specs.Progress.{Asked, Got, Has, Progress, got_by, noted, progress_by, progress_of}
use Rattle.session_run.specs.Kept.{IsStage, IsUnder, Stands, order_of}
use Rattle.session_run.specs.Turns.{state_before}
use Rattle.session_run.specs.Stages.{BeginsWith, explained}
use Rattle.session_run.specs.Work.{act_work, plan_begun, plan_in, pool_asked, session_work, tables_begun}
use Rattle.session_run.specs.Works.{IsLookedUp, IsPlanned, IsWorked, IsWorkedStage, IsWorkedStep, OweLoads}
use Rattle.session_run.proofs.GainedLemmas.{one_less}
use Rattle.session_run.proofs.LogLemmas.{own_progress, state_next}
use Rattle.session_run.proofs.OweLemmas.{asks_owe, gains_owe}
use Rattle.session_run.proofs.OutsideLemmas.{restaged}
use Rattle.session_run.proofs.OwnLemmas.{event_by, replied}
use Rattle.session_run.proofs.WorkLemmas.{own_more, planned_next, pool_stays, progress_within}
use Rattle.session_run.proofs.TurnLemmas.{in_vain}

module _ (options : PoolOptions) (log : List EventTree) (x : Session) where
  abbrev p : Progress
  p = progress_of x.number log

  abbrev now : LogState
  now = run_of options log

  abbrev later : ActTree → List EventTree
  later act = log ++ event_by x act ∷ []

  abbrev behind : ActTree → Progress
  behind act = progress_by (length log + 1) act p

  -- ## One event

  work_is : (w : IsWorked options log x) (act : ActTree) (work : ℕ) → work ≡ x.work + act_work options log p act → work ≡ session_work options x.number (later act)
  work_is w act work more = more ∙ ap (λ n. n + act_work options log p act) w.work ∙ sym (own_more options x.number log (event_by x act) refl)

  restaged_worked : (w : IsWorked options log x) (act : ActTree) (work : ℕ) (next : Stage) → work ≡ x.work + act_work options log p act → IsWorkedStage options (later act) (behind act) next → IsWorked options (later act) (restaged x work next)
  restaged_worked w act work next more is = record {
    work = work_is w act work more;
    stage = subst (λ (q : Progress). IsWorkedStage options (later act) q next) (sym (own_progress x.number log (event_by x act) refl)) is;
  }

  replied_worked : (w : IsWorked options log x) (act : ActTree) (work : ℕ) (reply : Shown) → work ≡ x.work + act_work options log p act → IsWorked options (later act) (replied x work reply)
  replied_worked w act work reply more = record { work = work_is w act work more; stage = tt }

  -- a statement that is one event
  pub write_worked : IsWorked options log x → (o : Option StmtTree) (code count : ℕ) (reply : Shown) → IsWorked options (later (Writes o code count)) (replied x x.work reply)
  write_worked w o code count reply = replied_worked w (Writes o code count) x.work reply (omega arith)

  -- ## A query begins

  plan_next : (code : ℕ) (plan : Option Plan) → plan_begun (later (Begins code plan)) (behind (Begins code plan)) ≡ plan
  plan_next code plan =
      let last : (length log + 1) - 1 ≡ length log = omega arith in
      let found = slice_get-append_middle log (event_by x (Begins code plan)) [] in
      ap (λ n. option_and_then (λ (e : EventTree). plan_in e.act) (slice_get (later (Begins code plan)) n)) last ∙ ap (option_and_then (λ (e : EventTree). plan_in e.act)) found

  tables_next : (code : ℕ) (plan : Option Plan) → tables_begun options (later (Begins code plan)) (behind (Begins code plan)) ≡ now.db
  tables_next code plan = ap (λ (s : LogState). s.db) (state_next options log (event_by x (Begins code plan)))

  -- where no plan began an End counts nothing
  no_plan_counts : (events : List EventTree) (q : Progress) (code : ℕ) → plan_begun events q ≡ None → 0 ≡ act_work options events q (Ends code)
  no_plan_counts events q code none = go (code == 0)
    where
      go : (b : Bool) → 0 ≡ cond b (option_map_or (λ plan. unmarked_work plan (tables_begun options events q)) (plan_begun events q) 0) 0
      go true = sym (ap (λ plan. option_map_or (λ pl. unmarked_work pl (tables_begun options events q)) plan 0) none)
      go false = refl

  module _ (query : QueryTree) where
    abbrev query_act : Result Plan Refusal → ActTree
    query_act outcome = act_tree (begin_act (Select query) outcome)

    abbrev explain_act : Result Plan Refusal → ActTree
    explain_act outcome = act_tree (begin_act (ExplainSelect query) outcome)

    query_stage : (outcome : Result Plan Refusal) (snap : Content) (marks : List Bool) (next : Stage) → snap.db ≡ now.db → BeginsWith snap marks outcome next → IsWorkedStage options (later (query_act outcome)) (behind (query_act outcome)) next
    query_stage (Ok plan) snap marks next db begins =
        let act = Begins 0 (Some plan) in
        let new = begins.2 in
        subst (IsWorkedStage options (later act) (behind act)) (sym begins.1) (record {
          plan = plan_next 0 (Some plan) ∙ ap Some (sym new.plan_is);
          db = tables_next 0 (Some plan) ∙ sym (ap (λ (content : Content). content.db) new.snap_is ∙ db);
        })
    query_stage (Err refusal) snap marks next db begins =
        let act = query_act (Err refusal) in
        subst (IsWorkedStage options (later act) (behind act)) (sym begins) (no_plan_counts (later act) (behind act) _ (plan_next _ None))

    explain_stage : (outcome : Result Plan Refusal) (next : Stage) → next ≡ explained outcome → IsWorkedStage options (later (explain_act outcome)) (behind (explain_act outcome)) next
    explain_stage (Ok plan) next begins =
        let act = explain_act (Ok plan) in
        subst (IsWorkedStage options (later act) (behind act)) (sym begins) (plan_next 0 None)
    explain_stage (Err refusal) next begins =
        let act = explain_act (Err refusal) in
        subst (IsWorkedStage options (later act) (behind act)) (sym begins) (no_plan_counts (later act) (behind act) _ (plan_next _ None))

    pub query_worked : IsWorked options log x → (outcome : Result Plan Refusal) (snap : Content) (marks : List Bool) (next : Stage) → snap.db ≡ now.db → BeginsWith snap marks outcome next → IsWorked options (later (query_act outcome)) (restaged x x.work next)
    query_worked w outcome snap marks next db begins = restaged_worked w (query_act outcome) x.work next (omega arith) (query_stage outcome snap marks next db begins)

    -- and an EXPLAIN
    pub explain_worked : IsWorked options log x → (outcome : Result Plan Refusal) (next : Stage) → next ≡ explained outcome → IsWorked options (later (explain_act outcome)) (restaged x x.work next)
    explain_worked w outcome next begins = restaged_worked w (explain_act outcome) x.work next (omega arith) (explain_stage outcome next begins)

  -- ## A query goes on

  goes_planned : (act : ActTree) → (behind act).begun ≡ p.begun → (q : RunningQuery) → IsPlanned options log p q → IsPlanned options (later act) (behind act) q
  goes_planned act same q k = planned_next options log (event_by x act) p (progress_within x.number log) (behind act) same q k

  -- the pool at a look is the same after the next event
  pools_stay : (act : ActTree) (m : ℕ) → pool_asked options (later act) (p.results m) ≡ pool_asked options log (p.results m)
  pools_stay act m = pool_stays options log (event_by x act) p (progress_within x.number log) m

  module _ (q : RunningQuery) (n : ℕ) (key : Key) (asks : AsksFor q n key) (under : IsUnderWay q) (k : IsPlanned options log p q) (owes : OweLoads options log p.results q (λ m. ⊥)) where
    abbrev found : FoundLog
    found = looked_of (look_of now.pool key)

    abbrev look : ActTree
    look = Looks (n + 1) key found

    planned : (r : ℕ → Got) (to : RunningQuery) → to.snap ≡ q.snap → to.plan ≡ q.plan → IsPlanned options (later look) (record (behind look) { results = r }) to
    planned r to snap plan = let same = goes_planned look refl q k in record { plan = same.plan ∙ ap Some (sym plan); db = same.db ∙ ap (λ (content : Content). content.db) (sym snap) }

    abbrev Worked_at : ℕ → Step → Type 0
    Worked_at m to = IsWorkedStep options (later look) (record (behind look) { results = noted m (got_by (length log + 1) found) p.results }) to

    look_open : (to : RunningQuery) (id : ℕ) (value : Pairs) → HasGained q n (obj.Bat value) id q.work to → Worked_at n (step.Open to)
    look_open to id value g =
        (planned _ to g.snap_is g.plan_is, gains_owe options log (later look) p.results q to n asks.instr (obj.Bat value) id q.work (got_by (length log + 1) found) asks.at under g (λ m none. absurd none) (pools_stay look) owes)

    look_found : (to : RunningQuery) (what : Found) (parts : Vec CoverPiece Global) → HasAsked q n to → told what parts.items ≡ look_of now.pool key → HandsOut now.pool.entries what parts.items → ((id : ℕ) → look_of now.pool key ≡ Exact id → ⊥) → Worked_at n (step.Found to n what parts)
    look_found to what parts a same out not_exact = (
      planned _ to a.snap_is a.plan_is,
      asks_owe options log (later look) p.results q to n (got_by (length log + 1) found) a (pools_stay look) owes,
      subst (λ got. IsLookedUp (pool_asked options (later look) got) to n what parts.items) (sym (ap (λ b. cond b (got_by (length log + 1) found) (p.results n)) (eq-eqb n n refl) ∙ in_vain (length log + 1) (look_of now.pool key) not_exact)) looked,
    )
      where
        pool_next : pool_asked options (later look) (Asked (length log + 1)) ≡ now.pool
        pool_next = ap (λ (s : LogState). s.pool) (state_next options log (event_by x look))

        looked : IsLookedUp (pool_asked options (later look) (Asked (length log + 1))) to n what parts.items
        looked instr at =
            let its : asks.instr ≡ instr = same_Some asks.instr instr (sym asks.at.here ∙ ap (λ (pl : Plan). slice_get pl.instrs n) (sym a.plan_is) ∙ at.here) in
            let key_same : key ≡ key_in to n instr = asks.key_is ∙ ap (key_in q n) its ∙ (λ i. instr_key instr (versions_in (sym a.snap_is i)) (take n (sym a.ids_are i))) in
            (same ∙ (λ i. look_of (sym pool_next i) (key_same i)), subst (λ (pool : PoolState). HandsOut pool.entries what parts.items) (sym pool_next) out)

    look_step : (to : Step) → IsLooked q n now.pool key to → Worked_at n to
    look_step (step.Open to) l = look_open to l.0 l.1 l.2
    look_step (step.Found to at what parts) l = subst (λ m. Worked_at n (step.Found to m what parts)) (sym l.0) (look_found to what parts l.1 l.2 l.3 l.4)
    look_step (step.Begun to) none = absurd none
    look_step (step.Asking to at named) none = absurd none
    look_step (step.Offering to at offer) none = absurd none
    look_step (step.Ending reply work) none = absurd none

  -- a query asks
  pub look_worked : Stands options log x → IsWorked options log x → (q : RunningQuery) (n : ℕ) (key : Key) (to : Step) → x.stage ≡ stage.Querying (step.Asking q n key) → IsLooked q n now.pool key to
      → IsWorked options (later (Looks (n + 1) key (looked_of (look_of now.pool key)))) (restaged x x.work (stage.Querying to))
  look_worked s w q n key to is looked =
      let has = subst (IsStage options log x p) is s.stage in
      let run = subst (IsUnder (order_of x) (state_before options log has.at) now.given p.results has.said) is has.under in
      let worked = subst (IsWorkedStage options log p) is w.stage in
      restaged_worked w (Looks (n + 1) key (looked_of (look_of now.pool key))) x.work (stage.Querying to) (omega arith)
      (subst (λ m. Worked_at q n key run.step.3 run.step.0.under worked.0 worked.1 m to) (sym (one_less n)) (look_step q n key run.step.3 run.step.0.under worked.0 worked.1 to looked))

  -- a query offers
  pub offer_worked : Stands options log x → IsWorked options log x → (q : RunningQuery) (n : ℕ) (offer : Offer) (result : Admitted) (id : ℕ) → x.stage ≡ stage.Querying (step.Offering q n offer) → (to : RunningQuery) → HasGained q n (obj.Bat offer.value) id q.work to
      → IsWorked options (later (Admits (n + 1) offer.key result)) (restaged x (x.work + offer.done) (stage.Querying (step.Open to)))
  offer_worked s w q n offer result id is to g =
      let act = Admits (n + 1) offer.key result in
      let has = subst (IsStage options log x p) is s.stage in
      let run = subst (IsUnder (order_of x) (state_before options log has.at) now.given p.results has.said) is has.under in
      let worked = subst (IsWorkedStage options log p) is w.stage in
      let same = goes_planned act refl q worked.0 in
      restaged_worked w act (x.work + offer.done) (stage.Querying (step.Open to)) (ap (λ m. x.work + m) (worked.2 result)) (
        record { plan = same.plan ∙ ap Some (sym g.plan_is); db = same.db ∙ ap (λ (content : Content). content.db) (sym g.snap_is) },
        subst (λ m. OweLoads options (later act) (noted m (Has (id_given result)) p.results) to (λ k. ⊥)) (sym (one_less n))
            (gains_owe options log (later act) p.results q to n run.step.5.0 (obj.Bat offer.value) id q.work (Has (id_given result)) run.step.5.1 run.step.0.under g (λ m here. here) (pools_stay act) worked.1),
      )

  -- a statement ends
  pub end_worked : IsWorked options log x → (reply : Shown) (told : ℕ) → x.stage ≡ stage.Querying (step.Ending reply told) → IsWorked options (later (Ends (code_of reply))) (replied x (x.work + told) reply)
  end_worked w reply told is = replied_worked w (Ends (code_of reply)) (x.work + told) reply (ap (λ n. x.work + n) (subst (IsWorkedStage options log p) is w.stage))
