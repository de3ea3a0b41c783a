-- A session's work through what it computes.
use Rattle.std.proofs.Common.{◌≡◌, ℕ, ◌+◌, ◌-◌, ◌≤◌, List, [], ◌∷◌, ◌++◌, map, length, Some, None, refl, ap, sym, ◌∙◌, subst, arith, false, true}
use Rattle.std.specs.Prelude.{sum_by, unwrap_or}
use Rattle.std.specs.Option.{option_map_or}
use Rattle.std.proofs.lemmas.List.Sums.{sum_by-cons}
use Rattle.cell_core.specs.declared.operator.Instr.{Instr}
use Rattle.cell_core.specs.declared.table.Db.{Db}
use Rattle.cell_core.specs.Pairs.{Pairs, pair_count}
use Rattle.mal_meaning.specs.declared.plan.Plan.{Plan}
use Rattle.mal_meaning.specs.Meaning.{instr_load, plan_load, plan_rows, plan_values}
use Rattle.lineage_key.specs.declared.key.Key.{Key}
use Rattle.reuse_laws.specs.Reuse.{selected_in}
use Rattle.pool_policy.specs.declared.options.Admitted.{Admitted}
use Rattle.pool_policy.specs.declared.options.PoolOptions.{PoolOptions}
use Rattle.pool_policy.specs.Keeps.{faces, value_in}
use Rattle.pool_policy.specs.Laws.{value_of}
use Rattle.pool_policy.specs.Looks.{look_of}
use Rattle.pool_policy.specs.Pool.{PoolState}
use Rattle.recycle_pool.specs.Answers.{ArePooled, HandsOut, piece_in, told}
use Rattle.recycle_pool.specs.declared.found.Found.{Found}
use Rattle.recycle_pool.specs.declared.found.Found.TheVariants as found
use Rattle.recycle_pool.specs.declared.found.CoverPiece.{CoverPiece}
use Rattle.store_changes.specs.Work.{lost_unless}
use Rattle.table_store.specs.Content.{Content}
use Rattle.run_log.specs.Events.{Admits, Ends, EventTree, log_tree}
use Rattle.reply_layout.specs.declared.shown.Shown.{Shown}
use Rattle.reply_layout.specs.Doings.{code_of}
use Rattle.book_core.specs.BookView.{BookView}
use Rattle.query_run.specs.declared.step.RunningQuery.{RunningQuery}
use Rattle.query_run.specs.declared.step.Offer.{Offer}
use Rattle.query_run.specs.declared.step.Step.{Step}
use Rattle.query_run.specs.declared.step.Step.TheVariants as step
use Rattle.query_run.specs.Queries.{BecomesOf, ComesTo, EndsWith, IsAt, IsOffered, key_in, part_work, unmarked_work, was_asked, work_from}
use Rattle.query_run.specs.Queries.EndsWith.{HasRows, Overflows}
use Rattle.query_run.specs.Steps.{Computes, IsOpened, IsSoundStep, lost_at}
use Rattle.session_run.specs.declared.session.Session.{Session}
use Rattle.session_run.specs.declared.stage.Stage.{Stage}
use Rattle.session_run.specs.declared.stage.Stage.TheVariants as stage
use Rattle.session_run.specs.Progress.{Progress, progress_of}
use Rattle.session_run.specs.Kept.{Stands}
use Rattle.session_run.specs.Work.{act_lost, act_work, load_at, pairs_at, piece_work, pool_asked, session_work, tables_begun, work_by}
use Rattle.session_run.specs.Works.{IsLookedUp, IsPlanned, IsWorked, IsWorkedStage, IsWorkedStep, OweLoads, lost_in, lost_next}
use Rattle.session_run.specs.Stages.{ComesTo as StageComesTo, HasComputed, IsSoundStage, ReadsOn}
use Rattle.session_run.proofs.OweLemmas.{goes_owe}
use Rattle.session_run.proofs.StageLemmas.{stage_sound}

-- ## What a look found

value_pooled : (pool : PoolState) (id : ℕ) (value : Pairs) → value_in (faces pool.entries) id ≡ Some value → value_of pool id ≡ value
value_pooled pool id value pooled = ap (λ o. unwrap_or o []) pooled

parts_count : (pool : PoolState) (parts : List CoverPiece) → ArePooled pool.entries parts → sum_by (piece_work pool) (map piece_in parts) ≡ sum_by part_work parts
parts_count pool [] are = refl
parts_count pool (part ∷ parts) are =
    sum_by-cons (piece_work pool) (piece_in part) (map piece_in parts)
    ∙ ap (λ (value : Pairs). length value + length (selected_in part.span value) + sum_by (piece_work pool) (map piece_in parts)) (value_pooled pool part.id part.value are.0)
    ∙ ap (λ more. part_work part + more) (parts_count pool parts are.1)
    ∙ sym (sum_by-cons part_work part parts)

-- the work by what a look found is the work from what it handed out
found_counts : (pool : PoolState) (what : Found) (parts : List CoverPiece) (load pairs : ℕ) → HandsOut pool.entries what parts → work_by pool (told what parts) load pairs ≡ work_from what parts load pairs
found_counts pool (found.Exact id value) parts load pairs out = refl
found_counts pool (found.Within id value) parts load pairs out = ap (λ (v : Pairs). length v + pairs) (value_pooled pool id value out.0)
found_counts pool (found.Across count) parts load pairs out = ap (λ n. n + pairs) (parts_count pool parts out.0)
found_counts pool found.Miss parts load pairs out = refl

-- ## Steps

module _ (options : PoolOptions) (log : List EventTree) (p : Progress) where
  pub planned_as : (q to : RunningQuery) → to.snap ≡ q.snap → to.plan ≡ q.plan → IsPlanned options log p q → IsPlanned options log p to
  planned_as q to snap plan k = record { plan = k.plan ∙ ap Some (sym plan); db = k.db ∙ ap (λ (content : Content). content.db) (sym snap) }

  -- the End of a query that was run to its end counts its unmarked instructions
  pub end_counts : (q : RunningQuery) → IsPlanned options log p q → act_work options log p (Ends 0) ≡ unmarked_work q.plan q.snap.db
  end_counts q k = ap (λ plan. option_map_or (λ pl. unmarked_work pl (tables_begun options log p)) plan 0) k.plan ∙ ap (unmarked_work q.plan) k.db

  ends_worked : (q : RunningQuery) → IsPlanned options log p q → (reply : Shown) (work : ℕ) → EndsWith q reply work → work ≡ act_work options log p (Ends (code_of reply))
  ends_worked q k reply work (Overflows to n goes before unmarked none no_rows is no_work) = no_work ∙ ap (λ r. act_work options log p (Ends (code_of r))) (sym is)
  ends_worked q k reply work (HasRows to rows goes all_there some is counted) = counted ∙ sym (end_counts q k) ∙ ap (λ r. act_work options log p (Ends (code_of r))) (sym is)

  comes_worked : (q : RunningQuery) → IsPlanned options log p q → OweLoads options log p.results q (λ m. ⊥) → (to : Step) → ComesTo q to → IsWorkedStep options log p to
  comes_worked q k owes (step.Asking to n key) comes = (planned_as q to comes.0.snap_is comes.0.plan_is k, goes_owe options log p.results q to comes.0 owes)
  comes_worked q k owes (step.Ending reply work) ends = ends_worked q k reply work ends
  comes_worked q k owes (step.Begun to) none = absurd none
  comes_worked q k owes (step.Open to) none = absurd none
  comes_worked q k owes (step.Found to n what parts) none = absurd none
  comes_worked q k owes (step.Offering to n offer) none = absurd none

  -- nothing is owed where there is room for results
  pub opened_owe : (q to : RunningQuery) → IsOpened q to → OweLoads options log p.results to (λ m. ⊥)
  opened_owe q to o n instr at asked free = absurd (let never : false ≡ true = sym (o.unasked n) ∙ asked in cc)

  -- the work of a result's Admit
  abbrev admit_counts : PoolState → Key → Plan → Db → ℕ → ℕ
  admit_counts pool key plan db n = work_by pool (look_of pool key) (load_at plan db n) (pairs_at plan db n)

  -- the pool as it was when a result was asked for
  abbrev pool_at : ℕ → PoolState
  pool_at n = pool_asked options log (p.results n)

  -- it is by the pool as it was at its look, and by the plan
  pub admit_is : (q : RunningQuery) → IsPlanned options log p q → (n : ℕ) (instr : Instr) → IsAt q n instr → (offer : Offer) → IsOffered q n instr offer → (result : Admitted)
      → act_work options log p (Admits (n + 1) offer.key result) ≡ work_by (pool_asked options log (p.results n)) (look_of (pool_asked options log (p.results n)) (key_in q n instr)) offer.work (length offer.value)
  admit_is q k n instr at offer offered result =
      let last : (n + 1) - 1 ≡ n = omega arith in
      ap (λ plan. option_map_or (λ pl. admit_counts (pool_asked options log (p.results ((n + 1) - 1))) offer.key pl (tables_begun options log p) ((n + 1) - 1)) plan 0) k.plan
      ∙ ap (λ db. admit_counts (pool_asked options log (p.results ((n + 1) - 1))) offer.key q.plan db ((n + 1) - 1)) k.db
      ∙ ap (λ m. admit_counts (pool_asked options log (p.results m)) offer.key q.plan q.snap.db m) last
      ∙ ap (λ o. work_by (pool_at n) (look_of (pool_at n) offer.key) (option_map_or (instr_load q.snap.db (plan_values q.snap.db q.plan.instrs)) o 0) (pairs_at q.plan q.snap.db n)) at.here
      ∙ ap (λ load. work_by (pool_at n) (look_of (pool_at n) offer.key) load (pairs_at q.plan q.snap.db n)) (sym offered.work)
      ∙ ap (λ o. work_by (pool_at n) (look_of (pool_at n) offer.key) offer.work (option_map_or pair_count (unwrap_or o None) 0)) offered.value
      ∙ ap (λ key. work_by (pool_at n) (look_of (pool_at n) key) offer.work (length offer.value)) offered.key

  -- it is that which was done
  offer_worked : (q : RunningQuery) → IsPlanned options log p q → (n : ℕ) (instr : Instr) → IsAt q n instr → (what : Found) (parts : List CoverPiece) → IsLookedUp (pool_asked options log (p.results n)) q n what parts → (offer : Offer) → IsOffered q n instr offer
      → offer.done ≡ work_from what parts offer.work (length offer.value) → (result : Admitted) → offer.done ≡ act_work options log p (Admits (n + 1) offer.key result)
  offer_worked q k n instr at what parts looked offer offered done result =
      let found = looked instr at in
      done ∙ sym (admit_is q k n instr at offer offered result
      ∙ ap (λ finding. work_by (pool_asked options log (p.results n)) finding offer.work (length offer.value)) (sym found.0)
      ∙ found_counts (pool_asked options log (p.results n)) what parts offer.work (length offer.value) found.1)

  pub becomes_worked : (q : RunningQuery) → IsPlanned options log p q → (n : ℕ) → OweLoads options log p.results q (λ m. m ≡ n) → (instr : Instr) → IsAt q n instr → (what : Found) (parts : List CoverPiece) → IsLookedUp (pool_asked options log (p.results n)) q n what parts
      → (to : Step) → BecomesOf q n instr what parts to → IsWorkedStep options log p to
  becomes_worked q k n owes instr at what parts looked (step.Offering to m offer) b =
      subst (λ r. IsWorkedStep options log p (step.Offering r m offer)) (sym b.0)
      (subst (λ j. IsWorkedStep options log p (step.Offering q j offer)) (sym b.1) (k, owes, offer_worked q k n instr at what parts looked offer b.2 b.3))
  becomes_worked q k n owes instr at what parts looked (step.Ending reply work) b = b.3 ∙ ap (λ r. act_work options log p (Ends (code_of r))) (sym b.2)
  becomes_worked q k n owes instr at what parts looked (step.Begun to) none = absurd none
  becomes_worked q k n owes instr at what parts looked (step.Open to) none = absurd none
  becomes_worked q k n owes instr at what parts looked (step.Asking to m key) none = absurd none
  becomes_worked q k n owes instr at what parts looked (step.Found to m other pieces) none = absurd none

  step_computes : (from to : Step) → IsSoundStep from → IsWorkedStep options log p from → Computes from to → IsWorkedStep options log p to
  step_computes (step.Begun q) to sound is c = comes_worked c.0 (planned_as q c.0 c.1.snap_is c.1.plan_is is) (opened_owe q c.0 c.1) to c.2
  step_computes (step.Open q) to sound is c = comes_worked q is.0 is.1 to c
  step_computes (step.Asking q n key) to sound is c = subst (IsWorkedStep options log p) (sym c) is
  step_computes (step.Found q n what parts) to sound is c =
      becomes_worked q is.0 n is.1 sound.1.0 sound.1.1 what parts.items is.2 to (c sound.1.0 sound.1.1)
  step_computes (step.Offering q n offer) to sound is c = subst (IsWorkedStep options log p) (sym c) is
  step_computes (step.Ending reply work) to sound is c = subst (IsWorkedStep options log p) (sym c) is

  -- ## Stages

  reads_worked : (pieces : List (List ℕ)) (ended : ℕ) (next : Stage) → ReadsOn pieces ended next → IsWorkedStage options log p next
  reads_worked pieces ended stage.Between all = tt
  reads_worked pieces ended (stage.Reading read) has = tt
  reads_worked pieces ended (stage.Querying at) never = absurd never
  reads_worked pieces ended (stage.Explaining plan) never = absurd never
  reads_worked pieces ended (stage.Telling reply) never = absurd never

  stage_computes : (x : Session) (at next : Stage) (text : List ℕ) → IsSoundStage at → IsWorkedStage options log p at → StageComesTo x at next text → IsWorkedStage options log p next
  stage_computes x stage.Between next text sound is c = reads_worked x.pieces x.ended next c.0
  stage_computes x (stage.Telling reply) next text sound is c = reads_worked x.pieces x.ended next c.0
  stage_computes x (stage.Reading read) next text sound is c = subst (IsWorkedStage options log p) (sym c.0) tt
  stage_computes x (stage.Querying from) next text sound is c = subst (IsWorkedStage options log p) (sym c.1) (step_computes from c.0 sound is c.2)
  stage_computes x (stage.Explaining plan) next text sound is c =
      subst (IsWorkedStage options log p) (sym c.0) (sym (ap (λ begun. option_map_or (λ pl. unmarked_work pl (tables_begun options log p)) begun 0) is))

  -- ## What is lost

  end_loses : (q : RunningQuery) → IsPlanned options log p q → (code : ℕ) → act_lost options log p (Ends code) ≡ lost_unless (plan_rows q.plan q.snap.db) (plan_load q.plan q.snap.db)
  end_loses q k code =
      ap (λ plan. option_map_or (λ pl. lost_unless (plan_rows pl (tables_begun options log p)) (plan_load pl (tables_begun options log p))) plan 0) k.plan
      ∙ ap (λ db. lost_unless (plan_rows q.plan db) (plan_load q.plan db)) k.db

-- ## Sessions

-- a session computes: its work is what its events count
pub computed_worked : (options : PoolOptions) (log : List EventTree) (x : Session) → Stands options log x → IsWorked options log x → (new : Session) → HasComputed x new → IsWorked options log new
computed_worked options log x s w new c = record {
  work = c.work ∙ w.work ∙ ap (λ n. session_work options n log) (sym c.number);
  stage = subst (λ n. IsWorkedStage options log (progress_of n log) new.stage) (sym c.number)
      (stage_computes options log (progress_of x.number log) x x.stage new.stage new.text.items (stage_sound options log x s) w.stage c.stage);
}

module _ (book : BookView) (session : ℕ) where
  abbrev p : Progress
  p = progress_of session (log_tree book.log)

  abbrev Worked : Step → Type 0
  Worked at = IsWorkedStep book.options (log_tree book.log) p at

  query_lost : (q : RunningQuery) → IsPlanned book.options (log_tree book.log) p q → (to : Step) → lost_at q to ≤ lost_next book session (stage.Querying to)
  query_lost q k (step.Ending reply work) = let loses = end_loses book.options (log_tree book.log) p q k (code_of reply) in omega (arith, loses)
  query_lost q k (step.Begun to) = omega arith
  query_lost q k (step.Open to) = omega arith
  query_lost q k (step.Asking to n key) = omega arith
  query_lost q k (step.Found to n what parts) = omega arith
  query_lost q k (step.Offering to n offer) = omega arith

  step_lost : (from to : Step) → Worked from → lost_in (stage.Querying from) (stage.Querying to) ≤ lost_next book session (stage.Querying to)
  step_lost (step.Begun q) to is = query_lost q is to
  step_lost (step.Open q) to is = query_lost q is.0 to
  step_lost (step.Found q n what parts) to is = query_lost q is.0 to
  step_lost (step.Asking q n key) to is = omega arith
  step_lost (step.Offering q n offer) to is = omega arith
  step_lost (step.Ending reply work) to is = omega arith

  stage_lost : (x : Session) (at next : Stage) (text : List ℕ) → IsWorkedStage book.options (log_tree book.log) p at → StageComesTo x at next text → lost_in at next ≤ lost_next book session next
  stage_lost x stage.Between next text is c = omega arith
  stage_lost x (stage.Telling reply) next text is c = omega arith
  stage_lost x (stage.Reading read) next text is c = omega arith
  stage_lost x (stage.Querying from) next text is c = subst (λ to. lost_in (stage.Querying from) to ≤ lost_next book session to) (sym c.1) (step_lost from c.0 is)
  stage_lost x (stage.Explaining plan) next text is c = omega arith

-- what a session may have counted in vain as it computed is lost where it does its next event
pub computed_lost : (book : BookView) (x new : Session) → IsWorked book.options (log_tree book.log) x → HasComputed x new → lost_in x.stage new.stage ≤ lost_next book x.number new.stage
computed_lost book x new w c = stage_lost book x.number x x.stage new.stage new.text.items w.stage c.stage
