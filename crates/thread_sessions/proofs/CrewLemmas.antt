-- A session whose query moves, and does events, while workers run its instructions.
use Rattle.std.proofs.Common.{◌≡◌, ◌≢◌, ℕ, ◌<◌, List, [], ◌∷◌, ◌++◌, length, Bool, true, false, Some, None, refl, ap, sym, ◌∙◌, subst, arith}
use Rattle.std.specs.Prelude.{slice_get}
use Rattle.std.proofs.lemmas.Option.{slice_get_within}
use Rattle.std.specs.declared.vec.Vec.{Vec}
use Rattle.std.specs.declared.alloc.Global.{Global}
use Rattle.cell_core.specs.declared.operator.Instr.{Instr}
use Rattle.cell_core.specs.declared.operator.Op.{Op}
use Rattle.cell_core.specs.declared.operator.Op.TheVariants as op
use Rattle.bat_core.specs.declared.shared.Obj.{Obj}
use Rattle.bat_core.specs.declared.shared.Obj.TheVariants as obj
use Rattle.mal_meaning.specs.declared.plan.Plan.{Plan}
use Rattle.mal_meaning.specs.Meaning.{plan_rows}
use Rattle.sql_definitions.specs.declared.refusal.Refusal.TheVariants.{Overflow}
use Rattle.reply_layout.specs.declared.shown.Shown.{Shown}
use Rattle.reply_layout.specs.declared.shown.Shown.TheVariants as shown
use Rattle.pool_policy.specs.declared.options.PoolOptions.{PoolOptions}
use Rattle.pool_policy.specs.Pool.{PoolState}
use Rattle.lineage_key.specs.declared.key.Key.{Key}
use Rattle.recycle_pool.specs.declared.found.Found.{Found}
use Rattle.recycle_pool.specs.declared.found.Found.TheVariants as found
use Rattle.recycle_pool.specs.declared.found.CoverPiece.{CoverPiece}
use Rattle.run_log.specs.declared.event.Event.{Event}
use Rattle.run_log.specs.Events.{log_tree}
use Rattle.turn_hall.specs.declared.hall.Hall.{Hall}
use Rattle.turn_hall.specs.Passes.{IsPassOf, seen_by}
use Rattle.query_run.specs.declared.step.Offer.{Offer}
use Rattle.query_run.specs.declared.step.RunningQuery.{RunningQuery}
use Rattle.query_run.specs.declared.step.Step.{Step}
use Rattle.query_run.specs.declared.step.Step.TheVariants as step
use Rattle.query_run.specs.Queries.{BecomesOf, ComesTo, EndsWith, HasBefore, HasGained, IsAt, IsLooked, Serves, has_result, value_at, was_asked}
use Rattle.query_run.specs.Queries.EndsWith.{HasRows, Overflows}
use Rattle.query_run.specs.Ready.{ComesOfValue, Computes, MayEnd, Moves, WithNone, WithRows}
use Rattle.query_run.specs.Steps.{IsOpened, IsSoundStep}
use Rattle.session_run.specs.declared.session.Session.{Session}
use Rattle.session_run.specs.declared.stage.Stage.{Stage}
use Rattle.session_run.specs.declared.stage.Stage.TheVariants as stage
use Rattle.session_run.specs.Stages.{Follows, IsAside, IsReady, at_stage}
use Rattle.session_run.proofs.StageLemmas.{stage_sound}
use Rattle.thread_sessions.specs.declared.crew.Gone.{Gone}
use Rattle.thread_sessions.specs.declared.crew.Gone.TheVariants.{On, Out}
use Rattle.thread_sessions.specs.declared.runner.Runner.{Runner}
use Rattle.thread_sessions.specs.Crews.{AsksOrOffers, CanDo, Gains, HasDone, HasEnded, HasNow, IsCrew, IsCrewed, IsGone, IsOut, basis_of, is_bind, with_stage}
use Rattle.thread_sessions.specs.Runners.{IsWith}
use Rattle.thread_sessions.specs.Runs.{HasRunOn, IsRunner}
use Rattle.thread_sessions.proofs.AlongLemmas.{moved_with}
use Rattle.thread_sessions.proofs.OutLemmas.{out_opened}

module _ {V : Type 0} (options : PoolOptions) (hall : Hall V Event) where
  -- ## It moves

  pub crewed_moves : (runner : Runner V Event) (began : Session) (from to : Step) → IsCrewed options hall runner began from → Moves from to → IsCrewed options hall runner began to
  crewed_moves runner began from to c moves = record {
    ours = c.ours;
    stands = moved_with options runner.pass (at_stage runner.session (stage.Querying from)) (at_stage runner.session (stage.Querying to)) c.wide (record { from = from; to = to; was = refl; is = refl; moves = moves }) c.stands;
    wide = c.wide;
    number = c.number;
    pieces = c.pieces;
  }

  -- the facts that its step needs
  pub crewed_sound : (runner : Runner V Event) (began : Session) (at : Step) → IsCrewed options hall runner began at → IsSoundStep at
  crewed_sound runner began at c = stage_sound options (log_tree (seen_by runner.pass)) (at_stage runner.session (stage.Querying at)) c.stands.at.stands

  -- its statement hasn't ended
  pub crewed_more : (runner : Runner V Event) (began : Session) (at : Step) → IsCrewed options hall runner began at → runner.session.ended < length runner.session.pieces
  crewed_more runner began at c = let has = c.stands.at.stands.stage in slice_get_within runner.session.pieces runner.session.ended has.piece has.here

  -- it may do its event
  pub crewed_can : (runner : Runner V Event) (began : Session) (at : Step) → IsCrewed options hall runner began at → IsReady (stage.Querying at) → CanDo options hall (with_stage runner (stage.Querying at))
  crewed_can runner began at c ready = record { ours = c.ours; stands = c.stands; more = crewed_more runner began at c; ready = ready }

  -- ## It did an event

  pub crewed_done : (old new : Runner V Event) (began : Session) (at to : Step) → IsCrewed options hall old began at → HasDone options hall (with_stage old (stage.Querying at)) new → new.session.stage ≡ stage.Querying to
      → IsCrewed options hall (with_stage new stage.Between) began to
  crewed_done old new began at to c d is = record {
    ours = d.ours;
    stands = subst (IsWith options new.pass) (λ i. record (new.session) { stage = is i }) d.stands;
    wide = d.wide ∙ c.wide;
    number = d.number ∙ c.number;
    pieces = d.pieces ∙ c.pieces;
  }

-- ## What follows

step_same : (a b : Step) → stage.Querying a ≡ stage.Querying b → a ≡ b
step_same a b same = cc

pub looked_so : (q : RunningQuery) (n : ℕ) (key : Key) (to : Step) → Follows (stage.Querying (step.Asking q n key)) (stage.Querying to) → (pool : PoolState) × IsLooked q n pool key to
looked_so q n key to f = (f.1, subst (IsLooked q n f.1 key) (sym (step_same to f.0 f.2)) f.3)

pub offered_so : (q : RunningQuery) (n : ℕ) (offer : Offer) (to : Step) → Follows (stage.Querying (step.Offering q n offer)) (stage.Querying to) → (next : RunningQuery) × (id : ℕ) × (to ≡ step.Open next) × HasGained q n (obj.Bat offer.value) id q.work next
offered_so q n offer to f = (f.0, f.1, step_same to (step.Open f.0) f.2, f.3)

-- it has its event
pub asks_ready : (at : Step) → AsksOrOffers at → IsReady (stage.Querying at)
asks_ready (step.Asking q n key) asks = tt
asks_ready (step.Offering q n offer) offers = tt
asks_ready (step.Begun q) never = absurd never
asks_ready (step.Open q) never = absurd never
asks_ready (step.Found q n what parts) never = absurd never
asks_ready (step.Ending reply work) never = absurd never

-- after it the query goes on
pub goes_on : (at : Step) (next : Stage) → AsksOrOffers at → Follows (stage.Querying at) next → (to : Step) × (next ≡ stage.Querying to)
goes_on (step.Asking q n key) next asks f = (f.0, f.2)
goes_on (step.Offering q n offer) next offers f = (step.Open f.0, f.2)
goes_on (step.Begun q) next never f = absurd never
goes_on (step.Open q) next never f = absurd never
goes_on (step.Found q n what parts) next never f = absurd never
goes_on (step.Ending reply work) next never f = absurd never

-- ## What a look found serves

-- an instruction for which something was found has a value
pub serves_value : (q : RunningQuery) (n : ℕ) (instr : Instr) (what : Found) (parts : List CoverPiece) → what ≢ found.Miss → Serves q n instr what parts → value_at q n ≡ Some None → ⊥
serves_value q n instr (found.Exact id value) parts some serves none = serves
serves_value q n instr (found.Within id value) parts some serves none = let no = sym serves.5 ∙ none in cc
serves_value q n instr (found.Across count) parts some serves none = let no = sym serves.0 ∙ none in cc
serves_value q n instr found.Miss parts some serves none = some refl

-- ## How it ends

pub ends_so : (q : RunningQuery) (reply : Shown) (work : ℕ) → HasBefore q (length q.plan.instrs) → EndsWith q reply work → MayEnd q reply work
ends_so q reply work all (Overflows to n goes before unmarked none no_rows is zero_is) = WithNone no_rows is zero_is
ends_so q reply work all (HasRows to rows goes there some is counted) = WithRows rows all some is counted

-- where something was found, the result is computed and offered
pub becomes_offer : (q : RunningQuery) (n : ℕ) (instr : Instr) (what : Found) (parts : Vec CoverPiece Global) (to : Step) → what ≢ found.Miss → Serves q n instr what parts.items → BecomesOf q n instr what parts.items to
    → (r : RunningQuery) × (m : ℕ) × (offer : Offer) × (to ≡ step.Offering r m offer)
becomes_offer q n instr what parts (step.Offering r m offer) some serves b = (r, m, offer, refl)
becomes_offer q n instr what parts (step.Ending reply work) some serves b = absurd (serves_value q n instr what parts.items some serves b.0)
becomes_offer q n instr what parts (step.Begun r) some serves never = absurd never
becomes_offer q n instr what parts (step.Open r) some serves never = absurd never
becomes_offer q n instr what parts (step.Asking r m key) some serves never = absurd never
becomes_offer q n instr what parts (step.Found r m found others) some serves never = absurd never

-- ## How a query moves by an instruction

-- it has a value that was computed elsewhere, or offers it
pub value_moves : (q : RunningQuery) (n : ℕ) (value : Obj) (next : Step) → was_asked q n ≡ true → ComesOfValue q n value next → Moves (step.Open q) next
value_moves q n value (step.Open to) asked taken = Computes n value taken
value_moves q n value (step.Offering to at offer) asked c = subst (λ m. Moves (step.Open q) (step.Offering to m offer)) (sym c.1) (c.0, asked, c.2, c.3)
value_moves q n value (step.Begun to) asked never = absurd never
value_moves q n value (step.Asking to at key) asked never = absurd never
value_moves q n value (step.Found to at what parts) asked never = absurd never
value_moves q n value (step.Ending reply work) asked never = absurd never

-- it offers what it computed from what was found
pub reuse_moves : (q : RunningQuery) (n : ℕ) (instr : Instr) (what : Found) (parts : Vec CoverPiece Global) (next : Step) → IsAt q n instr → what ≢ found.Miss → Serves q n instr what parts.items → BecomesOf q n instr what parts.items next → Moves (step.Found q n what parts) next
reuse_moves q n instr what parts (step.Offering to at offer) here some serves b = (instr, here, b)
reuse_moves q n instr what parts (step.Ending reply work) here some serves b = absurd (serves_value q n instr what parts.items some serves b.0)
reuse_moves q n instr what parts (step.Begun to) here some serves never = absurd never
reuse_moves q n instr what parts (step.Open to) here some serves never = absurd never
reuse_moves q n instr what parts (step.Asking to at key) here some serves never = absurd never
reuse_moves q n instr what parts (step.Found to at others more) here some serves never = absurd never

-- the same from a query that had fewer results
pub gone_from : {V : Type 0} (options : PoolOptions) (hall : Hall V Event) (runner : Runner V Event) (began : Session) (q mid : RunningQuery) (before handed finished : List ℕ) (gone : Gone) → Gains q mid → IsGone options hall runner began mid before handed finished gone
    → IsGone options hall runner began q before handed finished gone
gone_from options hall runner began q mid before handed finished (On to) gains g = (g.0, g.1, (λ m there. g.2 m (gains m there)), g.3)
gone_from options hall runner began q mid before handed finished (Out to task) gains g = (g.0, g.1, (λ m there. g.2 m (gains m there)), g.3, g.4)

-- ## What an event leaves

pub looked_then : (q : RunningQuery) (n : ℕ) (key : Key) (asking to left : Step) → asking ≡ step.Asking q n key → to ≡ left → Follows (stage.Querying asking) (stage.Querying to) → (pool : PoolState) × IsLooked q n pool key left
looked_then q n key asking to left is same f =
    looked_so q n key left (subst (λ s. Follows (stage.Querying (step.Asking q n key)) (stage.Querying s)) same (subst (λ s. Follows (stage.Querying s) (stage.Querying to)) is f))

open_same : (a b : RunningQuery) → step.Open a ≡ step.Open b → a ≡ b
open_same a b same = cc

pub offered_then : (q : RunningQuery) (n : ℕ) (offer : Offer) (to : Step) (left : RunningQuery) → to ≡ step.Open left → Follows (stage.Querying (step.Offering q n offer)) (stage.Querying to) → HasNow q n left
offered_then q n offer to left is f =
    let o = offered_so q n offer to f in
    subst (HasNow q n) (open_same o.0 left (sym o.2 ∙ is)) (obj.Bat offer.value, o.1, q.work, o.3)

-- no other operator is a bind
pub bind_is : (o : Op) → is_bind o ≡ true → o ≡ op.Bind
bind_is op.Bind is = refl
bind_is _ is = absurd (let no : false ≡ true = is in cc)

-- ## Its query, taken out and put back

module _ {V : Type 0} (options : PoolOptions) (hall : Hall V Event) where
  -- the facts of its query don't depend on the stage
  pub crewed_stage : (runner : Runner V Event) (began : Session) (at : Step) (next : Stage) → IsCrewed options hall runner began at → IsCrewed options hall (with_stage runner next) began at
  crewed_stage runner began at next c = record { ours = c.ours; stands = c.stands; wide = c.wide; number = c.number; pieces = c.pieces }

  crew_query : (runner : Runner V Event) (began : Session) (handed finished : List ℕ) (k : IsCrew options hall runner began handed finished) (q : RunningQuery) → runner.session.stage ≡ stage.Querying (step.Open q) → k.query ≡ q
  crew_query runner began handed finished k q is = open_same k.query q (step_same (step.Open k.query) (step.Open q) (sym k.open_ ∙ is))

  pub crew_stands : (runner : Runner V Event) (began : Session) (handed finished : List ℕ) (q : RunningQuery) → IsCrew options hall runner began handed finished → runner.session.stage ≡ stage.Querying (step.Open q) → IsCrewed options hall runner began (step.Open q)
  crew_stands runner began handed finished q k is = subst (λ (r : RunningQuery). IsCrewed options hall runner began (step.Open r)) (crew_query runner began handed finished k q is) k.crewed

  pub crew_out : (runner : Runner V Event) (began : Session) (handed finished : List ℕ) (q : RunningQuery) → IsCrew options hall runner began handed finished → runner.session.stage ≡ stage.Querying (step.Open q) → IsOut (basis_of began.stage) q handed finished (λ n. ⊥)
  crew_out runner began handed finished q k is = subst (λ (r : RunningQuery). IsOut (basis_of began.stage) r handed finished (λ n. ⊥)) (crew_query runner began handed finished k q is) k.out

  -- where its query was taken out
  pub crew_taken : (runner left : Runner V Event) (began : Session) (handed finished : List ℕ) (q : RunningQuery) → IsCrew options hall runner began handed finished → runner.session.stage ≡ stage.Querying (step.Open q) → left ≡ with_stage runner stage.Between
      → IsCrewed options hall left began (step.Open q)
  crew_taken runner left began handed finished q k is left_is =
      subst (λ (r : Runner V Event). IsCrewed options hall r began (step.Open q)) (sym left_is) (crewed_stage runner began (step.Open q) stage.Between (crew_stands runner began handed finished q k is))

  -- and put back
  pub crew_back : (runner : Runner V Event) (began : Session) (handed finished : List ℕ) (q : RunningQuery) → IsCrewed options hall runner began (step.Open q) → IsOut (basis_of began.stage) q handed finished (λ n. ⊥)
      → IsCrew options hall (with_stage runner (stage.Querying (step.Open q))) began handed finished
  crew_back runner began handed finished q c o = record { query = q; open_ = refl; crewed = crewed_stage runner began (step.Open q) (stage.Querying (step.Open q)) c; out = o }

  -- where its query has just been opened
  pub crew_opened : (runner : Runner V Event) (q to : RunningQuery) → IsRunner options hall runner → runner.session.wide ≡ true → runner.session.stage ≡ stage.Querying (step.Begun q) → IsOpened q to
      → IsCrew options hall (with_stage runner (stage.Querying (step.Open to))) (at_stage runner.session (stage.Querying (step.Open to))) [] []
  crew_opened runner q to r wide is opened =
      let begun : IsCrewed options hall runner (at_stage runner.session (stage.Querying (step.Open to))) (step.Begun q) = record {
        ours = r.ours;
        stands = subst (IsWith options runner.pass) (λ i. record (runner.session) { stage = is i }) r.stands;
        wide = wide;
        number = refl;
        pieces = refl;
      } in
      crew_back runner (at_stage runner.session (stage.Querying (step.Open to))) [] [] to (crewed_moves options hall runner (at_stage runner.session (stage.Querying (step.Open to))) (step.Begun q) (step.Open to) begun opened) (out_opened q to opened)

  -- and where it ends
  pub ended_on : (other : Hall V Event) (began : Session) (before after : Runner V Event) → HasEnded options other began after → other ≡ hall → began.number ≡ before.session.number → began.pieces ≡ before.session.pieces → before.session.wide ≡ true
      → HasRunOn options hall before after
  ended_on other began before after e same number pieces wide = record {
    runner = record { ours = subst (λ (h : Hall V Event). IsPassOf h after.pass) same e.ours; stands = e.stands };
    number = e.number ∙ number;
    pieces = e.pieces ∙ pieces;
    wide = e.wide ∙ sym wide;
    aside = e.aside;
  }

-- ## Its end

-- where all results are there it ends
pub finish_moves : (q : RunningQuery) (to : Step) → HasBefore q (length q.plan.instrs) → ComesTo q to → Moves (step.Open q) to × IsAside (stage.Querying to)
finish_moves q (step.Ending reply work) all e = (ends_so q reply work all e, tt)
finish_moves q (step.Asking to n key) all c =
    let low = slice_get_within to.plan.instrs n c.2.instr c.2.at.here in
    let same = ap (λ (p : Plan). length p.instrs) c.0.plan_is in
    let there : has_result to n ≡ true = c.0.keeps n (all n (omega (arith, low, same))) in
    let open_ : has_result to n ≡ false = c.2.at.open_ in
    absurd (let no : true ≡ false = sym there ∙ open_ in cc)
finish_moves q (step.Begun to) all never = absurd never
finish_moves q (step.Open to) all never = absurd never
finish_moves q (step.Found to n what parts) all never = absurd never
finish_moves q (step.Offering to n offer) all never = absurd never
