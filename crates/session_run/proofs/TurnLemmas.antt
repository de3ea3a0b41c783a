-- A query asks the pool for a result, or offers one.
use Rattle.std.proofs.Common.{◌≡◌, ℕ, ◌+◌, ◌-◌, ◌≤◌, ◌<◌, List, [], ◌∷◌, ◌++◌, map, take, length, true, false, Some, refl, ap, sym, ◌∙◌, subst, arith}
use Rattle.std.specs.Prelude.{IsSome, Option, slice_get, unwrap_or}
use Rattle.std.specs.declared.vec.Vec.{Vec}
use Rattle.std.specs.declared.alloc.Global.{Global}
use Rattle.std.specs.List.{AllByRecursion}
use Rattle.std.proofs.lemmas.Option.{slice_get_within}
use Rattle.cell_core.specs.declared.operator.Arg.{Arg}
use Rattle.cell_core.specs.declared.operator.Arg.TheVariants.{Const, Var}
use Rattle.cell_core.specs.declared.operator.Instr.{Instr}
use Rattle.cell_core.specs.declared.operator.Value.{Value}
use Rattle.cell_core.specs.declared.operator.Value.TheVariants.{Bat, One}
use Rattle.cell_core.specs.Pairs.{Pairs, heads_of}
use Rattle.chunk_core.specs.Facts.{rises}
use Rattle.bat_core.specs.declared.shared.Obj.TheVariants as obj
use Rattle.mal_meaning.specs.declared.plan.Plan.{Plan}
use Rattle.mal_meaning.specs.Meaning.{arg_value, arg_values, instr_load, plan_values}
use Rattle.mal_exec.specs.Results.{known_of}
use Rattle.mal_check.specs.Checked.{plan_fault}
use Rattle.mal_check.specs.Runnable.{FitsDb}
use Rattle.recycle_mark.specs.Marks.{marks_of}
use Rattle.lineage_key.specs.declared.key.Key.{Key}
use Rattle.subsume.specs.Cutting.{Entry}
use Rattle.reuse_laws.specs.Reuse.{selected_in}
use Rattle.cell_core.specs.Merged.{merged}
use Rattle.pool_policy.specs.declared.entry.Who.{Who}
use Rattle.pool_policy.specs.declared.options.Admitted.{Admitted}
use Rattle.pool_policy.specs.declared.options.PoolOptions.{PoolOptions}
use Rattle.pool_policy.specs.Admits.{admit_of}
use Rattle.pool_policy.specs.Keeps.{Face, faces, value_in}
use Rattle.pool_policy.specs.Laws.{value_of}
use Rattle.pool_policy.specs.Looks.{Finding, look_of}
use Rattle.pool_policy.specs.Looks.Finding.{Exact, Within, Across, Miss}
use Rattle.pool_policy.specs.Pool.{PoolState}
use Rattle.pool_policy.specs.Versions.{Versions}
use Rattle.pool_policy.specs.Worths.{worth, WorthsStay}
use Rattle.recycle_pool.specs.Answers.{ArePooled, HandsOut, piece_in, told}
use Rattle.recycle_pool.specs.declared.found.Found.{Found}
use Rattle.recycle_pool.specs.declared.found.Found.TheVariants as found
use Rattle.recycle_pool.specs.declared.found.CoverPiece.{CoverPiece}
use Rattle.run_log.specs.Events.{ActTree, Looks, Admits, EventTree, looked_of}
use Rattle.run_log.specs.Fold.{LogState, after_admission, key_offer, run_of}
use Rattle.run_log.proofs.LogLemmas.{run_more}
use Rattle.book_core.specs.Lawful.{IsLawful}
use Rattle.book_core.specs.Offers.{CanOffer}
use Rattle.query_keys.specs.Keys.{instr_key}
use Rattle.query_keys.specs.Laws.{IsMarkedAt, id_given, value_there}
use Rattle.query_keys.specs.Laws.{Serves as ServesIn}
use Rattle.query_keys.proofs.OfferLemmas.{offers_fit_all}
use Rattle.query_keys.proofs.RangeLemmas.{found_serves_all}
use Rattle.query_keys.proofs.WorthLemmas.{given_are_worth_all}
use Rattle.query_run.specs.declared.step.RunningQuery.{RunningQuery}
use Rattle.query_run.specs.declared.step.Offer.{Offer}
use Rattle.query_run.specs.declared.step.Step.{Step}
use Rattle.query_run.specs.declared.step.Step.TheVariants as step
use Rattle.query_run.specs.Queries.{AsksFor, HasArgs, HasAsked, HasGained, IsAt, IsLooked, IsOffered, Serves, all_values, id_at, key_in, value_at, versions_in, was_asked}
use Rattle.query_run.proofs.WalkLemmas.{as_many_marks}
use Rattle.session_run.specs.declared.session.Session.{Session}
use Rattle.session_run.specs.declared.stage.Stage.TheVariants as stage
use Rattle.session_run.specs.Progress.{Asked, Got, Has, Progress, got_by, noted, progress_of}
use Rattle.session_run.specs.Turns.{AsReady, InPlan, IsKnown, IsNext, IsNextAct, IsQueryAct, MayAsk, MayOffer, Order, act_of_next, admit_at, key_at, look_at, state_before, who_at}
use Rattle.session_run.specs.Kept.{AreNoted, HasBegun, IsInTurn, IsNoted, IsRun, IsStage, IsStep, IsUnder, Knows, Stands, order_of, untold}
use Rattle.session_run.proofs.GainedLemmas.{asked_args, asked_at, asked_knows, asked_owes, asked_serves, asked_turn, asked_was, gained_knows, gained_owes, one_less}
use Rattle.session_run.proofs.LogLemmas.{state_remembers}
use Rattle.book_core.proofs.LawfulLemmas.{lawful_sound, worths_later}
use Rattle.session_run.proofs.NotedLemmas.{ids_front, ids_noted, length_taken, noted_asked, noted_gained}
use Rattle.session_run.proofs.OtherLemmas.{knows_stays}
use Rattle.session_run.proofs.OutsideLemmas.{instr_known, later_is, mark_known, next_asks, next_known, next_offers, open_noted, passed_all, restaged, value_known, values_known}
use Rattle.session_run.proofs.OweLemmas.{first_known, others_known, result_there}
use Rattle.session_run.proofs.OwnLemmas.{event_by, goes_stands, next_is}

-- ## Pieces

piece_value : (pool : PoolState) (part : CoverPiece) → value_in (faces pool.entries) part.id ≡ Some part.value → value_of pool part.id ≡ part.value
piece_value pool part pooled = ap (λ o. unwrap_or o []) pooled

pieces_same : (pool : PoolState) (parts : List CoverPiece) → ArePooled pool.entries parts
    → map (λ (piece : Entry). selected_in piece.1 (value_of pool piece.0)) (map piece_in parts) ≡ map (λ (part : CoverPiece). selected_in part.span part.value) parts
pieces_same pool [] are = refl
pieces_same pool (part ∷ parts) are =
    ap (λ value. selected_in part.span value ∷ map (λ (piece : Entry). selected_in piece.1 (value_of pool piece.0)) (map piece_in parts)) (piece_value pool part are.0)
    ∙ ap (λ more. selected_in part.span part.value ∷ more) (pieces_same pool parts are.1)

pieces_rise : (pool : PoolState) (parts : List CoverPiece) → ArePooled pool.entries parts → AllByRecursion (λ (piece : Entry). rises (heads_of (selected_in piece.1 (value_of pool piece.0))) ≡ true) (map piece_in parts)
    → AllByRecursion (λ (part : CoverPiece). rises (heads_of (selected_in part.span part.value)) ≡ true) parts
pieces_rise pool [] are rise = tt
pieces_rise pool (part ∷ parts) are rise =
    (ap (λ value. rises (heads_of (selected_in part.span value))) (sym (piece_value pool part are.0)) ∙ rise.0, pieces_rise pool parts are.1 rise.1)

-- ## Marked instructions

module _ (seen : LogState) (given : List Face) (plan : Plan) (q : RunningQuery) (k : Knows seen given plan q) (results : ℕ → Got) (noted_so : AreNoted results q) where
  versions_same : versions_in q.snap ≡ seen.versions
  versions_same = λ i table column. k.versions table column i

  pub key_known : (n : ℕ) (instr : Instr) → key_in q n instr ≡ instr_key instr seen.versions (take n q.ids.items)
  key_known n instr = ap (λ (versions : Versions). instr_key instr versions (take n q.ids.items)) versions_same

  many_marks : length (marks_of q.plan) ≡ length q.ids.items
  many_marks = as_many_marks q.plan ∙ sym k.under.ids

  -- the key is that of the log
  pub key_logged : (n : ℕ) (instr : Instr) → n ≤ length q.plan.instrs → key_at seen.versions results n instr ≡ key_in q n instr
  key_logged n instr within =
      ap (instr_key instr seen.versions) (ids_noted results q noted_so k.under n many_marks (let many = k.under.ids in omega (arith, many, within))) ∙ sym (key_known n instr)

  module _ (n : ℕ) (instr : Instr) (at : IsAt q n instr) where
    inside : n < length q.plan.instrs
    inside = slice_get_within q.plan.instrs n instr at.here

    taken_long : length (take n q.ids.items) ≡ n
    taken_long = length_taken q.ids.items n (let many = k.under.ids in let low = inside in omega (arith, many, low))

    pub instr_here : slice_get plan.instrs n ≡ Some instr
    instr_here = instr_known seen given plan q k n instr at.here

    pub marked_here : slice_get (marks_of plan) n ≡ Some true
    marked_here = ap (λ pl. slice_get (marks_of pl) n) (sym k.plan_is) ∙ at.marked

    -- its arguments are there, as the log has them
    pub args_logged : HasArgs q instr → AllByRecursion (IsKnown plan results) instr.args
    args_logged has = go instr.args has
      where
        go : (args : List Arg) → IsSome (arg_values (known_of q.values.items) args) → AllByRecursion (IsKnown plan results) args
        go [] has = tt
        go (Const cell ∷ args) has = (tt, go args (others_known (Some (One cell)) (arg_values (known_of q.values.items) args) has))
        go (Var m ∷ args) has =
            let there = result_there q m (first_known (arg_value (known_of q.values.items) (Var m)) (arg_values (known_of q.values.items) args) has) in (
              λ marked. (id_at q m, subst (λ b. IsNoted (results m) true b (id_at q m) (was_asked q m)) there (noted_so m true (mark_known seen given plan q k m true marked))),
              go args (others_known (arg_value (known_of q.values.items) (Var m)) (arg_values (known_of q.values.items) args) has),
            )

-- ## What a look found serves

-- from the laws of a state to what a query sees
module _ (seen s : LogState) (given : List Face) (plan : Plan) (q : RunningQuery) (k : Knows seen given plan q) (n : ℕ) (instr : Instr) (long : length (take n q.ids.items) ≡ n) (serves : ServesIn seen s plan (take n q.ids.items) instr) where
  abbrev key_seen : Key
  key_seen = instr_key instr seen.versions (take n q.ids.items)

  value_seen : (o : Option (Option Value)) → value_there seen plan (take n q.ids.items) ≡ o → value_at q n ≡ o
  value_seen o is = sym (value_known seen given plan q k n) ∙ ap (slice_get (plan_values seen.db plan.instrs)) (sym long) ∙ is

  found_serve : (what : Found) (parts : List CoverPiece) → told what parts ≡ look_of s.pool key_seen → HandsOut s.pool.entries what parts → ((id : ℕ) → look_of s.pool key_seen ≡ Exact id → ⊥) → Serves q n instr what parts
  found_serve (found.Exact id value) parts same out not_exact = not_exact id (sym same)
  found_serve (found.Within id value) parts same out not_exact =
      let w = serves.within id value (sym same) out.0 in
      (w.0, w.1, w.2, w.3, w.4, value_seen _ w.5)
  found_serve (found.Across count) parts same out not_exact =
      let a = serves.across (map piece_in parts) (sym same) in
      (value_seen _ a.0 ∙ ap (λ pieces. Some (Some (Bat (merged pieces)))) (pieces_same s.pool parts out.0), pieces_rise s.pool parts out.0 a.1)
  found_serve found.Miss parts same out not_exact = tt

-- a look that didn't find the result itself
pub in_vain : (at : ℕ) (finding : Finding) → ((id : ℕ) → finding ≡ Exact id → ⊥) → got_by at (looked_of finding) ≡ Asked at
in_vain at (Exact id) not_exact = absurd (not_exact id refl)
in_vain at (Within id) not_exact = refl
in_vain at (Across pieces) not_exact = refl
in_vain at Miss not_exact = refl

-- ## A query asks

module _ (options : PoolOptions) (log : List EventTree) (lawful : IsLawful options log) (x : Session) (s : Stands options log x) where
  abbrev now : LogState
  now = run_of options log

  abbrev p : Progress
  p = progress_of x.number log

  abbrev who : Who
  who = record { session = x.number; statement = x.ended + 1 }

  abbrev order : Order
  order = order_of x

  marked_at : (at : ℕ) (plan : Plan) (q : RunningQuery) (k : Knows (state_before options log at) now.given plan q) → AreNoted p.results q → (n : ℕ) (instr : Instr) → IsAt q n instr → IsMarkedAt (state_before options log at) now plan (take n q.ids.items) instr
  marked_at at plan q k noted_so n instr here =
      let seen = state_before options log at in
      let long = taken_long seen now.given plan q k p.results noted_so n instr here in
      record {
        checked = ap plan_fault (sym k.plan_is) ∙ k.under.checked;
        fits = subst (FitsDb plan) k.db (subst (λ pl. FitsDb pl q.snap.db) k.plan_is k.under.fits);
        here = ap (slice_get plan.instrs) long ∙ instr_here seen now.given plan q k p.results noted_so n instr here;
        marked = ap (slice_get (marks_of plan)) long ∙ marked_here seen now.given plan q k p.results noted_so n instr here;
        sound = lawful_sound options log lawful;
        remembers = state_remembers options log at lawful;
        ids_of = ids_front now.given q.ids.items (plan_values seen.db plan.instrs) n k.ids;
      }

  module _ (q : RunningQuery) (n : ℕ) (key : Key) (is : x.stage ≡ stage.Querying (step.Asking q n key)) where
    asking : HasBegun options log x p
    asking = subst (IsStage options log x p) is s.stage

    abbrev seen : LogState
    seen = state_before options log asking.at

    run : IsRun order seen now.given p.results asking.said (step.Asking q n key)
    run = subst (IsUnder order seen now.given p.results asking.said) is asking.under

    abbrev asked_plan : Plan
    asked_plan = run.plan

    abbrev asker_knows : Knows seen now.given asked_plan q
    asker_knows = run.step.0

    abbrev asker_noted : AreNoted p.results q
    asker_noted = run.step.1

    abbrev asks : AsksFor q n key
    asks = run.step.3

    abbrev look : ActTree
    look = Looks (n + 1) key (looked_of (look_of now.pool key))

    key_is : key ≡ key_at seen.versions p.results n asks.instr
    key_is = asks.key_is ∙ sym (key_logged seen now.given asked_plan q asker_knows p.results asker_noted n asks.instr (let low = slice_get_within q.plan.instrs n asks.instr asks.at.here in omega (arith, low)))

    look_is : look ≡ look_at now seen.versions p.results n asks.instr
    look_is = ap (λ (named : Key). Looks (n + 1) named (looked_of (look_of now.pool named))) key_is

    look_next : IsNextAct order options log (who_at x.number p) p p.begun asking.said look
    look_next =
        subst (λ b. IsNextAct order options log (who_at x.number p) p b asking.said look) (sym asking.begun)
        (later_is order seen now.given p.results asking.said run.plan run.does now (who_at x.number p) look (does order refl))
      where
        does : (o : Order) → order ≡ o → IsQueryAct o now (who_at x.number p) seen asked_plan p.results look
        does InPlan in_plan =
            let before = subst (λ o. IsInTurn o q n) in_plan run.step.5 in
            look_is ∙ sym (ap (act_of_next now (who_at x.number p) seen.versions p.results)
            (next_known order seen now.given p.results asking.said run.plan run.does q asker_knows
            ∙ passed_all p.results q asker_noted asker_knows.under n (let low = slice_get_within q.plan.instrs n asks.instr asks.at.here in omega (arith, low)) before
            ∙ next_asks p.results q asker_noted asker_knows.under n asks.instr asks.at run.step.4))
        does AsReady ready =
            MayAsk n asks.instr (instr_here seen now.given asked_plan q asker_knows p.results asker_noted n asks.instr asks.at) (marked_here seen now.given asked_plan q asker_knows p.results asker_noted n asks.instr asks.at)
            (subst (IsNoted (p.results n) true false (id_at q n)) run.step.4 (open_noted p.results q asker_noted asker_knows.under n asks.instr asks.at))
            (args_logged seen now.given asked_plan q asker_knows p.results asker_noted n asks.instr asks.at asks.args) look_is

    abbrev later : List EventTree
    later = log ++ event_by x look ∷ []

    abbrev behind : Finding → ℕ → Got
    behind finding = noted n (got_by (length log + 1) (looked_of finding)) p.results

    asked_key : key ≡ instr_key asks.instr seen.versions (take n q.ids.items)
    asked_key = asks.key_is ∙ key_known seen now.given asked_plan q asker_knows p.results asker_noted n asks.instr

    look_serves : ServesIn seen now asked_plan (take n q.ids.items) asks.instr
    look_serves = found_serves_all seen now asked_plan (take n q.ids.items) asks.instr (marked_at asking.at asked_plan q asker_knows asker_noted n asks.instr asks.at)

    asked_long : length (take n q.ids.items) ≡ n
    asked_long = taken_long seen now.given asked_plan q asker_knows p.results asker_noted n asks.instr asks.at

    run_behind : (given : List Face) (results : ℕ → Got) (at : Step) → IsStep order seen given asked_plan results at → IsRun order seen given results asking.said at
    run_behind given results at step = record { plan = run.plan; does = run.does; step = step }

    gained : (given : List Face) → WorthsStay now.given given → (to : RunningQuery) (value : Pairs) (id : ℕ) → HasGained q n (obj.Bat value) id q.work to → look_of now.pool key ≡ Exact id → value_in (faces now.pool.entries) id ≡ Some value
        → IsUnder order seen given (behind (look_of now.pool key)) asking.said (stage.Querying (step.Open to))
    gained given stay to value id g exact pooled =
        let serves = look_serves.exact id value (subst (λ named. look_of now.pool named ≡ Exact id) asked_key exact) pooled in
        let value_is : value_at q n ≡ Some (Some (Bat value)) = sym (value_known seen now.given asked_plan q asker_knows n) ∙ ap (slice_get (plan_values seen.db asked_plan.instrs)) (sym asked_long) ∙ serves.0 in
        subst (λ (finding : Finding). IsRun order seen given (behind finding) asking.said (step.Open to)) (sym exact)
        (run_behind given (behind (Exact id)) (step.Open to) (
          gained_knows seen given asked_plan q (knows_stays seen now.given given stay asked_plan q asker_knows) n asks.instr asks.at value id to value_is g (λ above. stay id (subst (λ o. IsSome o) (sym serves.1) refl) ∙ serves.1),
          noted_gained p.results q to n asks.instr asks.at asker_knows.under asker_noted (obj.Bat value) id q.work g,
          gained_owes order q to n asks.instr asks.at asker_knows.under value id g (λ m none. absurd none) run.step.2,
        ))

    found_behind : (given : List Face) → WorthsStay now.given given → (to : RunningQuery) (what : Found) (parts : Vec CoverPiece Global) → HasAsked q n to → told what parts.items ≡ look_of now.pool key → HandsOut now.pool.entries what parts.items
        → ((id : ℕ) → look_of now.pool key ≡ Exact id → ⊥) → IsUnder order seen given (behind (look_of now.pool key)) asking.said (stage.Querying (step.Found to n what parts))
    found_behind given stay to what parts a same out not_exact =
        let keyed = ap (look_of now.pool) asked_key in
        let serves = found_serve seen now now.given asked_plan q asker_knows n asks.instr asked_long look_serves what parts.items (same ∙ keyed) out (λ id exact. not_exact id (keyed ∙ exact)) in
        subst (λ (got : Got). IsRun order seen given (noted n got p.results) asking.said (step.Found to n what parts)) (sym (in_vain (length log + 1) (look_of now.pool key) not_exact))
        (run_behind given (noted n (Asked (length log + 1)) p.results) (step.Found to n what parts) (
          asked_knows seen given asked_plan q (knows_stays seen now.given given stay asked_plan q asker_knows) n to a,
          noted_asked p.results q to n asks.instr asks.at asker_knows.under asker_noted (length log + 1) a,
          asked_owes q to n a order run.step.2,
          asked_was q to n a asks.instr asks.at asker_knows.under,
          asked_turn q to n a order run.step.5,
          (asks.instr, asked_at q to n a asks.instr asks.at, asked_args q to n a asks.instr asks.args, asked_serves q to n a asks.instr what parts.items serves),
        ))

    looked_under : (given : List Face) → WorthsStay now.given given → (to : Step) → IsLooked q n now.pool key to → IsUnder order seen given (behind (look_of now.pool key)) asking.said (stage.Querying to)
    looked_under given stay (step.Open to) l = gained given stay to l.1 l.0 l.2 l.3 l.4
    looked_under given stay (step.Found to at what parts) l =
        subst (λ m. IsUnder order seen given (behind (look_of now.pool key)) asking.said (stage.Querying (step.Found to m what parts))) (sym l.0) (found_behind given stay to what parts l.1 l.2 l.3 l.4)
    looked_under given stay (step.Begun to) none = absurd none
    looked_under given stay (step.Asking to m named) none = absurd none
    looked_under given stay (step.Offering to m offer) none = absurd none
    looked_under given stay (step.Ending reply work) none = absurd none

    -- a query has looked
    pub query_looks : (to : Step) (work : ℕ) → IsLawful options later → IsLooked q n now.pool key to → IsNext order options x.pieces x.number log (event_by x look) × Stands options later (restaged x work (stage.Querying to))
    query_looks to work lawful_later looks = (
      next_is options log x s asking.piece asking.here asking.said asking.read look look_next,
      goes_stands options log x s look work (stage.Querying to) refl (ap (untold x.ended) is) refl refl refl asking
          (subst (λ m. IsUnder order seen (run_of options later).given (noted m (got_by (length log + 1) (looked_of (look_of now.pool key))) p.results) asking.said (stage.Querying to)) (sym (one_less n))
          (looked_under (run_of options later).given (worths_later options log (event_by x look ∷ []) lawful_later) to looks)) (λ has. has),
    )

  -- ## A query offers

  module _ (q : RunningQuery) (n : ℕ) (offer : Offer) (is : x.stage ≡ stage.Querying (step.Offering q n offer)) where
    offering : HasBegun options log x p
    offering = subst (IsStage options log x p) is s.stage

    abbrev since : LogState
    since = state_before options log offering.at

    offers : IsRun order since now.given p.results offering.said (step.Offering q n offer)
    offers = subst (IsUnder order since now.given p.results offering.said) is offering.under

    abbrev plan : Plan
    plan = offers.plan

    abbrev knows : Knows since now.given plan q
    knows = offers.step.0

    abbrev noted_so : AreNoted p.results q
    noted_so = offers.step.1

    abbrev instr : Instr
    instr = offers.step.5.0

    abbrev at : IsAt q n instr
    at = offers.step.5.1

    offered : IsOffered q n instr offer
    offered = offers.step.5.2

    offer_key : offer.key ≡ instr_key instr since.versions (take n q.ids.items)
    offer_key = offered.key ∙ key_known since now.given plan q knows p.results noted_so n instr

    long : length (take n q.ids.items) ≡ n
    long = taken_long since now.given plan q knows p.results noted_so n instr at

    value_now : slice_get (plan_values since.db plan.instrs) n ≡ Some (Some (Bat offer.value))
    value_now = value_known since now.given plan q knows n ∙ offered.value

    value_is : value_there since plan (take n q.ids.items) ≡ Some (Some (Bat offer.value))
    value_is = ap (slice_get (plan_values since.db plan.instrs)) long ∙ value_now

    offer_marked : IsMarkedAt since now plan (take n q.ids.items) instr
    offer_marked = marked_at offering.at plan q knows noted_so n instr at

    load_is : offer.work ≡ instr_load since.db (plan_values since.db plan.instrs) instr
    load_is =
        offered.work ∙ ap (λ db. instr_load db (all_values q) instr) knows.db
        ∙ ap (λ values. instr_load since.db values instr) (sym (values_known since now.given plan q knows))

    -- it may
    pub query_can_offer : CanOffer offer.key offer.value offer.work now
    query_can_offer =
        let may = offers_fit_all since now plan (take n q.ids.items) instr offer.value offer_marked value_is in
        subst (λ (key : Key). CanOffer key offer.value offer.work now) (sym offer_key) (record {
          few = may.few;
          named = may.named;
          small = offered.small;
          bound = λ bind present. let both = may.bound bind present in (both.0, load_is ∙ both.1);
          computed = λ plain above. let both = may.computed plain above in (both.0, load_is ∙ both.1);
        })

    abbrev answer_of : Who → Key → Admitted
    answer_of by key = (admit_of by (now.at + 1) (key_offer key now) now.pool).0

    abbrev admission : ActTree
    admission = Admits (n + 1) offer.key (answer_of who offer.key)

    abbrev id : ℕ
    id = id_given (answer_of who offer.key)

    admission_is : admission ≡ admit_at now (who_at x.number p) since.versions p.results n instr
    admission_is =
        ap (λ m. Admits (n + 1) offer.key (answer_of (record { session = x.number; statement = m + 1 }) offer.key)) (sym s.ended)
        ∙ ap (λ (key : Key). Admits (n + 1) key (answer_of (who_at x.number p) key))
        (offered.key ∙ sym (key_logged since now.given plan q knows p.results noted_so n instr (let low = slice_get_within q.plan.instrs n instr at.here in omega (arith, low))))

    admission_next : IsNextAct order options log (who_at x.number p) p p.begun offering.said admission
    admission_next =
        subst (λ b. IsNextAct order options log (who_at x.number p) p b offering.said admission) (sym offering.begun)
        (later_is order since now.given p.results offering.said offers.plan offers.does now (who_at x.number p) admission (does order refl))
      where
        does : (o : Order) → order ≡ o → IsQueryAct o now (who_at x.number p) since plan p.results admission
        does InPlan in_plan =
            let before = subst (λ o. IsInTurn o q n) in_plan offers.step.4 in
            admission_is ∙ sym (ap (act_of_next now (who_at x.number p) since.versions p.results)
            (next_known order since now.given p.results offering.said offers.plan offers.does q knows
            ∙ passed_all p.results q noted_so knows.under n (let low = slice_get_within q.plan.instrs n instr at.here in omega (arith, low)) before
            ∙ next_offers p.results q noted_so knows.under n instr at offers.step.3 (Some (Bat offer.value)) offered.value))
        does AsReady ready =
            let got = subst (IsNoted (p.results n) true false (id_at q n)) offers.step.3 (open_noted p.results q noted_so knows.under n instr at) in
            MayOffer n got.0 instr (Bat offer.value) (instr_here since now.given plan q knows p.results noted_so n instr at) got.1 value_now admission_is

    abbrev admitted : List EventTree
    admitted = log ++ event_by x admission ∷ []

    -- its new id is worth its value
    given_worth : 0 < id → worth (run_of options admitted).given id ≡ Some offer.value
    given_worth above =
        ap (λ (t : LogState). worth t.given id) (run_more options log (event_by x admission))
        ∙ subst (λ (key : Key). 0 < id_given (answer_of who key) → worth (after_admission (admit_of who (now.at + 1) (key_offer key now) now.pool) now).given (id_given (answer_of who key)) ≡ Some offer.value) (sym offer_key)
        (given_are_worth_all since now plan (take n q.ids.items) instr offer.value who offer_marked value_is) above

    -- a query has offered
    pub query_offers : (to : RunningQuery) (work : ℕ) → HasGained q n (obj.Bat offer.value) id q.work to → IsLawful options admitted
        → IsNext order options x.pieces x.number log (event_by x admission) × Stands options admitted (restaged x work (stage.Querying (step.Open to)))
    query_offers to work g lawful_later = (
      next_is options log x s offering.piece offering.here offering.said offering.read admission admission_next,
      goes_stands options log x s admission work (stage.Querying (step.Open to)) refl (ap (untold x.ended) is) refl refl refl offering
          (subst (λ m. IsUnder order since (run_of options admitted).given (noted m (Has id) p.results) offering.said (stage.Querying (step.Open to))) (sym (one_less n)) (record {
            plan = offers.plan;
            does = offers.does;
            step = (
              gained_knows since (run_of options admitted).given plan q (knows_stays since now.given (run_of options admitted).given (worths_later options log (event_by x admission ∷ []) lawful_later) plan q knows)
                  n instr at offer.value id to offered.value g given_worth,
              noted_gained p.results q to n instr at knows.under noted_so (obj.Bat offer.value) id q.work g,
              gained_owes order q to n instr at knows.under offer.value id g (λ m is_n. is_n) offers.step.2,
            );
          }))
          (λ has. has),
    )
