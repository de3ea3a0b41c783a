-- The events of a session stay in order, whatever event comes next.
use Rattle.std.proofs.Common.{◌≡◌, ℕ, ◌+◌, ◌≤◌, List, [], ◌∷◌, ◌++◌, map, take, length, Bool, false, true, Option, Some, None, refl, ap, sym, ◌∙◌, subst, arith}
use Rattle.std.specs.Prelude.{slice_get, ◌==◌}
use Rattle.std.proofs.lemmas.List.{append_assoc, append-nil, length-take-le, map-append}
use Rattle.std.proofs.lemmas.Option.{same_Some}
use Rattle.cell_core.specs.declared.table.Db.{Db}
use Rattle.pool_policy.specs.declared.options.PoolOptions.{PoolOptions}
use Rattle.pool_policy.proofs.Ends.{all_append}
use Rattle.read_laws.specs.Answered.{EachReadsAsOne, Reads}
use Rattle.run_log.specs.Events.{ActTree, Ends, EventTree}
use Rattle.run_log.specs.Fold.{run_of}
use Rattle.reply_layout.specs.Doings.{code_of}
use Rattle.answer_text.specs.Log.{AreActs, AreStatements, Said, acts_over, doing_over, is_of_pool, is_opening, logged_of, runs_plan, shown_over, tables_met, with_between}
use Rattle.session_run.specs.declared.session.Session.{Session}
use Rattle.session_run.specs.Progress.{Progress, progress_by, progress_of}
use Rattle.read_laws.specs.Readings.{AreReadings}
use Rattle.session_run.specs.declared.stage.Stage.{Stage}
use Rattle.session_run.specs.declared.stage.Stage.TheVariants as stage
use Rattle.session_run.specs.Kept.{HasBegun, IsStage, Stands, opened as placed_now}
use Rattle.session_run.specs.Turns.{IsNext, IsNextAct, Order, state_before, who_at}
use Rattle.session_run.proofs.LogLemmas.{ArePlaced, other_progress, own_progress, place_next, tables_next, tables_stay}
use Rattle.session_run.proofs.OwnLemmas.{begun_met}
use Rattle.session_run.proofs.OtherLemmas.{opened_above, readings_count, stands_placed}
use Rattle.run_sessions.specs.Ordered.{HasOpened, IsInOrder, IsOpenedAs}
use Rattle.run_sessions.proofs.ActLemmas.{Closes, GoesOnAs, Opens, Pooled, StartsAs, Whole, goes_on_as, pooled_begun, pooled_ended, starts_as}
use Rattle.run_sessions.proofs.ListedLemmas.{logged_other, logged_own, readings_next, statements_next, statements_stay}

-- the statements of a session that have ended have readings
order_count : (log : List EventTree) (x : Session) (o : IsInOrder log x) → x.ended ≤ length x.pieces → length o.readings ≡ x.ended
order_count log x o within = readings_count (take x.ended x.pieces) o.readings o.read ∙ length-take-le x.ended x.pieces within

-- a session that has not begun has no events
pub new_ordered : (options : PoolOptions) (x : Session) → Stands options [] x → IsInOrder [] x
new_ordered options x s = record {
  readings = [];
  read = subst (λ n. AreReadings (take n x.pieces) []) s.ended tt;
  finished = [];
  opened = [];
  logged = refl;
  statements = refl;
  open_ = refl;
}

not_both : (o : Option ℕ) (at : ℕ) → o ≡ None → o ≡ Some at → ⊥
not_both None at none some = cc
not_both (Some n) at none some = cc

true_not_false : (b : Bool) → b ≡ true → b ≡ false → ⊥
true_not_false true is none = cc
true_not_false false is none = cc

-- ## The session under other names

module _ (log : List EventTree) (x y : Session) where
  abbrev between_them : Session
  between_them = record y { number = x.number; pieces = x.pieces; ended = x.ended }

  opened_here : (begun : Option ℕ) (acts : List (ℕ × ActTree)) → IsOpenedAs log x begun acts → IsOpenedAs log between_them begun acts
  opened_here None acts is = is
  opened_here (Some at) acts is = record {
    piece = is.piece;
    here = is.here;
    reading = is.reading;
    read = is.read;
    first = is.first;
    opens = is.opens;
    between = is.between;
    pool = is.pool;
    planned = is.planned;
    acts_are = is.acts_are;
  }

  ordered_here : IsInOrder log x → IsInOrder log between_them
  ordered_here o = record {
    readings = o.readings;
    read = o.read;
    finished = o.finished;
    opened = o.opened;
    logged = o.logged;
    statements = o.statements;
    open_ = opened_here (progress_of x.number log).begun o.opened o.open_;
  }

  -- it goes by its number, its texts and how many of them have ended
  pub ordered_as : x.number ≡ y.number → x.pieces ≡ y.pieces → x.ended ≡ y.ended → IsInOrder log x → IsInOrder log y
  ordered_as number pieces ended o = subst (IsInOrder log) (λ i. record y { number = number i; pieces = pieces i; ended = ended i }) (ordered_here o)

-- ## One more event

module _ (options : PoolOptions) (log : List EventTree) (x : Session) (s : Stands options log x) (event : EventTree) where
  abbrev later : List EventTree
  later = log ++ event ∷ []

  abbrev p : Progress
  p = progress_of x.number log

  -- the tables of the statements that have ended, and of one that has begun
  met_before : (j : ℕ) → 1 ≤ j → j ≤ placed_now p p.begun → tables_met later x.number j ≡ tables_met log x.number j
  met_before j low high = tables_stay x.number j log event (s.placed j low high)

  ended_before : (j : ℕ) → 1 ≤ j → j ≤ x.ended → tables_met later x.number j ≡ tables_met log x.number j
  ended_before j low high = let ended = s.ended in let above = opened_above p p.begun in met_before j low (omega (arith, high, ended, above))

  finished_stay : (o : IsInOrder log x) → AreStatements later x.number 1 o.readings o.finished
  finished_stay o =
      let count = order_count log x o s.within in
      statements_stay log later x.number 1 o.readings o.finished (λ j low high. ended_before j low (omega (arith, high, count))) o.statements

  -- what holds of the present statement's tables holds after the event
  met_now : (at : ℕ) → p.begun ≡ Some at → tables_met later x.number (x.ended + 1) ≡ tables_met log x.number (x.ended + 1)
  met_now at begun =
      let ended = s.ended in
      let placed : placed_now p p.begun ≡ p.ended + 1 = ap (placed_now p) begun in
      met_before (x.ended + 1) (omega arith) (omega (arith, placed, ended))

  opens_later : (at : ℕ) → p.begun ≡ Some at → (reading : Said) (first : ActTree)
      → acts_over (tables_met log x.number (x.ended + 1)) reading ≡ first ∷ Ends (code_of (shown_over (tables_met log x.number (x.ended + 1)) reading)) ∷ []
      → acts_over (tables_met later x.number (x.ended + 1)) reading ≡ first ∷ Ends (code_of (shown_over (tables_met later x.number (x.ended + 1)) reading)) ∷ []
  opens_later at begun reading first opens =
      subst (λ (db : Db). acts_over db reading ≡ first ∷ Ends (code_of (shown_over db reading)) ∷ []) (sym (met_now at begun)) opens

  -- by the same tables it has a plan, or none
  planned_later : (at : ℕ) → p.begun ≡ Some at → (reading : Said) (between : List ActTree) → (runs_plan (doing_over (tables_met log x.number (x.ended + 1)) reading) ≡ false → between ≡ [])
      → runs_plan (doing_over (tables_met later x.number (x.ended + 1)) reading) ≡ false → between ≡ []
  planned_later at begun reading between planned none = planned (ap (λ (db : Db). runs_plan (doing_over db reading)) (sym (met_now at begun)) ∙ none)

  -- these are the tables by which it began
  met_begun : (at : ℕ) → p.begun ≡ Some at → tables_met log x.number (x.ended + 1) ≡ (state_before options log at).db
  met_begun at begun = go x.stage s.stage
    where
      by_begin : HasBegun options log x p → tables_met log x.number (x.ended + 1) ≡ (state_before options log at).db
      by_begin has = begun_met options log x s has ∙ ap (λ n. (state_before options log n).db) (same_Some has.at at (sym has.begun ∙ begun))

      go : (now : Stage) → IsStage options log x p now → tables_met log x.number (x.ended + 1) ≡ (state_before options log at).db
      go stage.Between none = absurd (not_both p.begun at none begun)
      go (stage.Reading read) is = absurd (not_both p.begun at is.0 begun)
      go (stage.Telling reply) is = absurd (not_both p.begun at is.0 begun)
      go (stage.Querying step) has = by_begin has
      go (stage.Explaining plan) has = by_begin has

  -- ## Of another session

  others_opened : (begun : Option ℕ) → p.begun ≡ begun → (acts : List (ℕ × ActTree)) → IsOpenedAs log x begun acts → IsOpenedAs later x begun acts
  others_opened None is acts none = none
  others_opened (Some at) is acts has = record {
    piece = has.piece;
    here = has.here;
    reading = has.reading;
    read = has.read;
    first = has.first;
    opens = opens_later at is has.reading has.first has.opens;
    between = has.between;
    pool = has.pool;
    planned = planned_later at is has.reading has.between has.planned;
    acts_are = has.acts_are;
  }

  -- the events of a session stay in order after an event of another
  pub others_ordered : (event.session == x.number) ≡ false → IsInOrder log x → IsInOrder later x
  others_ordered other o = record {
    readings = o.readings;
    read = o.read;
    finished = o.finished;
    opened = o.opened;
    logged = logged_other x.number log event other ∙ o.logged;
    statements = finished_stay o;
    open_ = subst (λ (q : Progress). IsOpenedAs later x q.begun o.opened) (sym (other_progress x.number log event other)) (others_opened p.begun refl o.opened o.open_);
  }

  -- ## Its own

  module _ (each : EachReadsAsOne) (order : Order) (next : IsNext order options x.pieces x.number log event)
      (ends : (code : ℕ) → event.act ≡ Ends code → code ≡ code_of (shown_over (tables_met log event.session event.statement) next.reading)) (o : IsInOrder log x) where
    abbrev q : Progress
    q = progress_by (length log + 1) event.act p

    own : event.session ≡ x.number
    own = next.own

    numbered : event.statement ≡ x.ended + 1
    numbered = next.numbered ∙ ap (λ n. n + 1) s.ended

    text_here : slice_get x.pieces x.ended ≡ Some next.piece
    text_here = ap (slice_get x.pieces) (sym s.ended) ∙ next.here

    progress_is : progress_of x.number later ≡ q
    progress_is = own_progress x.number log event own

    -- what the log has of the session then
    logged_then : logged_of x.number later ≡ (o.finished ++ o.opened) ++ (x.ended + 1, event.act) ∷ []
    logged_then = logged_own x.number log event own ∙ (λ i. o.logged i ++ (numbered i, event.act) ∷ [])

    -- the session after the event
    abbrev ended_at : ℕ → Session
    ended_at n = record x { ended = n }

    -- a statement is finished
    finishes : (acts : List ActTree) (reading : Said) → Reads next.piece reading → AreActs (tables_met later x.number (x.ended + 1)) reading acts
        → o.opened ++ (x.ended + 1, event.act) ∷ [] ≡ map {B = ℕ × ActTree} (λ act. (x.ended + 1, act)) acts → q.begun ≡ None → IsInOrder later (ended_at (x.ended + 1))
    finishes acts reading read are same none = record {
      readings = o.readings ++ reading ∷ [];
      read = readings_next x.pieces x.ended o.readings next.piece reading text_here o.read read;
      finished = o.finished ++ map {B = ℕ × ActTree} (λ act. (x.ended + 1, act)) acts;
      opened = [];
      logged = logged_then ∙ append_assoc o.finished o.opened ((x.ended + 1, event.act) ∷ []) ∙ ap (λ more. o.finished ++ more) same ∙ sym (append-nil (o.finished ++ map {B = ℕ × ActTree} (λ act. (x.ended + 1, act)) acts));
      statements = (let count = order_count log x o s.within in
          statements_next later x.number 1 (x.ended + 1) o.readings reading o.finished acts (omega (arith, count)) are (finished_stay o));
      open_ = subst (λ begun. IsOpenedAs later (ended_at (x.ended + 1)) begun []) (sym (ap (λ (r : Progress). r.begun) progress_is ∙ none)) refl;
    }

    -- a statement has begun
    stays_open : (at : ℕ) → q.begun ≡ Some at → (acts : List (ℕ × ActTree)) → HasOpened later x acts → acts ≡ o.opened ++ (x.ended + 1, event.act) ∷ [] → IsInOrder later x
    stays_open at begun acts has same = record {
      readings = o.readings;
      read = o.read;
      finished = o.finished;
      opened = acts;
      logged = logged_then ∙ append_assoc o.finished o.opened ((x.ended + 1, event.act) ∷ []) ∙ ap (λ more. o.finished ++ more) (sym same);
      statements = finished_stay o;
      open_ = subst (λ begun. IsOpenedAs later x begun acts) (sym (ap (λ (r : Progress). r.begun) progress_is ∙ begun)) has;
    }

    module _ (y : Session) (number : y.number ≡ x.number) (pieces : y.pieces ≡ x.pieces) (ended : y.ended ≡ (progress_of x.number later).ended) where
      ended_is : y.ended ≡ q.ended
      ended_is = ended ∙ ap (λ (r : Progress). r.ended) progress_is

      abbrev entry : ℕ × ActTree
      entry = (x.ended + 1, event.act)

      abbrev with_number : ActTree → ℕ × ActTree
      with_number act = (x.ended + 1, act)

      -- nothing has begun
      module _ (none : p.begun ≡ None) where
        nothing_opened : o.opened ≡ []
        nothing_opened = subst (λ begun. IsOpenedAs log x begun o.opened) none o.open_

        met_next : is_opening event.act ≡ true → tables_met later x.number (x.ended + 1) ≡ (run_of options log).db
        met_next opening =
            let placed : placed_now p p.begun ≡ x.ended = ap (placed_now p) none ∙ s.ended in
            tables_next options x.number (x.ended + 1) log event
            (place_next x.number x.ended log event own numbered opening (subst (λ n. ArePlaced x.number n log) placed (stands_placed options log x s)))

        starts : StartsAs (run_of options log).db next.reading event.act → IsInOrder later y
        starts (Whole statement code count is over) =
            let met = met_next (ap is_opening is) in
            let acts : event.act ∷ [] ≡ with_between [] (acts_over (tables_met later x.number (x.ended + 1)) next.reading) = sym (ap (with_between []) (ap (λ (db : Db). acts_over db next.reading) met ∙ over)) in
            let many : x.ended + 1 ≡ y.ended = sym (ended_is ∙ ap (λ a. (progress_by (length log + 1) a p).ended) is ∙ ap (λ n. n + 1) s.ended) in
            ordered_as later (ended_at (x.ended + 1)) y (sym number) (sym pieces) many
            (finishes (event.act ∷ []) next.reading next.read ([], tt, (λ none. refl), acts) (ap (λ before. before ++ entry ∷ []) nothing_opened) (ap (λ a. (progress_by (length log + 1) a p).begun) is ∙ none))
        starts (Opens code plan is over) =
            let met = met_next (ap is_opening is) in
            let many : x.ended ≡ y.ended = sym (ended_is ∙ ap (λ a. (progress_by (length log + 1) a p).ended) is ∙ s.ended) in
            let has : HasOpened later x (entry ∷ []) = record {
              piece = next.piece;
              here = text_here;
              reading = next.reading;
              read = next.read;
              first = event.act;
              opens = subst (λ (db : Db). acts_over db next.reading ≡ event.act ∷ Ends (code_of (shown_over db next.reading)) ∷ []) (sym met) over;
              between = [];
              pool = tt;
              planned = λ none. refl;
              acts_are = refl;
            } in
            ordered_as later x y (sym number) (sym pieces) many
            (stays_open (length log + 1) (ap (λ a. (progress_by (length log + 1) a p).begun) is) (entry ∷ []) has (sym (ap (λ before. before ++ entry ∷ []) nothing_opened)))

      -- a statement has begun
      module _ (at : ℕ) (is_begun : p.begun ≡ Some at) where
        abbrev under : HasOpened log x o.opened
        under = subst (λ begun. IsOpenedAs log x begun o.opened) is_begun o.open_

        acts_then : o.opened ++ entry ∷ [] ≡ map with_number (under.first ∷ (under.between ++ event.act ∷ []))
        acts_then = ap (λ before. before ++ entry ∷ []) under.acts_are ∙ sym (map-append with_number (under.first ∷ under.between) (event.act ∷ []))

        text_same : under.piece ≡ next.piece
        text_same = same_Some under.piece next.piece (sym under.here ∙ text_here)

        read_under : Reads next.piece under.reading
        read_under = subst (λ piece. Reads piece under.reading) text_same under.read

        reading_same : next.reading ≡ under.reading
        reading_same = each next.piece next.reading under.reading next.read read_under

        -- where the plan of one reading is run by the state at the Begin, so is that of the other by the tables that it meets
        runs_later : runs_plan (doing_over (state_before options log at).db next.reading) ≡ true → runs_plan (doing_over (tables_met later x.number (x.ended + 1)) under.reading) ≡ true
        runs_later runs =
            ap (λ (db : Db). runs_plan (doing_over db under.reading)) (met_now at is_begun ∙ met_begun at is_begun)
            ∙ ap (λ (r : Said). runs_plan (doing_over (state_before options log at).db r)) (sym reading_same) ∙ runs

        goes_on : GoesOnAs (runs_plan (doing_over (state_before options log at).db next.reading)) event.act → IsInOrder later y
        goes_on (Pooled is runs) =
            let many : x.ended ≡ y.ended = sym (ended_is ∙ pooled_ended (length log + 1) event.act p is ∙ s.ended) in
            let has : HasOpened later x (o.opened ++ entry ∷ []) = record {
              piece = under.piece;
              here = under.here;
              reading = under.reading;
              read = under.read;
              first = under.first;
              opens = opens_later at is_begun under.reading under.first under.opens;
              between = under.between ++ event.act ∷ [];
              pool = all_append (λ act. is_of_pool act ≡ true) under.between (event.act ∷ []) under.pool (is, tt);
              planned = λ none. absurd (true_not_false _ (runs_later runs) none);
              acts_are = acts_then;
            } in
            ordered_as later x y (sym number) (sym pieces) many (stays_open at (pooled_begun (length log + 1) event.act p is ∙ is_begun) (o.opened ++ entry ∷ []) has refl)
        goes_on (Closes code is) =
            let many : x.ended + 1 ≡ y.ended = sym (ended_is ∙ ap (λ a. (progress_by (length log + 1) a p).ended) is ∙ ap (λ n. n + 1) s.ended) in
            let last : event.act ≡ Ends (code_of (shown_over (tables_met later x.number (x.ended + 1)) under.reading)) =
            is ∙ ap Ends (ends code is ∙ (λ i. code_of (shown_over (tables_met log (own i) (numbered i)) (reading_same i))) ∙ ap (λ (db : Db). code_of (shown_over db under.reading)) (sym (met_now at is_begun))) in
            let acts : under.first ∷ (under.between ++ event.act ∷ []) ≡ with_between under.between (acts_over (tables_met later x.number (x.ended + 1)) under.reading) =
            ap (λ a. under.first ∷ (under.between ++ a ∷ [])) last ∙ sym (ap (with_between under.between) (opens_later at is_begun under.reading under.first under.opens)) in
            ordered_as later (ended_at (x.ended + 1)) y (sym number) (sym pieces) many
            (finishes (under.first ∷ (under.between ++ event.act ∷ [])) under.reading read_under (under.between, under.pool, planned_later at is_begun under.reading under.between under.planned, acts) acts_then (ap (λ a. (progress_by (length log + 1) a p).begun) is))

      -- they stay in order after an event of its own
      pub own_ordered : IsInOrder later y
      own_ordered = go p.begun refl
        where
          go : (begun : Option ℕ) → p.begun ≡ begun → IsInOrder later y
          go None is =
              let act = subst (λ b. IsNextAct order options log (who_at x.number p) p b next.reading event.act) is next.act in
              starts is (starts_as (run_of options log).db next.reading event.act act)
          go (Some at) is =
              let act = subst (λ b. IsNextAct order options log (who_at x.number p) p b next.reading event.act) is next.act in
              goes_on at is (goes_on_as order (run_of options log) (who_at x.number p) (state_before options log at) p.results (doing_over (state_before options log at).db next.reading) event.act act)
