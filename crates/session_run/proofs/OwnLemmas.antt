-- A session does an event of its own: what is common to all.
use Rattle.std.proofs.Common.{◌≡◌, ℕ, zero, suc, ◌+◌, ◌-◌, ◌≤◌, ◌<◌, List, [], ◌∷◌, ◌++◌, take, length, false, Option, Some, None, refl, ap, sym, ◌∙◌, subst, arith}
use Rattle.std.specs.Prelude.{slice_get}
use Rattle.std.proofs.lemmas.List.{append-nil, length-map, map-append}
use Rattle.std.proofs.lemmas.Option.{same_Some, slice_get_within}
use Rattle.mal_meaning.specs.declared.plan.Plan.{Plan}
use Rattle.sql_tree.specs.Tree.{StmtTree}
use Rattle.read_laws.specs.Answered.{Reads}
use Rattle.pool_policy.specs.declared.options.PoolOptions.{PoolOptions}
use Rattle.pool_policy.specs.Keeps.{Face}
use Rattle.run_log.specs.Events.{ActTree, Begins, Writes, Ends, EventTree, event_tree, log_tree, tables_at}
use Rattle.run_log.specs.declared.event.Event.{Event}
use Rattle.run_log.specs.Fold.{LogState, run_of}
use Rattle.run_log.proofs.LogLemmas.{logs_tell_holds}
use Rattle.reply_layout.specs.declared.shown.Shown.{Shown}
use Rattle.reply_layout.specs.Layout.{reply_text}
use Rattle.answer_text.specs.Layout.{replies_text}
use Rattle.answer_text.specs.Log.{Said, is_opening, shown_over, tables_met}
use Rattle.book_core.specs.BookView.{BookView, now_of, state_of}
use Rattle.query_keys.proofs.InstrLemmas.{get_none}
use Rattle.session_run.specs.declared.session.Session.{Session}
use Rattle.session_run.specs.declared.stage.Stage.{Stage}
use Rattle.session_run.specs.declared.stage.Stage.TheVariants as stage
use Rattle.session_run.specs.Progress.{Progress, nothing_got, progress_by, progress_of}
use Rattle.read_laws.specs.Readings.{AreReadings}
use Rattle.session_run.specs.Turns.{IsNext, IsNextAct, state_before, who_at}
use Rattle.session_run.specs.Kept.{HasBegun, IsStage, IsUnder, Stands, opened, order_of, untold}
use Rattle.session_run.proofs.LogLemmas.{ArePlaced, log_long, own_progress, place_next, place_stays, placed_next, placed_quiet, replies_more, replies_stay, state_next, state_stays, tables_next, tables_stay}
use Rattle.session_run.proofs.OtherLemmas.{stands_count, stands_placed}
use Rattle.session_run.proofs.OutsideLemmas.{restaged}

-- an act of a session's present statement
abbrev pub event_by : Session → ActTree → EventTree
event_by x act = record { session = x.number; statement = x.ended + 1; act = act }

-- a session whose statement has ended with this reply
abbrev pub replied : Session → ℕ → Shown → Session
replied x work reply = record x { ended = x.ended + 1; work = work; stage = stage.Telling reply }

-- a book's log with one more event
pub tree_more : (log : List Event) (event : Event) → log_tree (log ++ event ∷ []) ≡ log_tree log ++ event_tree event ∷ []
tree_more log event = map-append event_tree log (event ∷ [])

-- the position of its next event
pub now_is : (book : BookView) → now_of book ≡ (state_of book).at + 1
now_is book = ap (λ n. n + 1) (sym (logs_tell_holds.at book.options (log_tree book.log) ∙ length-map book.log event_tree))

-- ## Readings

taken_suc : {X : Type 0} (xs : List X) (n : ℕ) (x : X) → slice_get xs n ≡ Some x → take (suc n) xs ≡ take n xs ++ x ∷ []
taken_suc [] n x there = absurd (get_none n x there)
taken_suc (y ∷ xs) zero x there = ap (λ z. z ∷ []) (same_Some y x there)
taken_suc (y ∷ xs) (suc n) x there = ap (λ zs. y ∷ zs) (taken_suc xs n x there)

taken_more : (xs : List (List ℕ)) (n : ℕ) (x : List ℕ) → slice_get xs n ≡ Some x → take (n + 1) xs ≡ take n xs ++ x ∷ []
taken_more xs n x there = let next : n + 1 ≡ suc n = omega arith in ap (λ k. take k xs) next ∙ taken_suc xs n x there

readings_on : (pieces : List (List ℕ)) (readings : List Said) (piece : List ℕ) (reading : Said) → AreReadings pieces readings → Reads piece reading → AreReadings (pieces ++ piece ∷ []) (readings ++ reading ∷ [])
readings_on [] [] piece reading are is = (is, tt)
readings_on [] (r ∷ rs) piece reading are is = absurd are
readings_on (p ∷ ps) [] piece reading are is = absurd are
readings_on (p ∷ ps) (r ∷ rs) piece reading are is = (are.0, readings_on ps rs piece reading are.1 is)

-- ## One event

module _ (options : PoolOptions) (log : List EventTree) (x : Session) (s : Stands options log x) where
  abbrev before : Progress
  before = progress_of x.number log

  -- it is the session's next
  pub next_is : (piece : List ℕ) → slice_get x.pieces x.ended ≡ Some piece → (reading : Said) → Reads piece reading → (act : ActTree)
      → IsNextAct (order_of x) options log (who_at x.number before) before before.begun reading act → IsNext (order_of x) options x.pieces x.number log (event_by x act)
  next_is piece here reading read act is = record {
    piece = piece;
    here = ap (slice_get x.pieces) s.ended ∙ here;
    reading = reading;
    read = read;
    own = refl;
    numbered = ap (λ n. n + 1) (sym s.ended);
    act = is;
  }

  -- by this reading of its text
  pub next_reads : (piece : List ℕ) (here : slice_get x.pieces x.ended ≡ Some piece) (reading : Said) (read : Reads piece reading) (act : ActTree)
      (is : IsNextAct (order_of x) options log (who_at x.number before) before before.begun reading act) → (next_is piece here reading read act is).reading ≡ reading
  unfolding next_is
  next_reads piece here reading read act is = refl

  module _ (act : ActTree) where
    abbrev later : List EventTree
    later = log ++ event_by x act ∷ []

    abbrev after : Progress
    after = progress_by (length log + 1) act before

    progress_is : progress_of x.number later ≡ after
    progress_is = own_progress x.number log (event_by x act) refl

    -- the fields that no event changes, and those by the places of its statements
    at_stage : (work : ℕ) (now : Stage) → untold x.ended x.stage ≡ [] → untold x.ended now ≡ [] → after.ended ≡ x.ended → ArePlaced x.number (opened after after.begun) later
        → replies_text later x.number s.readings ≡ replies_text log x.number s.readings → IsStage options later (restaged x work now) after now → Stands options later (restaged x work now)
    at_stage work now told tell ended placed replies is = record {
      low = s.low;
      high = s.high;
      short = s.short;
      ended = ap (λ (p : Progress). p.ended) progress_is ∙ ended;
      within = s.within;
      readings = s.readings;
      read = s.read;
      text = ap (λ more. x.text.items ++ more) (tell ∙ sym told) ∙ s.text ∙ sym replies;
      placed = λ k low high. placed.placed k low (subst (λ (p : Progress). k ≤ opened p p.begun) progress_is high);
      open_ = λ k high. placed.open_ k (subst (λ (p : Progress). opened p p.begun < k) progress_is high);
      stage = subst (λ (p : Progress). IsStage options later (restaged x work now) p now) (sym progress_is) is;
    }

    -- its statement ends with this reply
    at_end : (work : ℕ) (reply : Shown) → untold x.ended x.stage ≡ [] → after.ended ≡ x.ended + 1 → after.begun ≡ None → ArePlaced x.number (x.ended + 1) later
        → replies_text later x.number s.readings ≡ replies_text log x.number s.readings → (piece : List ℕ) → slice_get x.pieces x.ended ≡ Some piece → (reading : Said) → Reads piece reading
        → reply ≡ shown_over (tables_met later x.number (x.ended + 1)) reading → Stands options later (replied x work reply)
    at_end work reply told ended none placed replies piece here reading read shows =
        let many : opened after after.begun ≡ x.ended + 1 = ap (opened after) none ∙ ended in
        record {
          low = s.low;
          high = s.high;
          short = s.short;
          ended = ap (λ (p : Progress). p.ended) progress_is ∙ ended;
          within = (let inside = slice_get_within x.pieces x.ended piece here in omega (arith, inside));
          readings = s.readings ++ reading ∷ [];
          read = subst (λ (pieces : List (List ℕ)). AreReadings pieces (s.readings ++ reading ∷ [])) (sym (taken_more x.pieces x.ended piece here)) (readings_on (take x.ended x.pieces) s.readings piece reading s.read read);
          text = ap (λ text. text ++ reply_text (x.ended + 1) reply) (sym (append-nil x.text.items) ∙ ap (λ more. x.text.items ++ more) (sym told) ∙ s.text ∙ sym replies)
              ∙ ap (λ r. replies_text later x.number s.readings ++ reply_text (x.ended + 1) r) shows
              ∙ sym (replies_more later x.number (x.ended + 1) s.readings reading (ap (λ n. n + 1) (sym (stands_count options log x s))));
          placed = λ k low high. placed.placed k low (subst (λ n. k ≤ n) many (subst (λ (p : Progress). k ≤ opened p p.begun) progress_is high));
          open_ = λ k high. placed.open_ k (subst (λ n. n < k) many (subst (λ (p : Progress). opened p p.begun < k) progress_is high));
          stage = subst (λ (p : Progress). (p.begun ≡ None) × (1 ≤ x.ended + 1)) (sym progress_is) (none, omega arith);
        }

  -- ## A statement begins

  abbrev seen_now : LogState
  seen_now = run_of options log

  between_placed : before.begun ≡ None → ArePlaced x.number x.ended log
  between_placed none = subst (λ n. ArePlaced x.number n log) (ap (opened before) none ∙ s.ended) (stands_placed options log x s)

  -- a statement that is one event has ended with this reply
  pub whole_stands : (o : Option StmtTree) (code count work : ℕ) (reply : Shown) → untold x.ended x.stage ≡ [] → before.begun ≡ None
      → (piece : List ℕ) → slice_get x.pieces x.ended ≡ Some piece → (reading : Said) → Reads piece reading → reply ≡ shown_over seen_now.db reading
      → Stands options (log ++ event_by x (Writes o code count) ∷ []) (replied x work reply)
  whole_stands o code count work reply told none piece here reading read shows =
      let event = event_by x (Writes o code count) in
      let placed = between_placed none in
      at_end (Writes o code count) work reply told (ap (λ n. n + 1) s.ended) none
      (placed_next x.number x.ended log event refl refl refl placed)
      (replies_stay x.number x.ended log event s.readings placed (let count = stands_count options log x s in omega (arith, count)))
      piece here reading read
      (shows ∙ ap (λ db. shown_over db reading) (sym (tables_next options x.number (x.ended + 1) log event (place_next x.number x.ended log event refl refl refl placed))))

  -- a query or an EXPLAIN has begun
  pub begun_stands : (code : ℕ) (plan : Option Plan) (work : ℕ) (now : Stage) → untold x.ended x.stage ≡ [] → untold x.ended now ≡ [] → before.begun ≡ None
      → (piece : List ℕ) → slice_get x.pieces x.ended ≡ Some piece → (said : Said) → Reads piece said
      → ((given : List Face) → IsUnder (order_of x) seen_now given nothing_got said now)
      → (HasBegun options (log ++ event_by x (Begins code plan) ∷ []) (restaged x work now) (after (Begins code plan)) → IsStage options (log ++ event_by x (Begins code plan) ∷ []) (restaged x work now) (after (Begins code plan)) now)
      → Stands options (log ++ event_by x (Begins code plan) ∷ []) (restaged x work now)
  begun_stands code plan work now told tell none piece here said read under is =
      let event = event_by x (Begins code plan) in
      let placed = between_placed none in
      at_stage (Begins code plan) work now told tell s.ended
      (subst (λ n. ArePlaced x.number n (log ++ event ∷ [])) (ap (λ n. n + 1) (sym s.ended)) (placed_next x.number x.ended log event refl refl refl placed))
      (replies_stay x.number x.ended log event s.readings placed (let count = stands_count options log x s in omega (arith, count)))
      (is (record {
        at = length log + 1;
        begun = refl;
        first = omega arith;
        within = (let long = log_long log event in omega (arith, long));
        place = place_next x.number x.ended log event refl refl refl placed;
        piece = piece;
        here = here;
        said = said;
        read = read;
        under = subst (λ (t : LogState). IsUnder (order_of x) t (run_of options (log ++ event ∷ [])).given nothing_got said now) (sym (state_next options log event)) (under (run_of options (log ++ event ∷ [])).given);
      }))

  -- ## A statement goes on

  has_placed : (has : HasBegun options log x before) → ArePlaced x.number (x.ended + 1) log
  has_placed has = subst (λ n. ArePlaced x.number n log) (ap (opened before) has.begun ∙ ap (λ n. n + 1) s.ended) (stands_placed options log x s)

  -- a query has looked or offered
  pub goes_stands : (act : ActTree) (work : ℕ) (now : Stage) → is_opening act ≡ false → untold x.ended x.stage ≡ [] → untold x.ended now ≡ [] → (after act).ended ≡ before.ended → (after act).begun ≡ before.begun
      → (has : HasBegun options log x before) → IsUnder (order_of x) (state_before options log has.at) (run_of options (log ++ event_by x act ∷ [])).given (after act).results has.said now
      → (HasBegun options (log ++ event_by x act ∷ []) (restaged x work now) (after act) → IsStage options (log ++ event_by x act ∷ []) (restaged x work now) (after act) now)
      → Stands options (log ++ event_by x act ∷ []) (restaged x work now)
  goes_stands act work now quiet told tell ended begun has under is =
      let event = event_by x act in
      let placed = has_placed has in
      let within = has.within in
      at_stage act work now told tell (ended ∙ s.ended)
      (subst (λ n. ArePlaced x.number n (log ++ event ∷ [])) (ap (λ n. n + 1) (sym (ended ∙ s.ended)) ∙ ap (opened (after act)) (sym (begun ∙ has.begun))) (placed_quiet x.number (x.ended + 1) log event quiet placed))
      (replies_stay x.number (x.ended + 1) log event s.readings placed (let count = stands_count options log x s in omega (arith, count)))
      (is (record {
        at = has.at;
        begun = begun ∙ has.begun;
        first = has.first;
        within = (let long = log_long log event in omega (arith, long, within));
        place = place_stays x.number (x.ended + 1) log event (let here = has.place in omega (arith, here, within)) ∙ has.place;
        piece = has.piece;
        here = has.here;
        said = has.said;
        read = has.read;
        under = subst (λ (t : LogState). IsUnder (order_of x) t (run_of options (log ++ event ∷ [])).given (after act).results has.said now) (sym (state_stays options log event has.at (omega (arith, within)))) under;
      }))

  -- its statement meets the tables before its Begin
  pub begun_met : (has : HasBegun options log x before) → tables_met log x.number (x.ended + 1) ≡ (state_before options log has.at).db
  begun_met has = ap (tables_at log) has.place ∙ sym (logs_tell_holds.tables options (take (has.at - 1) log))

  -- a query or an EXPLAIN has ended with this reply
  pub end_stands : (code work : ℕ) (reply : Shown) → untold x.ended x.stage ≡ [] → (has : HasBegun options log x before) → reply ≡ shown_over (state_before options log has.at).db has.said
      → Stands options (log ++ event_by x (Ends code) ∷ []) (replied x work reply)
  end_stands code work reply told has shows =
      let event = event_by x (Ends code) in
      let placed = has_placed has in
      let within = has.within in
      let place = has.place in
      let met : tables_met (log ++ event ∷ []) x.number (x.ended + 1) ≡ (state_before options log has.at).db =
      tables_stay x.number (x.ended + 1) log event (omega (arith, place, within)) ∙ begun_met has in
      at_end (Ends code) work reply told (ap (λ n. n + 1) s.ended) refl
      (placed_quiet x.number (x.ended + 1) log event refl placed)
      (replies_stay x.number (x.ended + 1) log event s.readings placed (let count = stands_count options log x s in omega (arith, count)))
      has.piece has.here has.said has.read (shows ∙ ap (λ db. shown_over db has.said) (sym met))
