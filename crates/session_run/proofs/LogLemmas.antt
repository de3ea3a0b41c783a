-- One more event, by itself and under the law.
use Rattle.std.proofs.Common.{◌≡◌, ℕ, suc, ◌+◌, ◌-◌, ◌≤◌, ◌<◌, List, [], ◌∷◌, ◌++◌, length, Bool, true, false, ◌&&◌, cond, Option, Some, None, inl, inr, refl, ap, sym, ◌∙◌, subst, arith, length-append}
use Rattle.std.specs.Prelude.{drop, fold, take, flat_map, ◌==◌}
use Rattle.std.specs.List.{AllByRecursion, enumerate_from}
use Rattle.std.proofs.lemmas.List.{append_assoc, append-nil, take-append-drop, take-append-le}
use Rattle.std.proofs.lemmas.Bool.{cases_lt, eq-eqb, ne_eqb}
use Rattle.std.proofs.Math.Seq.{take-append_seam}
use Rattle.sql_definitions.specs.Effect.{replay}
use Rattle.pool_policy.specs.declared.options.PoolOptions.{PoolOptions}
use Rattle.run_log.specs.Events.{ActTree, Begins, Looks, Admits, Writes, Ends, EventTree, commits, log_tree, tables_at}
use Rattle.run_log.specs.Fold.{run_of}
use Rattle.run_log.specs.Laws.{IsFormedAct}
use Rattle.run_log.proofs.LogLemmas.{logs_tell_holds}
use Rattle.answer_text.specs.Log.{Said, is_opening, is_place, shown_over, statement_place, tables_met}
use Rattle.reply_layout.specs.Layout.{reply_text}
use Rattle.answer_text.specs.Layout.{replies_text}
use Rattle.book_core.specs.BookView.{BookView, and_opened, is_open, opened_by}
use Rattle.book_core.specs.Lawful.{IsLawful}
use Rattle.book_core.proofs.LawfulLemmas.{lawful_formed}
use Rattle.query_keys.specs.Laws.{Remembers}
use Rattle.query_keys.proofs.RememberLemmas.{remembers}
use Rattle.session_run.specs.Progress.{Progress, not_begun, progress_after, progress_by, progress_from, progress_of}
use Rattle.session_run.specs.Turns.{state_before}

pub log_long : (log : List EventTree) (event : EventTree) → length (log ++ event ∷ []) ≡ length log + 1
log_long log event = let long = length-append log (event ∷ []) in omega (arith, long)

-- ## Progress

progress_on : (session at : ℕ) (p : Progress) (log : List EventTree) (event : EventTree) → progress_from session at p (log ++ event ∷ []) ≡ progress_after session (at + length log) (progress_from session at p log) event
progress_on session at p [] event = let here : at ≡ at + 0 = omega arith in ap (λ n. progress_after session n p event) here
progress_on session at p (e ∷ log) event =
    let far : at + 1 + length log ≡ at + suc (length log) = omega arith in
    progress_on session (at + 1) (progress_after session at p e) log event
    ∙ ap (λ n. progress_after session n (progress_from session (at + 1) (progress_after session at p e) log) event) far

pub progress_more : (session : ℕ) (log : List EventTree) (event : EventTree) → progress_of session (log ++ event ∷ []) ≡ progress_after session (length log + 1) (progress_of session log) event
progress_more session log event =
    let here : 1 + length log ≡ length log + 1 = omega arith in
    progress_on session 1 not_begun log event ∙ ap (λ n. progress_after session n (progress_of session log) event) here

-- an event of the session itself
pub own_progress : (session : ℕ) (log : List EventTree) (event : EventTree) → event.session ≡ session → progress_of session (log ++ event ∷ []) ≡ progress_by (length log + 1) event.act (progress_of session log)
own_progress session log event own =
    let p = progress_of session log in
    progress_more session log event ∙ ap (λ b. cond b (progress_by (length log + 1) event.act p) p) (eq-eqb event.session session own)

-- and of another
pub other_progress : (session : ℕ) (log : List EventTree) (event : EventTree) → (event.session == session) ≡ false → progress_of session (log ++ event ∷ []) ≡ progress_of session log
other_progress session log event other =
    let p = progress_of session log in
    progress_more session log event ∙ ap (λ b. cond b (progress_by (length log + 1) event.act p) p) other

-- ## Open queries

abbrev pub is_begun : Option ℕ → Bool
is_begun None = false
is_begun (Some at) = true

act_opens : (at : ℕ) (act : ActTree) (p : Progress) (up : Bool) → up ≡ is_begun p.begun → opened_by act up ≡ is_begun (progress_by at act p).begun
act_opens at (Begins code plan) p up is = refl
act_opens at (Looks instr key found) p up is = is
act_opens at (Admits instr key result) p up is = is
act_opens at (Writes statement code count) p up is = is
act_opens at (Ends code) p up is = refl

event_opens : (session at : ℕ) (event : EventTree) (p : Progress) (up : Bool) → up ≡ is_begun p.begun → and_opened session up event ≡ is_begun (progress_after session at p event).begun
event_opens session at event p up is = go (event.session == session)
  where
    go : (b : Bool) → cond b (opened_by event.act up) up ≡ is_begun (cond b (progress_by at event.act p) p).begun
    go true = act_opens at event.act p up is
    go false = is

events_open : (session at : ℕ) (p : Progress) (up : Bool) (log : List EventTree) → up ≡ is_begun p.begun → fold (and_opened session) up log ≡ is_begun (progress_from session at p log).begun
events_open session at p up [] is = is
events_open session at p up (event ∷ log) is =
    events_open session (at + 1) (progress_after session at p event) (and_opened session up event) log (event_opens session at event p up is)

-- a book is open for a session where the session's query has begun
pub open_is_begun : (session : ℕ) (book : BookView) → is_open session book ≡ is_begun (progress_of session (log_tree book.log)).begun
open_is_begun session book = events_open session 1 not_begun false (log_tree book.log) refl

-- ## Places

pub place_above : (session k : ℕ) (log : List EventTree) → 1 ≤ statement_place session k log
place_above session k [] = omega arith
place_above session k (e ∷ log) = go (is_place session k e)
  where
    go : (b : Bool) → 1 ≤ cond b 1 (suc (statement_place session k log))
    go true = omega arith
    go false = omega arith

pub place_stays : (session k : ℕ) (log : List EventTree) (event : EventTree) → statement_place session k log ≤ length log → statement_place session k (log ++ event ∷ []) ≡ statement_place session k log
place_stays session k [] event within = omega (arith, within)
place_stays session k (e ∷ log) event within = go (place_stays session k log event) (is_place session k e) refl
  where
    Later : Type 0
    Later = statement_place session k log ≤ length log → statement_place session k (log ++ event ∷ []) ≡ statement_place session k log

    go : Later → (b : Bool) → is_place session k e ≡ b → cond (is_place session k e) 1 (suc (statement_place session k (log ++ event ∷ []))) ≡ cond (is_place session k e) 1 (suc (statement_place session k log))
    go later true is = ap (λ b. cond b 1 (suc (statement_place session k (log ++ event ∷ [])))) is ∙ sym (ap (λ b. cond b 1 (suc (statement_place session k log))) is)
    go later false is =
        let short : suc (statement_place session k log) ≤ suc (length log) = subst (λ b. cond b 1 (suc (statement_place session k log)) ≤ suc (length log)) is within in
        ap (λ n. cond (is_place session k e) 1 (suc n)) (later (omega (arith, short)))

place_last : (session k : ℕ) (event : EventTree) (b : Bool) → is_place session k event ≡ b → (log : List EventTree) → statement_place session k log ≡ length log + 1
    → statement_place session k (log ++ event ∷ []) ≡ length log + cond b 1 2
place_last session k event true is [] past = ap (λ b. cond b 1 2) is
place_last session k event false is [] past = ap (λ b. cond b 1 2) is
place_last session k event b is (e ∷ log) past = go (place_last session k event b is log) (is_place session k e) refl
  where
    Later : Type 0
    Later = statement_place session k log ≡ length log + 1 → statement_place session k (log ++ event ∷ []) ≡ length log + cond b 1 2

    go : Later → (c : Bool) → is_place session k e ≡ c → cond (is_place session k e) 1 (suc (statement_place session k (log ++ event ∷ []))) ≡ suc (length log) + cond b 1 2
    go later true first =
        let early : 1 ≡ suc (length log) + 1 = sym (ap (λ c. cond c 1 (suc (statement_place session k log))) first) ∙ past in
        absurd (let no : ⊥ = omega (arith, early) in no)
    go later false first =
        let next : suc (statement_place session k log) ≡ suc (length log) + 1 = sym (ap (λ c. cond c 1 (suc (statement_place session k log))) first) ∙ past in
        let more = later (omega (arith, next)) in
        ap (λ c. cond c 1 (suc (statement_place session k (log ++ event ∷ [])))) first ∙ omega (arith, more)

-- a statement that has no place gets the event's, if it is one
pub place_found : (session k : ℕ) (log : List EventTree) (event : EventTree) → statement_place session k log ≡ length log + 1 → is_place session k event ≡ true → statement_place session k (log ++ event ∷ []) ≡ length log + 1
place_found session k log event past is = place_last session k event true is log past

pub place_missed : (session k : ℕ) (log : List EventTree) (event : EventTree) → statement_place session k log ≡ length log + 1 → is_place session k event ≡ false
    → statement_place session k (log ++ event ∷ []) ≡ length (log ++ event ∷ []) + 1
place_missed session k log event past no_place = let long = log_long log event in let last = place_last session k event false no_place log past in omega (arith, long, last)

place_other : (session k : ℕ) (event : EventTree) → (event.session == session) ≡ false → is_place session k event ≡ false
place_other session k event other = ap (λ b. b && (event.statement == k) && is_opening event.act) other

place_quiet : (session k : ℕ) (event : EventTree) → is_opening event.act ≡ false → is_place session k event ≡ false
place_quiet session k event quiet = go (event.session == session) (event.statement == k)
  where
    go : (a b : Bool) → (a && b && is_opening event.act) ≡ false
    go true true = quiet
    go true false = refl
    go false b = refl

place_elsewhere : (session k : ℕ) (event : EventTree) → (event.statement == k) ≡ false → is_place session k event ≡ false
place_elsewhere session k event elsewhere = ap (λ c. (event.session == session) && c && is_opening event.act) elsewhere ∙ go (event.session == session)
  where
    go : (a : Bool) → (a && false && is_opening event.act) ≡ false
    go true = refl
    go false = refl

place_is : (session k : ℕ) (event : EventTree) → event.session ≡ session → event.statement ≡ k → is_opening event.act ≡ true → is_place session k event ≡ true
place_is session k event own statement opening =
    ap (λ b. b && (event.statement == k) && is_opening event.act) (eq-eqb event.session session own)
    ∙ ap (λ b. b && is_opening event.act) (eq-eqb event.statement k statement) ∙ opening

-- the first n statements of a session have a place in the log, and no others
pub record ArePlaced (session n : ℕ) (log : List EventTree) : Type 0 where
  pub placed : (k : ℕ) → 1 ≤ k → k ≤ n → statement_place session k log ≤ length log
  pub open_ : (k : ℕ) → n < k → statement_place session k log ≡ length log + 1

placed_on : (session n : ℕ) (log : List EventTree) (event : EventTree) → ArePlaced session n log → (k : ℕ) → 1 ≤ k → k ≤ n → statement_place session k (log ++ event ∷ []) ≤ length (log ++ event ∷ [])
placed_on session n log event are k low high =
    let within = are.placed k low high in let same = place_stays session k log event within in let long = log_long log event in omega (arith, within, same, long)

-- an event that marks no place
pub placed_stay : (session n : ℕ) (log : List EventTree) (event : EventTree) → ((k : ℕ) → is_place session k event ≡ false) → ArePlaced session n log → ArePlaced session n (log ++ event ∷ [])
placed_stay session n log event none are = record {
  placed = placed_on session n log event are;
  open_ = λ k above. place_missed session k log event (are.open_ k above) (none k);
}

pub placed_other : (session n : ℕ) (log : List EventTree) (event : EventTree) → (event.session == session) ≡ false → ArePlaced session n log → ArePlaced session n (log ++ event ∷ [])
placed_other session n log event other = placed_stay session n log event (λ k. place_other session k event other)

pub placed_quiet : (session n : ℕ) (log : List EventTree) (event : EventTree) → is_opening event.act ≡ false → ArePlaced session n log → ArePlaced session n (log ++ event ∷ [])
placed_quiet session n log event quiet = placed_stay session n log event (λ k. place_quiet session k event quiet)

-- the place of the next statement
pub place_next : (session n : ℕ) (log : List EventTree) (event : EventTree) → event.session ≡ session → event.statement ≡ n + 1 → is_opening event.act ≡ true → ArePlaced session n log
    → statement_place session (n + 1) (log ++ event ∷ []) ≡ length log + 1
place_next session n log event own statement opening are = place_found session (n + 1) log event (are.open_ (n + 1) (omega arith)) (place_is session (n + 1) event own statement opening)

pub placed_next : (session n : ℕ) (log : List EventTree) (event : EventTree) → event.session ≡ session → event.statement ≡ n + 1 → is_opening event.act ≡ true → ArePlaced session n log → ArePlaced session (n + 1) (log ++ event ∷ [])
placed_next session n log event own statement opening are = record { placed = low; open_ = high }
  where
    low : (k : ℕ) → 1 ≤ k → k ≤ n + 1 → statement_place session k (log ++ event ∷ []) ≤ length (log ++ event ∷ [])
    low k above below = elim (cases_lt n k) [
      | inl last ↦
          let is : n + 1 ≡ k = omega (arith, last, below) in
          let here = place_next session n log event own statement opening are in
          let long = log_long log event in
          subst (λ j. statement_place session j (log ++ event ∷ []) ≤ length (log ++ event ∷ [])) is (omega (arith, here, long))
      | inr before ↦ placed_on session n log event are k above before
    ]

    high : (k : ℕ) → n + 1 < k → statement_place session k (log ++ event ∷ []) ≡ length (log ++ event ∷ []) + 1
    high k above = place_missed session k log event (are.open_ k (omega (arith, above))) (place_elsewhere session k event (ne_eqb event.statement k (λ same. let no : ⊥ = omega (arith, same, statement, above) in no)))

-- ## Tables and replies

pub tables_stay : (session k : ℕ) (log : List EventTree) (event : EventTree) → statement_place session k log ≤ length log → tables_met (log ++ event ∷ []) session k ≡ tables_met log session k
tables_stay session k log event within =
    ap (tables_at (log ++ event ∷ [])) (place_stays session k log event within)
    ∙ ap (λ (es : List EventTree). replay (commits es)) (take-append-le (statement_place session k log - 1) log (event ∷ []) (omega (arith, within)))

taken_last : (log : List EventTree) (event : EventTree) → take ((length log + 1) - 1) (log ++ event ∷ []) ≡ log
taken_last log event =
    let last : (length log + 1) - 1 ≡ length log = omega arith in
    ap (λ n. take n (log ++ event ∷ [])) last ∙ take-append_seam log (event ∷ [])

-- a statement whose place is the last event meets the tables before it
pub tables_next : (options : PoolOptions) (session k : ℕ) (log : List EventTree) (event : EventTree) → statement_place session k (log ++ event ∷ []) ≡ length log + 1 → tables_met (log ++ event ∷ []) session k ≡ (run_of options log).db
tables_next options session k log event here =
    ap (tables_at (log ++ event ∷ [])) here ∙ ap (λ (es : List EventTree). replay (commits es)) (taken_last log event) ∙ sym (logs_tell_holds.tables options log)

abbrev replies_from : List EventTree → ℕ → ℕ → List Said → List ℕ
replies_from log session k [] = []
replies_from log session k (reading ∷ readings) = reply_text k (shown_over (tables_met log session k) reading) ++ replies_from log session (k + 1) readings

replies_are : (log : List EventTree) (session k : ℕ) (readings : List Said)
    → flat_map (λ (j, reading). reply_text j (shown_over (tables_met log session j) reading)) (enumerate_from k readings) ≡ replies_from log session k readings
replies_are log session k [] = refl
replies_are log session k (reading ∷ readings) = ap (λ text. reply_text k (shown_over (tables_met log session k) reading) ++ text) (replies_are log session (k + 1) readings)

replies_same : (log later : List EventTree) (session k : ℕ) (readings : List Said) → ((j : ℕ) → k ≤ j → j < k + length readings → tables_met later session j ≡ tables_met log session j)
    → replies_from later session k readings ≡ replies_from log session k readings
replies_same log later session k [] same = refl
replies_same log later session k (reading ∷ readings) same =
    ap (λ db. reply_text k (shown_over db reading) ++ replies_from later session (k + 1) readings) (same k (omega arith) (omega arith))
    ∙ ap (λ text. reply_text k (shown_over (tables_met log session k) reading) ++ text) (replies_same log later session (k + 1) readings (λ j low high. same j (omega (arith, low)) (omega (arith, high))))

-- replies to statements whose places are in the log stay
pub replies_stay : (session n : ℕ) (log : List EventTree) (event : EventTree) (readings : List Said) → ArePlaced session n log → length readings ≤ n
    → replies_text (log ++ event ∷ []) session readings ≡ replies_text log session readings
replies_stay session n log event readings are few =
    replies_are (log ++ event ∷ []) session 1 readings
    ∙ replies_same log (log ++ event ∷ []) session 1 readings (λ j low high. tables_stay session j log event (are.placed j low (omega (arith, high, few))))
    ∙ sym (replies_are log session 1 readings)

replies_last : (log : List EventTree) (session k j : ℕ) (readings : List Said) (reading : Said) → j ≡ k + length readings
    → replies_from log session k (readings ++ reading ∷ []) ≡ replies_from log session k readings ++ reply_text j (shown_over (tables_met log session j) reading)
replies_last log session k j [] reading is =
    let same : k ≡ j = omega (arith, is) in
    append-nil (reply_text k (shown_over (tables_met log session k) reading)) ∙ ap (λ i. reply_text i (shown_over (tables_met log session i) reading)) same
replies_last log session k j (r ∷ readings) reading is =
    ap (λ text. reply_text k (shown_over (tables_met log session k) r) ++ text) (replies_last log session (k + 1) j readings reading (omega (arith, is)))
    ∙ sym (append_assoc (reply_text k (shown_over (tables_met log session k) r)) (replies_from log session (k + 1) readings) (reply_text j (shown_over (tables_met log session j) reading)))

-- one more reply
pub replies_more : (log : List EventTree) (session j : ℕ) (readings : List Said) (reading : Said) → j ≡ length readings + 1
    → replies_text log session (readings ++ reading ∷ []) ≡ replies_text log session readings ++ reply_text j (shown_over (tables_met log session j) reading)
replies_more log session j readings reading is =
    replies_are log session 1 (readings ++ reading ∷ []) ∙ replies_last log session 1 j readings reading (omega (arith, is))
    ∙ ap (λ text. text ++ reply_text j (shown_over (tables_met log session j) reading)) (sym (replies_are log session 1 readings))

-- ## States

pub state_stays : (options : PoolOptions) (log : List EventTree) (event : EventTree) (at : ℕ) → at ≤ length log + 1 → state_before options (log ++ event ∷ []) at ≡ state_before options log at
state_stays options log event at within = ap (run_of options) (take-append-le (at - 1) log (event ∷ []) (omega (arith, within)))

pub state_next : (options : PoolOptions) (log : List EventTree) (event : EventTree) → state_before options (log ++ event ∷ []) (length log + 1) ≡ run_of options log
state_next options log event = ap (run_of options) (taken_last log event)

-- ## The law

-- a state before remembers
pub state_remembers : (options : PoolOptions) (log : List EventTree) (at : ℕ) → IsLawful options log → Remembers (state_before options log at) (run_of options log)
state_remembers options log at lawful =
    subst (λ (es : List EventTree). Remembers (state_before options log at) (run_of options es)) (take-append-drop (at - 1) log)
    (remembers options (take (at - 1) log) (drop (at - 1) log) (subst (AllByRecursion (λ (event : EventTree). IsFormedAct event.act)) (sym (take-append-drop (at - 1) log)) (lawful_formed options log lawful)))
