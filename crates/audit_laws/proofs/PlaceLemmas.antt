-- A statement's place, the tables that it meets and the history are the same by lines as by events.
use Rattle.std.proofs.Common.{◌≡◌, ℕ, suc, ◌-◌, ◌≤◌, List, [], ◌∷◌, take, Bool, true, false, cond, ◌&&◌, refl, ap, ◌∙◌, arith}
use Rattle.std.specs.Prelude.{◌==◌}
use Rattle.std.specs.List.{cons_option}
use Rattle.reply_layout.specs.Layout.{change_from}
use Rattle.sql_definitions.specs.Effect.{replay}
use Rattle.run_log.specs.Events.{ActTree, Begins, Looks, Admits, Writes, Ends, EventTree, commits, committed}
use Rattle.answer_text.specs.Layout.{changes_of}
use Rattle.answer_text.specs.Log.{is_opening as opens_there, is_place, statement_place, tables_met}
use Rattle.audit_definitions.specs.Places.{accepted_by, accepted_in, changes_in, is_opening, lines_before, opens, tables_before}
use Rattle.audit_laws.proofs.LineLemmas.{act_of, line_of, lines_of}

-- ## Places

opening_same : (act : ActTree) → is_opening (act_of act) ≡ opens_there act
opening_same (Begins code plan) = refl
opening_same (Looks instr key found) = refl
opening_same (Admits instr key answer) = refl
opening_same (Writes statement code count) = refl
opening_same (Ends code) = refl

opens_same : (session statement : ℕ) (event : EventTree) → opens session statement (line_of event) ≡ is_place session statement event
opens_same session statement event = ap (λ b. (event.session == session) && (event.statement == statement) && b) (opening_same event.act)

-- positions count from 1
place_low : (session statement : ℕ) (log : List EventTree) → 1 ≤ statement_place session statement log
place_low session statement [] = omega arith
place_low session statement (event ∷ log) = go (is_place session statement event)
  where
    go : (b : Bool) → 1 ≤ cond b 1 (suc (statement_place session statement log))
    go true = omega arith
    go false = omega arith

pub before_same : (session statement : ℕ) (log : List EventTree) → lines_before session statement (lines_of log) ≡ lines_of (take (statement_place session statement log - 1) log)
before_same session statement [] = refl
before_same session statement (event ∷ log) =
    ap (λ b. cond b [] (line_of event ∷ lines_before session statement (lines_of log))) (opens_same session statement event)
    ∙ go (before_same session statement log) (is_place session statement event)
  where
    go : lines_before session statement (lines_of log) ≡ lines_of (take (statement_place session statement log - 1) log) → (b : Bool)
        → cond b [] (line_of event ∷ lines_before session statement (lines_of log)) ≡ lines_of (take (cond b 1 (suc (statement_place session statement log)) - 1) (event ∷ log))
    go same true = refl
    go same false =
        let low = place_low session statement log in
        let next : suc (statement_place session statement log - 1) ≡ suc (statement_place session statement log) - 1 = omega (arith, low) in
        ap (λ lines. line_of event ∷ lines) same ∙ ap (λ n. lines_of (take n (event ∷ log))) next

-- ## Changes

accepted_same : (act : ActTree) → accepted_by (act_of act) ≡ committed act
accepted_same (Begins code plan) = refl
accepted_same (Looks instr key found) = refl
accepted_same (Admits instr key answer) = refl
accepted_same (Writes statement code count) = refl
accepted_same (Ends code) = refl

commits_same : (log : List EventTree) → accepted_in (lines_of log) ≡ commits log
commits_same [] = refl
commits_same (event ∷ log) = λ i. cons_option (accepted_same event.act i) (commits_same log i)

pub changes_same : (log : List EventTree) → changes_in (lines_of log) ≡ changes_of log
changes_same [] = refl
changes_same (event ∷ log) = λ i. cons_option (change_from event.session event.statement (accepted_same event.act i)) (changes_same log i)

pub tables_same : (log : List EventTree) (session statement : ℕ) → tables_before (lines_of log) session statement ≡ tables_met log session statement
tables_same log session statement =
    ap (λ lines. replay (accepted_in lines)) (before_same session statement log) ∙ ap replay (commits_same (take (statement_place session statement log - 1) log))
