-- What is printed of a run, by its lines.
use Rattle.std.proofs.Common.{◌≡◌, ℕ, ◌+◌, ◌<◌, ◌^◌, List, [], ◌∷◌, ◌++◌, map, length, true, Result, codes, decimal, refl, sym, ◌∙◌, append_assoc, append-nil, fold}
use Rattle.std.specs.Prelude.{flat_map, zip}
use Rattle.std.specs.List.{AllByRecursion, concat, enumerate_from, list_all}
use Rattle.std.proofs.lemmas.Bool.{and_from}
use Rattle.reply_layout.specs.declared.shown.Shown.{Shown}
use Rattle.reply_layout.specs.Layout.{reply_text, session_by, session_line, sessions_by}
use Rattle.sql_definitions.specs.declared.refusal.Refusal.{Refusal}
use Rattle.sql_tree.specs.Tree.{StmtTree}
use Rattle.run_log.specs.declared.event.Totals.{Totals}
use Rattle.run_log.specs.Events.{EventTree}
use Rattle.answer_text.specs.Layout.{sessions_text, shown_at, totals_text}
use Rattle.audit_definitions.specs.Honest.{IsNoExplain, pool_names, pool_text, shown_by_lines}
use Rattle.audit_definitions.specs.Lines.{is_number}
use Rattle.sql_shell.specs.Numbers.{AreBelow, count_numbers}
use Rattle.audit_laws.proofs.LineLemmas.{lines_of}
use Rattle.audit_laws.proofs.NumberLemmas.{and_parts, decimal_wide, decimals_short}
use Rattle.audit_laws.proofs.OrderLemmas.{shown_same}

-- ## Replies

-- the replies of a session from its statement k on, and those of sessions from a number on
abbrev replies_from : (ℕ → Result StmtTree Refusal → Shown) → ℕ → List (Result StmtTree Refusal) → List ℕ
replies_from shows k readings = flat_map (λ (j, reading). reply_text j (shows j reading)) (enumerate_from k readings)

abbrev sessions_from : (ℕ → ℕ → Result StmtTree Refusal → Shown) → ℕ → List (List ℕ) → List (List (Result StmtTree Refusal)) → List ℕ
sessions_from shows session names scripts = flat_map (λ (s, script). session_by shows s script.0 script.1) (enumerate_from session (zip names scripts))

replies_same : (log : List EventTree) (session k : ℕ) (readings : List (Result StmtTree Refusal)) → AllByRecursion IsNoExplain readings
    → replies_from (shown_at log session) k readings ≡ replies_from (shown_by_lines (lines_of log) session) k readings
replies_same log session k [] plain = refl
replies_same log session k (reading ∷ readings) plain = λ i. reply_text k (shown_same log session k reading plain.0 i) ++ replies_same log session (k + 1) readings plain.1 i

sessions_same : (log : List EventTree) (session : ℕ) (names : List (List ℕ)) (scripts : List (List (Result StmtTree Refusal))) → AllByRecursion (AllByRecursion IsNoExplain) scripts
    → sessions_from (shown_at log) session names scripts ≡ sessions_from (shown_by_lines (lines_of log)) session names scripts
sessions_same log session [] scripts plain = refl
sessions_same log session (name ∷ names) [] plain = refl
sessions_same log session (name ∷ names) (readings ∷ scripts) plain =
    λ i. session_line session name ++ replies_same log session 1 readings plain.0 i ++ sessions_same log (session + 1) names scripts plain.1 i

pub sessions_printed : (log : List EventTree) (names : List (List ℕ)) (scripts : List (List (Result StmtTree Refusal))) → AllByRecursion (AllByRecursion IsNoExplain) scripts
    → sessions_text names scripts log ≡ sessions_by (shown_by_lines (lines_of log)) names scripts
sessions_printed log names scripts plain = sessions_same log 1 names scripts plain

-- ## The totals

-- texts one after the other, from the left or from the right
joined : (front : List ℕ) (texts : List (List ℕ)) → fold (λ all text. all ++ text) front texts ≡ front ++ concat texts
joined front [] = sym (append-nil front)
joined front (text ∷ texts) = joined (front ++ text) texts ∙ append_assoc front text (concat texts)

-- the totals before the work
abbrev totals_before : Totals → List ℕ
totals_before t =
    t.entries ∷ t.bytes ∷ t.peak ∷ t.looks ∷ t.exact ∷ t.within ∷ t.across ∷ t.miss ∷ t.taken ∷ t.there ∷ t.stale ∷ t.orphan ∷ t.nocredit ∷ t.noroom ∷ t.evicted ∷ t.dropped ∷ t.carried ∷ []

abbrev pub totals_of : Totals → List (List ℕ)
totals_of t = map decimal (totals_before t) ++ decimal t.work ∷ decimal t.events ∷ []

-- the lines of the totals
abbrev total_lines : List (List ℕ) → List (List ℕ) → List (List ℕ)
total_lines names totals = map (λ (total : List ℕ × List ℕ). total.0 ++ codes " " ++ total.1 ++ codes "\n") (zip names totals)

pub totals_printed : (t : Totals) → totals_text t ≡ pool_text (totals_of t)
totals_printed t = joined (codes "pool\n") (total_lines pool_names (totals_of t))

pub totals_count : (t : Totals) → length (totals_of t) ≡ length pool_names
totals_count t = refl

-- the work is wider than the others
inserted : (before after : List (List ℕ)) (work : List ℕ) → list_all is_number (before ++ after) ≡ true → is_number work ≡ true → list_all is_number (before ++ work ∷ after) ≡ true
inserted [] after work all one = and_from (is_number work) (list_all is_number after) one all
inserted (text ∷ before) after work all one =
    let parts = and_parts (is_number text) (list_all is_number (before ++ after)) all in
    and_from (is_number text) (list_all is_number (before ++ work ∷ after)) parts.0 (inserted before after work parts.1 one)

pub totals_numbers : (t : Totals) → AreBelow (count_numbers t) → t.work < 2 ^ 128 → list_all is_number (totals_of t) ≡ true
totals_numbers t short wide = inserted (map decimal (totals_before t)) (decimal t.events ∷ []) (decimal t.work) (decimals_short (count_numbers t) short) (decimal_wide t.work wide)
