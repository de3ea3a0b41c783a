-- The lines of a log, and that they print as its events do.
use Rattle.std.proofs.Common.{◌≡◌, ℕ, ◌+◌, ◌<◌, List, [], ◌∷◌, ◌++◌, map, length, true, codes, decimal, refl, ap, sym, ◌∙◌, append_assoc, append-nil, lit<, Contains}
use Rattle.std.specs.Prelude.{flat_map}
use Rattle.std.specs.List.{enumerate_from, list_all}
use Rattle.std.proofs.lemmas.Bool.{and_from}
use Rattle.std.proofs.lemmas.List.{length-map}
use Rattle.pool_policy.specs.declared.options.Admitted.{Admitted}
use Rattle.pool_policy.specs.declared.options.Admitted.TheVariants as admitted
use Rattle.run_log.specs.declared.event.FoundLog.{FoundLog}
use Rattle.run_log.specs.declared.event.FoundLog.TheVariants as looked
use Rattle.run_log.specs.Events.{ActTree, Begins, Looks, Admits, Writes, Ends, EventTree}
use Rattle.answer_text.specs.Layout.{act_text as told_act, event_line, log_text}
use Rattle.answer_text.specs.Log.{is_of_pool}
use Rattle.audit_definitions.specs.Lines.{Form, form_of, pool_forms, Line, LineAct, IsPool, is_number, act_text, line_text, lines_text, log_part}
use Rattle.audit_definitions.specs.Lines.{LineAct as line}
use Rattle.sql_shell.specs.Numbers.{AreBelow, admitted_numbers, looked_numbers, pool_numbers}
use Rattle.audit_laws.proofs.NumberLemmas.{decimal_short, decimals_short}

-- ## Events as lines

abbrev looked_form : FoundLog → Form
looked_form (looked.Exact id) = form_of (codes "look") (codes "exact") 1
looked_form (looked.Within id) = form_of (codes "look") (codes "within") 1
looked_form (looked.Across pieces) = form_of (codes "look") (codes "across") 1
looked_form looked.Miss = form_of (codes "look") (codes "miss") 0

abbrev admitted_form : Admitted → Form
admitted_form (admitted.Taken id bytes gone) = form_of (codes "admit") (codes "taken") 3
admitted_form (admitted.There id) = form_of (codes "admit") (codes "there") 1
admitted_form (admitted.Stale version) = form_of (codes "admit") (codes "stale") 1
admitted_form (admitted.Orphan id) = form_of (codes "admit") (codes "orphan") 1
admitted_form (admitted.NoCredit shape) = form_of (codes "admit") (codes "nocredit") 1
admitted_form (admitted.NoRoom bytes) = form_of (codes "admit") (codes "noroom") 1

abbrev pub act_of : ActTree → LineAct
act_of (Begins code plan) = line.Begins code
act_of (Looks instr key found) = line.Pools (looked_form found) (decimal instr) (map decimal (looked_numbers found))
act_of (Admits instr key answer) = line.Pools (admitted_form answer) (decimal instr) (map decimal (admitted_numbers answer))
act_of (Writes statement code count) = line.Writes statement code count
act_of (Ends code) = line.Ends code

abbrev pub line_of : EventTree → Line
line_of event = record { session = event.session; statement = event.statement; act = act_of event.act }

abbrev pub lines_of : List EventTree → List Line
lines_of log = map line_of log

-- ## What is printed

-- a word and a number after a text
one_number : (front word : List ℕ) (n : ℕ) → front ++ word ++ (32 ∷ (decimal n ++ [])) ≡ front ++ (word ++ codes " " ++ decimal n)
one_number front word n = append_assoc front word (32 ∷ (decimal n ++ [])) ∙ ap (λ t. front ++ t) (ap (λ t. word ++ (32 ∷ t)) (append-nil (decimal n)) ∙ sym (append_assoc word (codes " ") (decimal n)))

three_numbers : (front word a b c : List ℕ) → front ++ word ++ (32 ∷ (a ++ (32 ∷ (b ++ (32 ∷ (c ++ [])))))) ≡ front ++ (word ++ codes " " ++ a ++ codes " " ++ b ++ codes " " ++ c)
three_numbers front word a b c = simp (append_assoc, append-nil)

-- before the word of a look or an admission
abbrev front_of : List ℕ → ℕ → List ℕ
front_of verb instr = verb ++ codes " " ++ decimal instr ++ codes " "

act_same : (act : ActTree) → told_act act ≡ act_text (act_of act)
act_same (Begins code plan) = refl
act_same (Looks instr key (looked.Exact id)) = sym (one_number (front_of (codes "look") instr) (codes "exact") id)
act_same (Looks instr key (looked.Within id)) = sym (one_number (front_of (codes "look") instr) (codes "within") id)
act_same (Looks instr key (looked.Across pieces)) = sym (one_number (front_of (codes "look") instr) (codes "across") pieces)
act_same (Looks instr key looked.Miss) = sym (append-nil (front_of (codes "look") instr ++ codes "miss"))
act_same (Admits instr key (admitted.Taken id bytes gone)) = sym (three_numbers (front_of (codes "admit") instr) (codes "taken") (decimal id) (decimal bytes) (decimal gone))
act_same (Admits instr key (admitted.There id)) = sym (one_number (front_of (codes "admit") instr) (codes "there") id)
act_same (Admits instr key (admitted.Stale version)) = sym (one_number (front_of (codes "admit") instr) (codes "stale") version)
act_same (Admits instr key (admitted.Orphan id)) = sym (one_number (front_of (codes "admit") instr) (codes "orphan") id)
act_same (Admits instr key (admitted.NoCredit shape)) = sym (one_number (front_of (codes "admit") instr) (codes "nocredit") shape)
act_same (Admits instr key (admitted.NoRoom bytes)) = sym (one_number (front_of (codes "admit") instr) (codes "noroom") bytes)
act_same (Writes statement code count) = refl
act_same (Ends code) = refl

line_same : (i : ℕ) (event : EventTree) → event_line i event ≡ line_text i (line_of event)
line_same i event = ap (λ t. decimal i ++ codes " " ++ decimal event.session ++ codes " " ++ decimal event.statement ++ codes " " ++ t ++ codes "\n") (act_same event.act)

lines_same : (i : ℕ) (log : List EventTree) → flat_map (λ (k, event). event_line k event) (enumerate_from i log) ≡ lines_text i (lines_of log)
lines_same i [] = refl
lines_same i (event ∷ log) = λ j. line_same i event j ++ lines_same (i + 1) log j

pub log_same : (log : List EventTree) → log_text log ≡ log_part (lines_of log)
log_same log = λ j. codes "log " ++ decimal (sym (length-map log line_of) j) ++ codes "\n" ++ lines_same 1 log j

-- ## Looks and admissions

-- a form that is there, and free numbers
pool_line : (shape : Form) (instr : ℕ) (numbers : List ℕ) → Contains pool_forms shape → AreBelow (instr ∷ numbers) → length numbers ≡ shape.numbers → IsPool (line.Pools shape (decimal instr) (map decimal numbers))
pool_line shape instr numbers is short count =
    (is, and_from (is_number (decimal instr)) (list_all is_number (map decimal numbers)) (decimal_short instr short.0) (decimals_short numbers short.1), length-map numbers decimal ∙ count)

looked_is : (found : FoundLog) → Contains pool_forms (looked_form found)
looked_is (looked.Exact id) = (0, lit< tt, refl)
looked_is (looked.Within id) = (1, lit< tt, refl)
looked_is (looked.Across pieces) = (2, lit< tt, refl)
looked_is looked.Miss = (3, lit< tt, refl)

looked_count : (found : FoundLog) → length (looked_numbers found) ≡ (looked_form found).numbers
looked_count (looked.Exact id) = refl
looked_count (looked.Within id) = refl
looked_count (looked.Across pieces) = refl
looked_count looked.Miss = refl

admitted_is : (answer : Admitted) → Contains pool_forms (admitted_form answer)
admitted_is (admitted.Taken id bytes gone) = (4, lit< tt, refl)
admitted_is (admitted.There id) = (5, lit< tt, refl)
admitted_is (admitted.Stale version) = (6, lit< tt, refl)
admitted_is (admitted.Orphan id) = (7, lit< tt, refl)
admitted_is (admitted.NoCredit shape) = (8, lit< tt, refl)
admitted_is (admitted.NoRoom bytes) = (9, lit< tt, refl)

admitted_count : (answer : Admitted) → length (admitted_numbers answer) ≡ (admitted_form answer).numbers
admitted_count (admitted.Taken id bytes gone) = refl
admitted_count (admitted.There id) = refl
admitted_count (admitted.Stale version) = refl
admitted_count (admitted.Orphan id) = refl
admitted_count (admitted.NoCredit shape) = refl
admitted_count (admitted.NoRoom bytes) = refl

-- an act with short numbers
abbrev pub IsShort : ActTree → Type 0
IsShort act = AreBelow (pool_numbers act)

pub pool_same : (act : ActTree) → is_of_pool act ≡ true → IsShort act → IsPool (act_of act)
pool_same (Looks instr key found) is short = pool_line (looked_form found) instr (looked_numbers found) (looked_is found) short (looked_count found)
pool_same (Admits instr key answer) is short = pool_line (admitted_form answer) instr (admitted_numbers answer) (admitted_is answer) short (admitted_count answer)
pool_same (Begins code plan) is short = cc
pool_same (Writes statement code count) is short = cc
pool_same (Ends code) is short = cc
