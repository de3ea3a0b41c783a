-- Every byte that a run prints.
use Rattle.std.specs.Prelude.{ℕ, List, [], ◌++◌, length, flat_map, Bool, if◌then◌else◌, codes, decimal}
use Rattle.std.specs.List.{filter_map, enumerate_from}
use Rattle.reply_layout.specs.declared.shown.Shown.{Shown}
use Rattle.reply_layout.specs.Layout.{Change, change_from, history_of, named_line, replies_by, session_by, sessions_by}
use Rattle.answer_text.specs.Log.{Said, shown_over, tables_met}
use Rattle.pool_policy.specs.declared.options.Admitted.{Admitted}
use Rattle.pool_policy.specs.declared.options.Admitted.TheVariants as admitted
use Rattle.run_log.specs.declared.event.FoundLog.{FoundLog}
use Rattle.run_log.specs.declared.event.FoundLog.TheVariants as looked
use Rattle.run_log.specs.declared.event.Totals.{Totals}
use Rattle.run_log.specs.Events.{ActTree, Begins, Looks, Admits, Writes, Ends, EventTree, committed}

-- ## History

-- the accepted changes of a log, in order
abbrev pub changes_of : List EventTree → List Change
changes_of log = filter_map (λ (event : EventTree). change_from event.session event.statement (committed event.act)) log

-- the history: the number of accepted changes, and a line for each
abbrev pub history_text : List EventTree → List ℕ
history_text log = history_of (changes_of log)

-- ## The pool

-- the totals, a line for each
abbrev pub totals_text : Totals → List ℕ
totals_text t =
    codes "pool\n" ++ named_line (codes "entries") t.entries ++ named_line (codes "bytes") t.bytes ++ named_line (codes "peak") t.peak
    ++ named_line (codes "looks") t.looks ++ named_line (codes "exact") t.exact ++ named_line (codes "within") t.within ++ named_line (codes "across") t.across ++ named_line (codes "miss") t.miss
    ++ named_line (codes "taken") t.taken ++ named_line (codes "there") t.there ++ named_line (codes "stale") t.stale ++ named_line (codes "orphan") t.orphan
    ++ named_line (codes "nocredit") t.nocredit ++ named_line (codes "noroom") t.noroom ++ named_line (codes "evicted") t.evicted
    ++ named_line (codes "dropped") t.dropped ++ named_line (codes "carried") t.carried ++ named_line (codes "work") t.work ++ named_line (codes "events") t.events

-- ## The log

abbrev pub one_number : List ℕ → ℕ → List ℕ
one_number name n = name ++ codes " " ++ decimal n

-- what a look found
abbrev pub looked_text : FoundLog → List ℕ
looked_text (looked.Exact id) = one_number (codes "exact") id
looked_text (looked.Within id) = one_number (codes "within") id
looked_text (looked.Across pieces) = one_number (codes "across") pieces
looked_text looked.Miss = codes "miss"

-- the answer to an admission
abbrev pub admitted_text : Admitted → List ℕ
admitted_text (admitted.Taken id bytes gone) = one_number (codes "taken") id ++ codes " " ++ decimal bytes ++ codes " " ++ decimal gone
admitted_text (admitted.There id) = one_number (codes "there") id
admitted_text (admitted.Stale version) = one_number (codes "stale") version
admitted_text (admitted.Orphan id) = one_number (codes "orphan") id
admitted_text (admitted.NoCredit shape) = one_number (codes "nocredit") shape
admitted_text (admitted.NoRoom bytes) = one_number (codes "noroom") bytes

abbrev pub act_text : ActTree → List ℕ
act_text (Begins code plan) = one_number (codes "begin") code
act_text (Looks instr key found) = one_number (codes "look") instr ++ codes " " ++ looked_text found
act_text (Admits instr key answer) = one_number (codes "admit") instr ++ codes " " ++ admitted_text answer
act_text (Writes statement code count) = one_number (codes "write") code ++ codes " " ++ decimal count
act_text (Ends code) = one_number (codes "end") code

-- event i of a log
abbrev pub event_line : ℕ → EventTree → List ℕ
event_line i event = decimal i ++ codes " " ++ decimal event.session ++ codes " " ++ decimal event.statement ++ codes " " ++ act_text event.act ++ codes "\n"

-- the number of events, and a line for each
abbrev pub log_text : List EventTree → List ℕ
log_text log = codes "log " ++ decimal (length log) ++ codes "\n" ++ flat_map (λ (i, event). event_line i event) (enumerate_from 1 log)

-- ## The whole output

-- the reply to a statement, over the tables that it meets
abbrev pub shown_at : List EventTree → ℕ → ℕ → Said → Shown
shown_at log session statement said = shown_over (tables_met log session statement) said

-- the replies of a session, each over the tables that its statement meets
abbrev pub replies_text : List EventTree → ℕ → List Said → List ℕ
replies_text log session readings = replies_by (shown_at log session) readings

abbrev pub session_text : List EventTree → ℕ → List ℕ → List Said → List ℕ
session_text log session name readings = session_by (shown_at log) session name readings

-- each session under the name of its file
abbrev pub sessions_text : List (List ℕ) → List (List Said) → List EventTree → List ℕ
sessions_text names scripts log = sessions_by (shown_at log) names scripts

-- the sessions, the history, the pool's totals, and the log where it is asked for
abbrev pub printed : Bool → List (List ℕ) → List (List Said) → List EventTree → Totals → List ℕ
printed with_events names scripts log totals =
    sessions_text names scripts log ++ history_text log ++ totals_text totals ++ (if with_events then log_text log else [])
