-- Events as plain data, the accepted changes of a log, and the place of a statement in it.
use Rattle.std.specs.Prelude.{ℕ, suc, ◌-◌, ◌==◌, List, [], ◌∷◌, map, take, length, Bool, true, false, ◌&&◌, if◌then◌else◌, Option, Some, None}
use Rattle.std.specs.List.{filter_map}
use Rattle.std.specs.Option.{option_map}
use Rattle.cell_core.specs.declared.table.Db.{Db}
use Rattle.mal_meaning.specs.declared.plan.Plan.{Plan}
use Rattle.lineage_key.specs.declared.key.Key.{Key}
use Rattle.pool_policy.specs.declared.entry.Who.{Who}
use Rattle.pool_policy.specs.declared.options.Admitted.{Admitted}
use Rattle.pool_policy.specs.Looks.{Finding}
use Rattle.pool_policy.specs.Looks.Finding.{Exact, Within, Across, Miss}
use Rattle.sql_tree.specs.Tree.{StmtTree, stmt_tree}
use Rattle.sql_definitions.specs.Effect.{replay}
use Rattle.run_log.specs.declared.event.Event.{Event}
use Rattle.run_log.specs.declared.event.Act.{Act}
use Rattle.run_log.specs.declared.event.Act.TheVariants as act
use Rattle.run_log.specs.declared.event.FoundLog.{FoundLog}
use Rattle.run_log.specs.declared.event.FoundLog.TheVariants as looked

-- ## Events as plain data

-- what an event does, with its statement as a plain tree
pub data ActTree : Type 0 where
  Begins : ℕ → Option Plan → ActTree
  Looks : ℕ → Key → FoundLog → ActTree
  Admits : ℕ → Key → Admitted → ActTree
  Writes : Option StmtTree → ℕ → ℕ → ActTree
  Ends : ℕ → ActTree

-- an event as plain data
pub record EventTree : Type 0 where
  pub session : ℕ
  pub statement : ℕ
  pub act : ActTree

abbrev pub act_tree : Act → ActTree
act_tree (act.Begin code plan) = Begins code plan
act_tree (act.Look instr key found) = Looks instr key found
act_tree (act.Admit instr key result) = Admits instr key result
act_tree (act.Write statement code count) = Writes (option_map stmt_tree statement) code count
act_tree (act.End code) = Ends code

abbrev pub event_tree : Event → EventTree
event_tree event = record { session = event.session; statement = event.statement; act = act_tree event.act }

-- a log as plain data
abbrev pub log_tree : List Event → List EventTree
log_tree log = map event_tree log

-- the session and the statement of an event
abbrev pub who_of : EventTree → Who
who_of event = record { session = event.session; statement = event.statement }

-- what is found, as it is logged
abbrev pub looked_of : Finding → FoundLog
looked_of (Exact id) = looked.Exact id
looked_of (Within id) = looked.Within id
looked_of (Across pieces) = looked.Across (length pieces)
looked_of Miss = looked.Miss

-- ## Commits and places

-- the statement of an accepted write
abbrev pub committed : ActTree → Option StmtTree
committed (Writes statement code count) = if code == 0 then statement else None
committed _ = None

-- the accepted changes, in order
abbrev pub commits : List EventTree → List StmtTree
commits log = filter_map (λ (event : EventTree). committed event.act) log

-- the tables before the event at a position, which counts from 1
abbrev pub tables_at : List EventTree → ℕ → Db
tables_at log position = replay (commits (take (position - 1) log))
