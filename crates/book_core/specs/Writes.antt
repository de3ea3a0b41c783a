-- The outcome of a write, what it logs, and what it costs.
use Rattle.std.specs.Prelude.{◌≡◌, ℕ, ◌+◌, ◌==◌, List, false, if◌then◌else◌, Some, Result, IfOk}
use Rattle.sql_tree.specs.declared.tree.Stmt.{Stmt}
use Rattle.sql_tree.specs.Tree.{StmtTree}
use Rattle.sql_grammar.specs.Formed.{IsFormed}
use Rattle.sql_definitions.specs.Effect.{effect}
use Rattle.sql_definitions.specs.declared.refusal.Refusal.{Refusal}
use Rattle.sql_definitions.specs.declared.refusal.Reply.{Reply}
use Rattle.pool_policy.specs.declared.entry.Who.{Who}
use Rattle.pool_policy.specs.Versions.{is_of}
use Rattle.pool_policy.specs.Writes.{write_of}
use Rattle.table_store.specs.Content.{version_of}
use Rattle.run_log.specs.declared.event.Event.{Event}
use Rattle.run_log.specs.declared.event.Act.TheVariants.{Write}
use Rattle.run_log.specs.Fold.{LogState, write_load}
use Rattle.run_log.specs.Touches.{touched_by}
use Rattle.reply_layout.specs.Doings.{code_of, count_of, shown_reply}
use Rattle.store_changes.specs.Outcomes.{outcome_over}
use Rattle.store_changes.specs.declared.outcome.Ready.{Ready}
use Rattle.book_core.specs.BookView.{event_of}

-- ## What is logged

-- the event of a write
abbrev pub written_by : Who → Stmt → Reply → Event
written_by who stmt reply = event_of who (Write (Some stmt) (code_of (shown_reply reply)) (count_of (shown_reply reply)))

-- ## What it costs

-- the work of the operators that are run for entries that come back in the pool; 0 where the write is refused
abbrev pub return_work : StmtTree → LogState → ℕ
return_work stmt s = if code_of (shown_reply (effect stmt s.db).1) == 0 then (write_of (touched_by stmt s.db) (s.at + 1) s.pool).work else 0

-- the work that a write adds to the totals
abbrev pub write_work : StmtTree → LogState → ℕ
write_work stmt s = write_load stmt s.db + return_work stmt s

-- ## What stays

-- tables, versions and pool are as they were
pub record IsUntouched (before after : LogState) : Type 0 where
  pub db : after.db ≡ before.db
  pub versions : after.versions ≡ before.versions
  pub pool : after.pool ≡ before.pool

-- ## The outcome of a statement over the tables of a state

-- its effect and its load; the prepared change touches what the write touches, and keeps the versions of other columns
pub record IsOutcome (stmt : StmtTree) (ready : Result Ready Refusal) (load : ℕ) (s : LogState) : Type 0 where
  pub formed : IsFormed stmt
  pub effect : effect stmt s.db ≡ outcome_over ready s.db
  pub touched : IfOk ready (λ (r : Ready). r.change.touched ≡ touched_by stmt s.db)
  pub others : IfOk ready (λ (r : Ready). (table column : List ℕ) → is_of r.change.touched table column ≡ false → version_of table column r.change.content ≡ s.versions table column)
  pub work : load ≡ write_load stmt s.db
