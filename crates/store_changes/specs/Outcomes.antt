-- The outcome of a change.
use Rattle.std.specs.Prelude.{ℕ, Bool, true, false, Option, Some, None, Result, Ok, Err}
use Rattle.cell_core.specs.declared.table.Db.{Db}
use Rattle.sql_tree.specs.Tree.{StmtTree}
use Rattle.sql_tree.specs.Tree.StmtTree.{Select, ExplainSelect}
use Rattle.sql_definitions.specs.declared.refusal.Refusal.{Refusal}
use Rattle.sql_definitions.specs.declared.refusal.Reply.{Reply}
use Rattle.sql_definitions.specs.declared.refusal.Reply.TheVariants.{Done, Rows, Refused}
use Rattle.store_changes.specs.declared.outcome.Ready.{Ready}

-- the statement is no query and no EXPLAIN
abbrev pub is_change : StmtTree → Bool
is_change (Select query) = false
is_change (ExplainSelect query) = false
is_change _ = true

-- the reply to an accepted change of so many rows
abbrev pub reply_with : Option ℕ → Reply
reply_with None = Done
reply_with (Some rows) = Rows rows

-- the database after a change, and its reply; a refused change leaves the database as it was
abbrev pub outcome_over : Result Ready Refusal → Db → Db × Reply
outcome_over (Ok ready) db = (ready.change.content.db, reply_with ready.rows)
outcome_over (Err refusal) db = (db, Refused refusal)
