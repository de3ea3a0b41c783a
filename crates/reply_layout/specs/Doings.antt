-- What a statement does over the tables that it meets, and what it shows.
use Rattle.std.specs.Prelude.{ℕ, List, Option, Some, None, Result, Ok, Err}
use Rattle.cell_core.specs.declared.cell.Cell.{Cell}
use Rattle.cell_core.specs.declared.table.Db.{Db}
use Rattle.sql_tree.specs.Tree.{QueryTree, StmtTree}
use Rattle.sql_tree.specs.Tree.StmtTree.{Select, ExplainSelect}
use Rattle.sql_definitions.specs.Answer.{answer}
use Rattle.sql_definitions.specs.Check.{check_refusal}
use Rattle.sql_definitions.specs.Effect.{effect}
use Rattle.sql_definitions.specs.Refusals.{refusal_number}
use Rattle.sql_definitions.specs.Sources.{schema_of}
use Rattle.sql_definitions.specs.declared.refusal.Refusal.{Refusal}
use Rattle.sql_definitions.specs.declared.refusal.Refusal.TheVariants.{Overflow}
use Rattle.sql_definitions.specs.declared.refusal.Reply.{Reply}
use Rattle.sql_definitions.specs.declared.refusal.Reply.TheVariants as reply
use Rattle.reply_layout.specs.declared.shown.Shown.{Shown}
use Rattle.reply_layout.specs.declared.shown.Shown.TheVariants as shown

-- ## Replies

-- what a change shows
abbrev pub shown_reply : Reply → Shown
shown_reply reply.Done = shown.Done
shown_reply (reply.Rows n) = shown.Count n
shown_reply (reply.Refused refusal) = shown.Refused refusal

-- what an accepted query shows: its rows, or that a number left its range
abbrev pub shown_rows : Option (List (List Cell)) → Shown
shown_rows (Some rows) = shown.Rows rows
shown_rows None = shown.Refused Overflow

-- what an EXPLAIN shows: the refusal of its query, or the text of the plan by which the query is run
abbrev pub shown_explain : Option Refusal → List ℕ → Shown
shown_explain (Some refusal) text = shown.Refused refusal
shown_explain None text = shown.Mal text

-- 0, or the refusal's number
abbrev pub code_of : Shown → ℕ
code_of (shown.Refused refusal) = refusal_number refusal
code_of _ = 0

-- the number of rows that a change reports
abbrev pub count_of : Shown → ℕ
count_of (shown.Count n) = n
count_of _ = 0

-- ## What a statement does

-- what a statement does and shows, by plans of some kind
pub data Doing (P : Type 0) : Type 0 where
  -- it is one event, of a change or of a text that is refused
  Writing : Option StmtTree → Shown → Doing P
  -- two events: it begins, with the plan that is run, if any; and it ends
  Beginning : Option P → Shown → Doing P

-- a query is refused, or this plan is run and yields these rows
abbrev pub query_doing : {P : Type 0} → Option Refusal → P → Option (List (List Cell)) → Doing P
query_doing (Some refusal) plan rows = Beginning None (shown.Refused refusal)
query_doing None plan rows = Beginning (Some plan) (shown_rows rows)

-- what a text with this reading does over tables, by plans of queries that have texts
abbrev pub doing_by : {P : Type 0} → (Db → QueryTree → P) → (P → List ℕ) → Db → Result StmtTree Refusal → Doing P
doing_by plan_of text_of db (Err refusal) = Writing None (shown.Refused refusal)
doing_by plan_of text_of db (Ok (Select query)) = query_doing (check_refusal (Select query) (schema_of db)) (plan_of db query) (answer query db)
doing_by plan_of text_of db (Ok (ExplainSelect query)) = Beginning None (shown_explain (check_refusal (ExplainSelect query) (schema_of db)) (text_of (plan_of db query)))
doing_by plan_of text_of db (Ok statement) = Writing (Some statement) (shown_reply (effect statement db).1)

-- its reply
abbrev pub shown_in : {P : Type 0} → Doing P → Shown
shown_in (Writing statement shown) = shown
shown_in (Beginning plan shown) = shown

-- the code of a Begin: 0 where a plan is run, else that of the reply
abbrev pub begin_code : {P : Type 0} → Option P → Shown → ℕ
begin_code (Some plan) shown = 0
begin_code None shown = code_of shown
