-- The place of a statement in a log, what it shows, and which events a run logs.
use Rattle.std.specs.Prelude.{◌≡◌, ℕ, suc, ◌+◌, ◌≤◌, ◌==◌, List, [], ◌∷◌, ◌++◌, length, map, filter, Bool, true, false, ◌&&◌, if◌then◌else◌, Some, None, Result, slice_get}
use Rattle.std.specs.List.{AllByRecursion}
use Rattle.cell_core.specs.declared.table.Db.{Db}
use Rattle.sql_tree.specs.Tree.{StmtTree}
use Rattle.sql_definitions.specs.declared.refusal.Refusal.{Refusal}
use Rattle.mal_print.specs.Canon.{plan_text}
use Rattle.mal_meaning.specs.declared.plan.Plan.{Plan}
use Rattle.plan_queries.specs.Plans.{plan_over}
use Rattle.reply_layout.specs.declared.shown.Shown.{Shown}
use Rattle.reply_layout.specs.Doings.{Doing, Writing, Beginning, begin_code, code_of, count_of, doing_by, shown_in}
use Rattle.run_log.specs.Events.{ActTree, Begins, Looks, Admits, Writes, Ends, EventTree, tables_at}

-- ## Places

-- the act that marks the place of a statement
abbrev pub is_opening : ActTree → Bool
is_opening (Begins code plan) = true
is_opening (Writes statement code count) = true
is_opening _ = false

abbrev pub is_place : ℕ → ℕ → EventTree → Bool
is_place session statement event = (event.session == session) && (event.statement == statement) && is_opening event.act

-- the position of the first event that marks the statement's place
abbrev pub statement_place : ℕ → ℕ → List EventTree → ℕ
statement_place session statement [] = 1
statement_place session statement (event ∷ log) = if is_place session statement event then 1 else suc (statement_place session statement log)

-- ## What a text does

-- the reading of a statement's text: the statement, or the refusal of the text
abbrev pub Said : Type 0
Said = Result StmtTree Refusal

-- what it does over these tables
abbrev pub doing_over : Db → Said → Doing Plan
doing_over db said = doing_by plan_over plan_text db said

-- the reply to it
abbrev pub shown_over : Db → Said → Shown
shown_over db said = shown_in (doing_over db said)

-- ## What a run logs

-- the acts of a statement: one Write, or a Begin and an End
abbrev pub acts_in : Doing Plan → List ActTree
acts_in (Writing statement shown) = Writes statement (code_of shown) (count_of shown) ∷ []
acts_in (Beginning plan shown) = Begins (begin_code plan shown) plan ∷ Ends (code_of shown) ∷ []

-- the acts of a statement that meets these tables
abbrev pub acts_over : Db → Said → List ActTree
acts_over db said = acts_in (doing_over db said)

-- the tables that a statement meets: those at its place
abbrev pub tables_met : List EventTree → ℕ → ℕ → Db
tables_met log session statement = tables_at log (statement_place session statement log)

-- a look or an admission
abbrev pub is_of_pool : ActTree → Bool
is_of_pool (Looks instr key found) = true
is_of_pool (Admits instr key result) = true
is_of_pool _ = false

-- `between` put between two acts
abbrev pub with_between : List ActTree → List ActTree → List ActTree
with_between between (first ∷ last ∷ []) = first ∷ (between ++ last ∷ [])
with_between between acts = acts

-- a plan is run: for an EXPLAIN or a query that is refused there is none
abbrev pub runs_plan : Doing Plan → Bool
runs_plan (Beginning (Some plan) shown) = true
runs_plan (Beginning None shown) = false
runs_plan (Writing statement shown) = false

-- acts of a statement that meets these tables: its own, and where a plan is run, looks and admissions between its Begin and its End
abbrev pub AreActs : Db → Said → List ActTree → Type 0
AreActs db reading acts =
    (between : List ActTree) × AllByRecursion (λ act. is_of_pool act ≡ true) between × (runs_plan (doing_over db reading) ≡ false → between ≡ [])
    × (acts ≡ with_between between (acts_over db reading))

-- numbered acts are exactly those of a session's statements from k on, in their order, each once
abbrev pub AreStatements : List EventTree → ℕ → ℕ → List Said → List (ℕ × ActTree) → Type 0
AreStatements log session k [] logged = logged ≡ []
AreStatements log session k (reading ∷ readings) logged =
    (acts : List ActTree) × (later : List (ℕ × ActTree)) × (logged ≡ map {B = ℕ × ActTree} (λ act. (k, act)) acts ++ later)
    × AreActs (tables_met log session k) reading acts
    × AreStatements log session (k + 1) readings later

-- the acts of a session in a log, each with its statement's number
abbrev pub logged_of : ℕ → List EventTree → List (ℕ × ActTree)
logged_of session log = map (λ (event : EventTree). (event.statement, event.act)) (filter (λ (event : EventTree). event.session == session) log)

-- each event is of a session, and each session's events are those of its statements, in their order, each once
pub record IsOrdered (scripts : List (List Said)) (log : List EventTree) : Type 0 where
  pub sessions : AllByRecursion (λ (event : EventTree). (1 ≤ event.session) × (event.session ≤ length scripts)) log
  pub statements : (i : ℕ) (readings : List Said) → slice_get scripts i ≡ Some readings → AreStatements log (i + 1) 1 readings (logged_of (i + 1) log)
