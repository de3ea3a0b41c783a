-- When the text of a printed run is honest: what it says is what its scripts mean, in the order of its own log.
use Rattle.std.specs.Prelude.{◌≡◌, ℕ, ◌+◌, ◌≤◌, ◌==◌, List, [], ◌∷◌, ◌++◌, length, map, filter, flat_map, zip, IsTrue, Some, Result, Ok, slice_get, codes}
use Rattle.std.specs.List.{AllByRecursion, list_all}
use Rattle.cell_core.specs.declared.table.Db.{Db}
use Rattle.read_laws.specs.Readings.{AreAllRead}
use Rattle.reply_layout.specs.declared.shown.Shown.{Shown}
use Rattle.reply_layout.specs.Doings.{Doing, Writing, Beginning, begin_code, code_of, count_of, doing_by, shown_in}
use Rattle.reply_layout.specs.Layout.{history_of, sessions_by}
use Rattle.sql_definitions.specs.declared.refusal.Refusal.{Refusal}
use Rattle.sql_tree.specs.Pieces.{pieces_of}
use Rattle.sql_tree.specs.Tree.{StmtTree}
use Rattle.sql_tree.specs.Tree.StmtTree.{ExplainSelect}
use Rattle.audit_definitions.specs.Lines.{Line, LineAct, Begins, Writes, Ends, IsPool, is_number, log_part}
use Rattle.audit_definitions.specs.Places.{changes_in, tables_before}

-- ## What a statement does

-- a text with this reading is no EXPLAIN
abbrev pub IsNoExplain : Result StmtTree Refusal → Type 0
IsNoExplain (Ok (ExplainSelect query)) = ⊥
IsNoExplain _ = Unit {0}

-- what it does over these tables. Nothing is said of plans: each is `tt`, with an empty text
abbrev pub plain_doing : Db → Result StmtTree Refusal → Doing (Unit {0})
plain_doing db reading = doing_by (λ db query. tt) (λ plan. []) db reading

-- its lines but for looks and admissions: a write, or a begin and an end
abbrev pub own_acts : Doing (Unit {0}) → List LineAct
own_acts (Writing statement shown) = Writes statement (code_of shown) (count_of shown) ∷ []
own_acts (Beginning plan shown) = Begins (begin_code plan shown) ∷ Ends (code_of shown) ∷ []

-- ## The order of the lines

-- `between` put between two acts
abbrev pub with_between : List LineAct → List LineAct → List LineAct
with_between between (first ∷ last ∷ []) = first ∷ (between ++ last ∷ [])
with_between between acts = acts

-- acts of a statement that meets these tables: its own, with looks and admissions between the begin and the end of a query
abbrev pub AreActs : Db → Result StmtTree Refusal → List LineAct → Type 0
AreActs db reading acts = (between : List LineAct) × AllByRecursion IsPool between × (acts ≡ with_between between (own_acts (plain_doing db reading)))

-- numbered acts are exactly those of a session's statements from k on, in their order, each once
abbrev pub AreStatements : List Line → ℕ → ℕ → List (Result StmtTree Refusal) → List (ℕ × LineAct) → Type 0
AreStatements lines session k [] told = told ≡ []
AreStatements lines session k (reading ∷ readings) told =
    (acts : List LineAct) × (later : List (ℕ × LineAct)) × (told ≡ map {B = ℕ × LineAct} (λ act. (k, act)) acts ++ later)
    × AreActs (tables_before lines session k) reading acts
    × AreStatements lines session (k + 1) readings later

-- the acts of a session in a log, each with its statement's number
abbrev pub told_of : ℕ → List Line → List (ℕ × LineAct)
told_of session lines = map (λ (line : Line). (line.statement, line.act)) (filter (λ (line : Line). line.session == session) lines)

-- each line is of a session, and each session's lines are those of its statements, in their order, each once
pub record AreOrdered (scripts : List (List (Result StmtTree Refusal))) (lines : List Line) : Type 0 where
  pub sessions : AllByRecursion (λ (line : Line). (1 ≤ line.session) × (line.session ≤ length scripts)) lines
  pub statements : (i : ℕ) (readings : List (Result StmtTree Refusal)) → slice_get scripts i ≡ Some readings → AreStatements lines (i + 1) 1 readings (told_of (i + 1) lines)

-- ## The whole text

-- the reply to a statement, over the tables that it meets
abbrev pub shown_by_lines : List Line → ℕ → ℕ → Result StmtTree Refusal → Shown
shown_by_lines lines session statement reading = shown_in (plain_doing (tables_before lines session statement) reading)

-- the names of the pool's totals
abbrev pub pool_names : List (List ℕ)
pool_names =
    codes "entries" ∷ codes "bytes" ∷ codes "peak" ∷ codes "looks" ∷ codes "exact" ∷ codes "within" ∷ codes "across" ∷ codes "miss" ∷ codes "taken" ∷ codes "there"
    ∷ codes "stale" ∷ codes "orphan" ∷ codes "nocredit" ∷ codes "noroom" ∷ codes "evicted" ∷ codes "dropped" ∷ codes "carried" ∷ codes "work" ∷ codes "events" ∷ []

-- the totals of the pool, a line for each
abbrev pub pool_text : List (List ℕ) → List ℕ
pool_text totals = codes "pool\n" ++ flat_map (λ (name, digits). name ++ codes " " ++ digits ++ codes "\n") (zip pool_names totals)

-- the text is that of a run of these files, each a name and a script, printed with its log. Each piece of a script reads as something, and none as an EXPLAIN. The lines of the log are those of each session's statements, once and in order. Each reply is what its statement means over the accepted changes on the lines before its place, and the history is all of these changes. What is said of the pool is free but for its form
pub record IsHonest (files : List (List ℕ × List ℕ)) (text : List ℕ) : Type 0 where
  pub readings : List (List (Result StmtTree Refusal))
  pub read : AreAllRead (map (λ (file : List ℕ × List ℕ). pieces_of file.1) files) readings
  pub plain : AllByRecursion (AllByRecursion IsNoExplain) readings
  pub lines : List Line
  pub ordered : AreOrdered readings lines
  pub totals : List (List ℕ)
  pub count : length totals ≡ length pool_names
  pub numbers : IsTrue (list_all is_number totals)
  pub text_is : text ≡ sessions_by (shown_by_lines lines) (map (λ (file : List ℕ × List ℕ). file.0) files) readings ++ history_of (changes_in lines) ++ pool_text totals ++ log_part lines
