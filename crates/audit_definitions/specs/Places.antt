-- The tables that a statement meets, by the lines of a log.
use Rattle.std.specs.Prelude.{ℕ, ◌==◌, List, [], ◌∷◌, filter_map, Bool, true, false, ◌&&◌, if◌then◌else◌, Option, None}
use Rattle.cell_core.specs.declared.table.Db.{Db}
use Rattle.reply_layout.specs.Layout.{Change, change_from}
use Rattle.sql_definitions.specs.Effect.{replay}
use Rattle.sql_tree.specs.Tree.{StmtTree}
use Rattle.audit_definitions.specs.Lines.{Line, LineAct, Begins, Writes}

-- the act that marks the place of a statement
abbrev pub is_opening : LineAct → Bool
is_opening (Begins code) = true
is_opening (Writes statement code count) = true
is_opening _ = false

-- the line marks the place of this statement of this session
abbrev pub opens : ℕ → ℕ → Line → Bool
opens session statement line = (line.session == session) && (line.statement == statement) && is_opening line.act

-- the lines before the statement's place
abbrev pub lines_before : ℕ → ℕ → List Line → List Line
lines_before session statement [] = []
lines_before session statement (line ∷ lines) = if opens session statement line then [] else line ∷ lines_before session statement lines

-- the statement of an accepted write
abbrev pub accepted_by : LineAct → Option StmtTree
accepted_by (Writes statement code count) = if code == 0 then statement else None
accepted_by _ = None

-- the accepted changes, in the order of their lines
abbrev pub accepted_in : List Line → List StmtTree
accepted_in lines = filter_map (λ (line : Line). accepted_by line.act) lines

-- the tables that a statement meets: those of the changes on the lines before its place
abbrev pub tables_before : List Line → ℕ → ℕ → Db
tables_before lines session statement = replay (accepted_in (lines_before session statement lines))

-- the accepted changes with their sessions and numbers, as the history has them
abbrev pub changes_in : List Line → List Change
changes_in lines = filter_map (λ (line : Line). change_from line.session line.statement (accepted_by line.act)) lines
