-- The law that a served run is honest.
use Rattle.std.specs.Prelude.{◌≡◌, ℕ, List, map, true, Ok}
use Rattle.std.specs.List.{AllByRecursion}
use Rattle.audit_definitions.specs.Honest.{IsHonest}
use Rattle.command_line.specs.declared.command.RunOptions.{RunOptions}
use Rattle.read_laws.specs.Answered.{Reads}
use Rattle.run_log.specs.Events.{EventTree}
use Rattle.sql_shell.specs.Served.{IsServed}
use Rattle.sql_tree.specs.Pieces.{pieces_of}
use Rattle.sql_tree.specs.Tree.{QueryTree}
use Rattle.sql_tree.specs.Tree.StmtTree.{ExplainSelect}

-- a text doesn't read as an EXPLAIN
abbrev pub IsNoExplainText : List ℕ → Type 0
IsNoExplainText piece = (query : QueryTree) → Reads piece (Ok (ExplainSelect query)) → ⊥

-- no piece of a file, a name and a script, reads as an EXPLAIN
abbrev pub HoldsNoExplain : List ℕ × List ℕ → Type 0
HoldsNoExplain file = AllByRecursion IsNoExplainText (pieces_of file.1)

-- what is printed of a served run, with its log and without EXPLAIN, is honest
abbrev pub ServedIsHonest : Type 0
ServedIsHonest =
    (options : RunOptions) (files : List (List ℕ × List ℕ)) (text : List ℕ) (log : List EventTree) (work : ℕ)
    → options.events ≡ true
    → AllByRecursion HoldsNoExplain files
    → IsServed options (map (λ (file : List ℕ × List ℕ). file.0) files) (map (λ (file : List ℕ × List ℕ). pieces_of file.1) files) text log work
    → IsHonest files text
