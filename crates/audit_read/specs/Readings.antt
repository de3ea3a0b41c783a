-- What is answered, as plain data.
use Rattle.std.specs.Prelude.{Option, Some, None, Result, Ok, Err}
use Rattle.sql_definitions.specs.declared.refusal.Refusal.{Refusal}
use Rattle.sql_tree.specs.Tree.{StmtTree, stmt_tree}
use Rattle.sql_tree.specs.declared.tree.Stmt.{Stmt}

-- a statement or its refusal
abbrev pub reading_tree : Result Stmt Refusal → Result StmtTree Refusal
reading_tree (Ok stmt) = Ok (stmt_tree stmt)
reading_tree (Err refusal) = Err refusal

-- a statement, unless there is a reason to refuse it
abbrev pub answer_of : StmtTree → Option Refusal → Result StmtTree Refusal
answer_of stmt None = Ok stmt
answer_of stmt (Some refusal) = Err refusal
