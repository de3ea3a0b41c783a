-- Statements keep a database valid.
use Rattle.std.specs.Prelude.{List}
use Rattle.std.specs.List.{AllByRecursion}
use Rattle.cell_core.specs.declared.table.Db.{Db}
use Rattle.sql_tree.specs.Tree.{StmtTree}
use Rattle.sql_grammar.specs.Formed.{IsFormed}
use Rattle.sql_definitions.specs.Effect.{effect, replay}
use Rattle.sql_definitions.specs.Valid.{IsValid}

-- the database after a formed statement over a valid one is valid
abbrev pub StatementsKeepValid : Type 0
StatementsKeepValid = (stmt : StmtTree) (db : Db) → IsFormed stmt → IsValid db → IsValid (effect stmt db).0

-- a database that formed statements lead to is valid
abbrev pub ReplaysAreValid : Type 0
ReplaysAreValid = (stmts : List StmtTree) → AllByRecursion IsFormed stmts → IsValid (replay stmts)
