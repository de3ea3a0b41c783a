-- The text printed of a statement that was read is read as that statement.
use Rattle.std.specs.Prelude.{ℕ, ◌≤◌, List, length}
use Rattle.sql_grammar.specs.Reads.{IsReadAs}
use Rattle.sql_grammar.specs.Reads.Reading.{ReadsAs}
use Rattle.sql_print.specs.Canon.{canonical}
use Rattle.sql_tree.specs.Tree.{StmtTree}

-- the canonical text of a statement that a text reads as, unless it is longer than a statement may
-- be, reads as that statement again
abbrev pub PrintedReads : Type 0
PrintedReads = (text : List ℕ) (s : StmtTree) → IsReadAs text (ReadsAs s) → length (canonical s) ≤ 65536 → IsReadAs (canonical s) (ReadsAs s)
