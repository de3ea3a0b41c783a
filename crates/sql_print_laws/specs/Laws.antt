-- The text printed of a statement reads as that statement again.
use Rattle.std.specs.Prelude.{◌≡◌, ℕ, List}
use Rattle.sql_grammar.specs.Reads.{tokens_in, IsReadAs}
use Rattle.sql_grammar.specs.Reads.Reading.{ReadsAs}
use Rattle.sql_grammar.specs.Statements.{write_stmt, Derives}
use Rattle.sql_print_laws.specs.CanonRules.{canon_stmt}
use Rattle.sql_print_laws.specs.Printable.{IsPrintable}
use Rattle.sql_print.specs.Canon.{canonical}
use Rattle.sql_tree.specs.Tokens.{AreTokens}
use Rattle.sql_tree.specs.Tree.{StmtTree}
use Rattle.sql_tree.specs.declared.token.Placed.{Placed}

-- the tokens of the chosen derivation derive the statement
abbrev pub PrintedDerives : Type 0
PrintedDerives = (s : StmtTree) (is : IsPrintable s) → Derives (write_stmt (canon_stmt s is)) s

-- they are the tokens of its canonical text
abbrev pub PrintedTokens : Type 0
PrintedTokens = (s : StmtTree) (is : IsPrintable s) → (all : List Placed) × AreTokens (canonical s) all × (tokens_in all ≡ write_stmt (canon_stmt s is))

-- a statement that a text reads as can be printed
abbrev pub ReadIsPrintable : Type 0
ReadIsPrintable = (text : List ℕ) (s : StmtTree) → IsReadAs text (ReadsAs s) → IsPrintable s
