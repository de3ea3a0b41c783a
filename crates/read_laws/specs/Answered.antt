-- What a text is answered with: the statement that it is, or its refusal.
use Rattle.std.specs.Prelude.{◌≡◌, ℕ, List, Result, Ok, Err}
use Rattle.sql_grammar.specs.Formed.{IsFormed}
use Rattle.sql_grammar.specs.Reads.{Reading, IsReadAs}
use Rattle.sql_grammar.specs.Reads.Reading.{ReadsAs, NoSyntax, LeavesOut, PassesLimit}
use Rattle.sql_definitions.specs.declared.refusal.Refusal.{Refusal}
use Rattle.sql_definitions.specs.declared.refusal.Refusal.TheVariants.{Syntax, Unsupported, Limit}
use Rattle.sql_tree.specs.Tree.{StmtTree}

-- what a text is answered with, by what it reads as
abbrev pub answered : Reading → Result StmtTree Refusal
answered (ReadsAs statement) = Ok statement
answered NoSyntax = Err Syntax
answered (LeavesOut name) = Err (Unsupported name)
answered (PassesLimit which) = Err (Limit which)

-- the text reads as this statement, or has this refusal
pub record Reads (text : List ℕ) (answer : Result StmtTree Refusal) : Type 0 where
  pub reading : Reading
  pub is_read : IsReadAs text reading
  pub answer_is : answered reading ≡ answer

-- no text reads as two things
abbrev pub EachReadsAsOne : Type 0
EachReadsAsOne = (text : List ℕ) (a b : Result StmtTree Refusal) → Reads text a → Reads text b → a ≡ b

-- what a text reads as is formed
abbrev pub EachIsFormed : Type 0
EachIsFormed = (text : List ℕ) (statement : StmtTree) → Reads text (Ok statement) → IsFormed statement
