-- What the tokens of a text are answered with. Only private contracts cite this.
use Rattle.std.specs.Prelude.{◌≡◌, List, Result}
use Rattle.sql_grammar.specs.Reads.{Reading, TokensRead}
use Rattle.read_laws.specs.Answered.{answered}
use Rattle.sql_definitions.specs.declared.refusal.Refusal.{Refusal}
use Rattle.sql_tree.specs.Tree.{StmtTree}
use Rattle.sql_tree.specs.declared.token.Placed.{Placed}

-- the tokens read as this statement, or have this refusal
pub record AreAnswered (all : List Placed) (answer : Result StmtTree Refusal) : Type 0 where
  pub reading : Reading
  pub are_read : TokensRead all reading
  pub answer_is : answered reading ≡ answer
