-- What a text reads as: a statement, or the first reason for which it is refused.
use Rattle.std.specs.Prelude.{◌≡◌, ℕ, ◌-◌, List, [], ◌∷◌, map, true, false, codes, Option, Some, None}
use Rattle.sql_tree.specs.Tokens.{AreTokens}
use Rattle.sql_tree.specs.Tree.{StmtTree}
use Rattle.sql_tree.specs.declared.token.Placed.{Placed}
use Rattle.sql_tree.specs.declared.token.Token.{Token}
use Rattle.sql_grammar.specs.Refused.{IsFirstRule, is_too_deep, left_out, passed_limits, first_passed}
use Rattle.sql_grammar.specs.Statements.{Derives}

-- a statement, a syntax error, a part of SQL that the profile leaves out, or a limit that is passed
pub data Reading : Type 0 where
  ReadsAs : StmtTree → Reading
  NoSyntax : Reading
  LeavesOut : List ℕ → Reading
  PassesLimit : List ℕ → Reading

-- the end of the last token
abbrev pub last_end : Placed → List Placed → ℕ
last_end placed [] = placed.end
last_end placed (next ∷ more) = last_end next more

-- the number of bytes from the first of the first token to the last of the last
abbrev pub statement_bytes : List Placed → ℕ
statement_bytes [] = 0
statement_bytes (placed ∷ more) = last_end placed more - placed.start

-- the tokens without their places
abbrev pub tokens_in : List Placed → List Token
tokens_in all = map (λ (placed : Placed). placed.token) all

-- no rule applies to a token, and no token is too deep
pub record ArePlain (tokens : List Token) : Type 0 where
  pub no_rule : IsFirstRule tokens None
  pub shallow : is_too_deep [] 0 tokens ≡ false

-- the reading of a derived statement, which may be refused for what is left out or for a limit
abbrev pub reading_of : List Placed → StmtTree → Reading
reading_of all statement = by_left_out (left_out statement)
  where
    by_limit : Option (List ℕ) → Reading
    by_limit None = ReadsAs statement
    by_limit (Some limit) = PassesLimit limit

    by_left_out : Option (List ℕ) → Reading
    by_left_out (Some name) = LeavesOut name
    by_left_out None = by_limit (first_passed (passed_limits (statement_bytes all) (tokens_in all) statement))

-- what tokens read as
pub data TokensRead (all : List Placed) (reading : Reading) : Type 0 where
  RuleApplies : (name : List ℕ) → IsFirstRule (tokens_in all) (Some name) → LeavesOut name ≡ reading → TokensRead all reading
  TooDeep : IsFirstRule (tokens_in all) None → is_too_deep [] 0 (tokens_in all) ≡ true → PassesLimit (codes "nesting") ≡ reading → TokensRead all reading
  Underived : ArePlain (tokens_in all) → ((statement : StmtTree) → Derives (tokens_in all) statement → ⊥) → NoSyntax ≡ reading → TokensRead all reading
  Derived : ArePlain (tokens_in all) → (statement : StmtTree) → Derives (tokens_in all) statement → reading_of all statement ≡ reading → TokensRead all reading

-- what a text reads as
pub data IsReadAs (text : List ℕ) (reading : Reading) : Type 0 where
  Untold : ((all : List Placed) → AreTokens text all → ⊥) → NoSyntax ≡ reading → IsReadAs text reading
  Told : (all : List Placed) → AreTokens text all → TokensRead all reading → IsReadAs text reading
