-- What is said of a piece whose tokens are known.
use Rattle.std.specs.Prelude.{◌≡◌, ℕ, ◌==◌, List, [], ◌∷◌, length, not}
use Rattle.sql_tree.specs.Pieces.{runs_of, says_something}
use Rattle.sql_tree.specs.Tokens.{AreTokens}
use Rattle.sql_tree.specs.declared.inside.Inside.TheVariants.{Outside}
use Rattle.sql_tree.specs.declared.token.Placed.{Placed}

-- a text that can be cut into tokens says something exactly where it has any, and holds no `;` that ends
-- a piece: it is one run
pub record IsPieceByTokens (text : List ℕ) (tokens : List Placed) : Type 0 where
  pub says : says_something Outside text ≡ not (length tokens == 0)
  pub whole : runs_of Outside text ≡ text ∷ []

abbrev pub PiecesByTokens : Type 0
PiecesByTokens = (text : List ℕ) (tokens : List Placed) → AreTokens text tokens → IsPieceByTokens text tokens
