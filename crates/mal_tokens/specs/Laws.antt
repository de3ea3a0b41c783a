-- What is said of texts without tokens, and of texts with two lists of them.
use Rattle.std.specs.Prelude.{◌≡◌, ℕ, List}
use Rattle.mal_tokens.specs.Tokens.{AreTokens}
use Rattle.mal_tokens.specs.declared.token.MalToken.{MalToken}

-- the text can't be cut into tokens: a character begins none, or a text in quotes isn't closed or holds a
-- byte that none holds
abbrev pub HasNoTokens : List ℕ → Type 0
HasNoTokens text = (tokens : List MalToken) → AreTokens text tokens → ⊥

-- a text has at most one list of tokens
abbrev pub OneList : Type 0
OneList = (text : List ℕ) (a b : List MalToken) → AreTokens text a → AreTokens text b → a ≡ b
