-- Texts without tokens, and the law that no text has two lists of them.
use Rattle.std.specs.Prelude.{◌≡◌, ℕ, List}
use Rattle.sql_tree.specs.Tokens.{AreTokens}
use Rattle.sql_tree.specs.declared.token.Placed.{Placed}

-- the text can't be cut into tokens: some character begins none, or begins a quoted name, a string or a `/*` that never ends
abbrev pub HasNoTokens : List ℕ → Type 0
HasNoTokens text = (tokens : List Placed) → AreTokens text tokens → ⊥

-- a text has one list of tokens at most
abbrev pub OneList : Type 0
OneList = (text : List ℕ) (a b : List Placed) → AreTokens text a → AreTokens text b → a ≡ b
