-- Words and symbols that are required at a place, and what the readers of parts make of them.
use Rattle.std.specs.Prelude.{Bool, false, if◌then◌else◌, Option, Some, None}
use denote.Enum.Bare.{sameb}
use Rattle.read_laws.specs.Chain.{Parser, first_token, after_first}
use Rattle.sql_tree.specs.contracts.token.Keyword.{the_type as the_keywords}
use Rattle.sql_tree.specs.contracts.token.Symbol.{the_type as the_symbols}
use Rattle.sql_tree.specs.declared.token.Keyword.{Keyword}
use Rattle.sql_tree.specs.declared.token.Symbol.{Symbol}
use Rattle.sql_tree.specs.declared.token.Symbol.TheVariants as symbol
use Rattle.sql_tree.specs.declared.token.Token.{Token}
use Rattle.sql_tree.specs.declared.token.Token.TheVariants.{Key}
use Rattle.sql_tree.specs.declared.token.Token.TheVariants as token

-- the token is the word
unfoldable pub is_key : Keyword → Option Token → Bool
is_key word (Some (Key found)) = sameb the_keywords found word
is_key word other = false

-- the token is the symbol
unfoldable pub is_symbol : Symbol → Option Token → Bool
is_symbol symbol (Some (token.Symbol found)) = sameb the_symbols found symbol
is_symbol symbol other = false

-- a part after a word that has to come first
abbrev pub behind_key : {X : Type 0} → Keyword → Parser X → Parser X
behind_key word part tokens = if is_key word (first_token tokens) then part (after_first tokens) else None

-- a part after a symbol that has to come first
abbrev pub behind_symbol : {X : Type 0} → Symbol → Parser X → Parser X
behind_symbol symbol part tokens = if is_symbol symbol (first_token tokens) then part (after_first tokens) else None

-- `,`
abbrev pub comma_in : Option Token → Option Symbol
comma_in (Some (token.Symbol symbol.Comma)) = Some symbol.Comma
comma_in other = None
