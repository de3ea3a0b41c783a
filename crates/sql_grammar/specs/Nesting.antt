-- The levels at a place in the words of the grammar: the constructs that are open there. A parenthesis is
-- open until its `)`, and a NOT or a `-` as long as what it is directly before. The law says that the step
-- of refusal (`is_too_deep`) counts these.
use Rattle.std.specs.Prelude.{◌≡◌, ◌↔◌, ℕ, ◌+◌, ◌-◌, ◌<◌, ◌==◌, List, [], ◌∷◌, length, take, Bool, true, false, not, ◌||◌, if◌then◌else◌}
use Rattle.sql_grammar.specs.Refused.{is_too_deep}
use Rattle.sql_tree.specs.declared.token.Keyword.TheVariants as word
use Rattle.sql_tree.specs.declared.token.Symbol.TheVariants as symbol
use Rattle.sql_tree.specs.declared.token.Token.{Token}
use Rattle.sql_tree.specs.declared.token.Token.TheVariants.{Key}
use Rattle.sql_tree.specs.declared.token.Token.TheVariants as token

-- a `)` of these tokens closes a parenthesis before them, in which so many more are open
abbrev pub is_closed : ℕ → List Token → Bool
is_closed inner [] = false
is_closed inner (token.Symbol symbol.Open ∷ ts) = is_closed (inner + 1) ts
is_closed inner (token.Symbol symbol.Close ∷ ts) = (inner == 0) || is_closed (inner - 1) ts
is_closed inner (t ∷ ts) = is_closed inner ts

-- a NOT or `-` directly before these tokens is open after them: they are more of these alone, or such
-- and then a parenthesis that is open
abbrev pub is_leading : List Token → Bool
is_leading [] = true
is_leading (Key word.Not ∷ ts) = is_leading ts
is_leading (token.Symbol symbol.Minus ∷ ts) = is_leading ts
is_leading (token.Symbol symbol.Open ∷ ts) = not (is_closed 0 ts)
is_leading (t ∷ ts) = false

-- the token begins a construct that is open after the tokens that follow
abbrev pub is_open_after : Token → List Token → Bool
is_open_after (Key word.Not) ts = is_leading ts
is_open_after (token.Symbol symbol.Minus) ts = is_leading ts
is_open_after (token.Symbol symbol.Open) ts = not (is_closed 0 ts)
is_open_after other ts = false

-- how many constructs are open after these tokens
abbrev pub open_after : List Token → ℕ
open_after [] = 0
open_after (t ∷ ts) = if is_open_after t ts then open_after ts + 1 else open_after ts

-- tokens are too deep exactly where more than 512 constructs are open before one of them
abbrev pub DeepIsOpen : Type 0
DeepIsOpen = (tokens : List Token) → (is_too_deep [] 0 tokens ≡ true) ↔ ((i : ℕ) × (i < length tokens) × (512 < open_after (take i tokens)))
