-- What a `(` opens where a unit of a condition has to be: a condition exactly if a test's word comes before
-- its `)`, and else the first operand of a test.
use Rattle.std.specs.Prelude.{ℕ, zero, suc, List, [], ◌∷◌, Bool, true, false, ◌||◌}
use Rattle.sql_tree.specs.declared.token.Keyword.TheVariants as word
use Rattle.sql_tree.specs.declared.token.Symbol.TheVariants as symbol
use Rattle.sql_tree.specs.declared.token.Token.{Token}
use Rattle.sql_tree.specs.declared.token.Token.TheVariants.{Key}
use Rattle.sql_tree.specs.declared.token.Token.TheVariants as token

-- a comparison, BETWEEN, IN or IS
abbrev pub is_test_word : Token → Bool
is_test_word (token.Symbol symbol.Equal) = true
is_test_word (token.Symbol symbol.NotEqual) = true
is_test_word (token.Symbol symbol.BangEqual) = true
is_test_word (token.Symbol symbol.Less) = true
is_test_word (token.Symbol symbol.LessEqual) = true
is_test_word (token.Symbol symbol.Greater) = true
is_test_word (token.Symbol symbol.GreaterEqual) = true
is_test_word (Key word.Between) = true
is_test_word (Key word.In) = true
is_test_word (Key word.Is) = true
is_test_word other = false

-- after a `)`: it is the one that is sought, or one of those that are open inside
abbrev pub after_close : ℕ → (ℕ → Bool) → Bool
after_close zero further = false
after_close (suc inside) further = further inside

-- a test's word comes before the `)` that is sought, where so many more parentheses are open inside
abbrev pub has_test : ℕ → List Token → Bool
has_test inside [] = false
has_test inside (token.Symbol symbol.Open ∷ tokens) = has_test (suc inside) tokens
has_test inside (token.Symbol symbol.Close ∷ tokens) = after_close inside (λ inside. has_test inside tokens)
has_test inside (t ∷ tokens) = is_test_word t || has_test inside tokens
