-- What the readers are made of, on plain lists of tokens: parts one after the other, and parts between
-- operators.
use Rattle.std.specs.Prelude.{ℕ, zero, suc, List, [], ◌∷◌, Option, Some, None}
use Rattle.sql_tree.specs.declared.token.Token.{Token}
use Rattle.text_bytes.specs.Found.{then_read}

-- what a reader finds: a value and the tokens after it
abbrev pub Found : Type 0 → Type 0
Found X = Option (X × List Token)

abbrev pub Parser : Type 0 → Type 0
Parser X = List Token → Found X

-- the first of the tokens
abbrev pub first_token : List Token → Option Token
first_token [] = None
first_token (t ∷ tokens) = Some t

-- the tokens after the first
abbrev pub after_first : List Token → List Token
after_first [] = []
after_first (t ∷ tokens) = tokens

-- the first choice, or the second where there is no first
abbrev pub or_read : {X : Type 0} → Option X → Option X → Option X
or_read None second = second
or_read (Some x) second = Some x

-- one value where there is none, and another where there is one
abbrev pub given : {X Y : Type 0} → Option X → Y → (X → Y) → Y
given None none some = none
given (Some x) none some = some x

-- parts after a first one, each after an operator, in so many steps: they are joined to the left
unfoldable pub chain : {X Y O : Type 0} → (Option Token → Option O) → (O → X → Y → X) → Parser Y → ℕ → X → Parser X
chain op join part zero left tokens = Some (left, tokens)
chain op join part (suc n) left tokens =
    given (op (first_token tokens)) (Some (left, tokens)) (λ o. then_read (part (after_first tokens)) (λ right. chain op join part n (join o left right.0) right.1))
