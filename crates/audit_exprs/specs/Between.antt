-- Parts between operators that bind more and operators that bind less, read level by level: what the open
-- levels make of what is read.
use Rattle.std.specs.Prelude.{◌≡◌, ℕ, zero, suc, ◌+◌, ◌<◌, ◌≤◌, List, [], ◌∷◌, length, Option, Some, None}
use Rattle.read_laws.specs.Chain.{Parser, chain}
use Rattle.read_laws.specs.ExprReader.{closed}
use Rattle.sql_tree.specs.declared.token.Token.{Token}
use Rattle.text_bytes.specs.Found.{then_read}

-- a language: its near operators, which bind more, and its far ones, what comes before a part, and its parts
-- of so many levels at most
pub record Rules (X O P : Type 0) : Type 0 where
  pub near : Option Token → Option O
  pub near_join : O → X → X → X
  pub far : Option Token → Option P
  pub far_join : P → X → X → X
  pub prefix : X → X
  pub part : ℕ → Parser X

-- an open level, which waits for a part: so many prefixes come before it, and then a near and a far operator
-- with their left sides
pub record Waits (X : Type 0) : Type 0 where
  pub prefixes : ℕ
  pub near : X → X
  pub far : X → X

-- what comes next: a part has to be here, or it was read, or all was read
pub data Next (X : Type 0) : Type 0 where
  Wanted : Next X
  Was : X → Next X
  Done : X → Next X

-- a level in which no part was read
abbrev pub fresh : {X : Type 0} → Waits X
fresh = record { prefixes = 0; near = λ x. x; far = λ x. x }

-- the prefixes of the open levels
abbrev pub all_prefixes : {X : Type 0} → List (Waits X) → ℕ
all_prefixes [] = 0
all_prefixes (w ∷ levels) = w.prefixes + all_prefixes levels

-- what falls with each step
abbrev pub cost : {X : Type 0} → Next X → List Token → ℕ
cost (Done x) tokens = length tokens
cost other tokens = length tokens + 1

-- a part after so many prefixes
unfoldable pub prefixed : {X : Type 0} → (X → X) → ℕ → X → X
prefixed prefix zero x = x
prefixed prefix (suc n) x = prefixed prefix n (prefix x)

module _ {X O P : Type 0} (rules : Rules X O P) where
  module _ (part : Parser X) where
    -- parts between near operators
    unfoldable pub group : Parser X
    group tokens = then_read (part tokens) (λ x. chain rules.near rules.near_join part (length x.1) x.0 x.1)

    -- what follows a part, where `far` waits for its group
    unfoldable pub rest_after : (X → X) → X → Parser X
    rest_after far x tokens = then_read (chain rules.near rules.near_join part (length tokens) x tokens) (λ g. chain rules.far rules.far_join group (length g.1) (far g.0) g.1)

    -- groups between far operators
    unfoldable pub whole : Parser X
    whole tokens = then_read (part tokens) (λ x. rest_after (λ x. x) x.0 x.1)

  -- a part, with as many levels as there are tokens
  unfoldable pub any_part : Parser X
  any_part tokens = rules.part (length tokens) tokens

  -- a part with its prefixes and its near operator
  abbrev pub near_of : Waits X → X → X
  near_of w x = w.near (prefixed rules.prefix w.prefixes x)

  -- what a level makes of its part
  abbrev pub level_of : Waits X → X → Parser X
  level_of w x = rest_after any_part w.far (near_of w x)

  -- what the levels outside make of what a level holds: each closes, and goes on after it
  abbrev pub leave : List (Waits X) → X → Parser X
  leave [] x tokens = Some (x, tokens)
  leave (w ∷ outer) x tokens = then_read (closed (x, tokens)) (λ c. then_read (level_of w c.0 c.1) (λ e. leave outer e.0 e.1))

  -- what the levels make of a part that was read
  unfoldable pub after_part : Waits X → List (Waits X) → X → Parser X
  after_part w outer x tokens = then_read (level_of w x tokens) (λ e. leave outer e.0 e.1)

  -- what is read from here on
  unfoldable pub comes : Waits X → List (Waits X) → Next X → Parser X
  comes w outer Wanted tokens = then_read (any_part tokens) (λ x. after_part w outer x.0 x.1)
  comes w outer (Was x) tokens = after_part w outer x tokens
  comes w outer (Done x) tokens = Some (x, tokens)

  -- a step leaves what is read, and takes a token or ends
  pub record GoesOn (w : Waits X) (outer : List (Waits X)) (from : Next X) (tokens : List Token) (v : Waits X) (left : List (Waits X)) (to : Next X) (rest : List Token) : Type 0 where
    pub same : comes w outer from tokens ≡ comes v left to rest
    pub less : cost to rest < cost from tokens
    pub few : all_prefixes (v ∷ left) + length rest ≤ all_prefixes (w ∷ outer) + length tokens

  -- reading fails from here on
  abbrev pub Stops : Waits X → List (Waits X) → Next X → List Token → Type 0
  Stops w outer from tokens = comes w outer from tokens ≡ None
