-- Parts one after the other, and parts between operators.
use Rattle.std.proofs.Common.{◌≡◌, ℕ, zero, suc, ◌+◌, ◌-◌, ◌<◌, ◌≤◌, arith, List, [], ◌∷◌, length, Bool, true, false, cond, Option, Some, None, refl, ap, sym, ◌∙◌, ◌⊎◌, inl, inr}
use Rattle.sql_tree.specs.declared.token.Token.{Token}
use Rattle.text_bytes.specs.Found.{then_read}
use Rattle.text_bytes.proofs.FoundLemmas.{then_found, pair_found, value_found}
use Rattle.read_laws.specs.Chain.{Found, Parser, first_token, after_first, or_read, given, chain}

-- what each of two readers finds is found
pub then_told : {X Y : Type 0} (o : Option X) (x : X) (f : X → Option Y) (y : Option Y) → o ≡ Some x → f x ≡ y → then_read o f ≡ y
then_told o x f y first second = ap (λ o. then_read o f) first ∙ second

-- where nothing is found, nothing is found after it
pub then_none : {X Y : Type 0} (o : Option X) (f : X → Option Y) → o ≡ None → then_read o f ≡ None
then_none o f first = ap (λ o. then_read o f) first

-- three readers one after the other, joined on either side
pub then_then : {X Y Z : Type 0} (o : Option X) (f : X → Option Y) (g : Y → Option Z) → then_read (then_read o f) g ≡ then_read o (λ x. then_read (f x) g)
then_then None f g = refl
then_then (Some x) f g = refl

-- where the second choice finds nothing, the first is what is found
pub or_first : {X : Type 0} (first second : Option X) → second ≡ None → or_read first second ≡ first
or_first None second h = h
or_first (Some x) second h = refl

-- a choice is the value in the case that holds
pub given_told : {X Y : Type 0} (o : Option X) (x : X) (none : Y) (some : X → Y) (y : Y) → o ≡ Some x → some x ≡ y → given o none some ≡ y
given_told o x none some y first second = ap (λ o. given o none some) first ∙ second

pub given_none : {X Y : Type 0} (o : Option X) (none : Y) (some : X → Y) (y : Y) → o ≡ None → none ≡ y → given o none some ≡ y
given_none o none some y first second = ap (λ o. given o none some) first ∙ second

-- two readers find what the first finds, and what the second finds where the first finds nothing
pub or_told : {X : Type 0} (first second : Option X) (x : X) → first ≡ Some x → or_read first second ≡ Some x
or_told first second x h = ap (λ o. or_read o second) h

pub or_none : {X : Type 0} (first second : Option X) (y : Option X) → first ≡ None → second ≡ y → or_read first second ≡ y
or_none first second y h k = ap (λ o. or_read o second) h ∙ k

-- the branch of a test whose result is known
pub branch_false : {X : Type 0} (b : Bool) (x y z : X) → b ≡ false → y ≡ z → cond b x y ≡ z
branch_false b x y z h k = ap (λ b. cond b x y) h ∙ k

pub branch_true : {X : Type 0} (b : Bool) (x y z : X) → b ≡ true → x ≡ z → cond b x y ≡ z
branch_true b x y z h k = ap (λ b. cond b x y) h ∙ k

-- a choice finds what one of the two finds
pub given_found : {X Y : Type 0} (o : Option X) (none : Y) (some : X → Y) (y : Y) → given o none some ≡ y → ((o ≡ None) × (none ≡ y)) ⊎ ((x : X) × (o ≡ Some x) × (some x ≡ y))
given_found None none some y h = inl (refl, h)
given_found (Some x) none some y h = inr (x, refl, h)

-- where a test has to hold, it holds
pub cond_found : {X : Type 0} (b : Bool) (x y : X) → cond b (Some x) None ≡ Some y → (b ≡ true) × (x ≡ y)
cond_found true x y h = (refl, cc)
cond_found false x y h = cc

-- what is found, the first choice or the second found
pub or_found : {X : Type 0} (first second : Option X) (y : X) → or_read first second ≡ Some y → (first ≡ Some y) ⊎ (second ≡ Some y)
or_found None second y h = inr h
or_found (Some x) second y h = inl h

-- what is found is all of the tokens where none is left, and nothing is all of them where some are left
-- or nothing is found
pub all_found : {X : Type 0} (o : Found X) (x : X) (rest : List Token) → o ≡ Some (x, rest) → rest ≡ [] → o ≡ Some (x, [])
all_found o x rest h none = h ∙ ap (λ (r : List Token). let f : Found _ = Some (x, r) in f) none

pub left_over : {X : Type 0} (o : Found X) (x : X) (rest : List Token) → o ≡ Some (x, rest) → 0 < length rest → (y : X) → o ≡ Some (y, []) → ⊥
left_over o x rest h some y k =
    let parts = pair_found x y rest [] (sym h ∙ k) in
    let none : length rest ≡ 0 = ap length parts.1 in
    omega arith

pub nothing_found : {X : Type 0} (o : Found X) → o ≡ None → (y : X) → o ≡ Some (y, []) → ⊥
nothing_found o h y k = let both : ◌≡◌ {A = Found _} None (Some (y, [])) = sym h ∙ k in cc

-- tokens with a first one are it and those after it
pub first_found : (ts : List Token) (t : Token) → first_token ts ≡ Some t → t ∷ after_first ts ≡ ts
first_found [] t h = cc
first_found (u ∷ ts) t h = ap (λ t. t ∷ ts) (sym (value_found u t h))

module _ {X Y O : Type 0} (op : Option Token → Option O) (join : O → X → Y → X) (part : Parser Y) where
  -- where there is no operator, the chain ends
  pub chain_ends : (n : ℕ) (left : X) (ts : List Token) → op (first_token ts) ≡ None → chain op join part n left ts ≡ Some (left, ts)
  unfolding chain
  chain_ends zero left ts h = refl
  chain_ends (suc n) left ts h = ap (λ o. given o (Some (left, ts)) (λ o. then_read (part (after_first ts)) (λ right. chain op join part n (join o left right.0) right.1))) h

  -- where there is one and a part after it, the chain goes on with them
  pub chain_goes_on : (n : ℕ) (left : X) (ts : List Token) (o : O) (right : Y) (rest : List Token) → op (first_token ts) ≡ Some o → part (after_first ts) ≡ Some (right, rest) → chain op join part (suc n) left ts ≡ chain op join part n (join o left right) rest
  unfolding chain
  chain_goes_on n left ts o right rest operator found =
      ap (λ o. given o (Some (left, ts)) (λ o. then_read (part (after_first ts)) (λ right. chain op join part n (join o left right.0) right.1))) operator
      ∙ ap (λ r. then_read r (λ right. chain op join part n (join o left right.0) right.1)) found

  -- where there is one and no part after it, the chain finds nothing
  pub chain_breaks : (n : ℕ) (left : X) (ts : List Token) (o : O) → op (first_token ts) ≡ Some o → part (after_first ts) ≡ None → chain op join part (suc n) left ts ≡ None
  unfolding chain
  chain_breaks n left ts o operator found =
      ap (λ o. given o (Some (left, ts)) (λ o. then_read (part (after_first ts)) (λ right. chain op join part n (join o left right.0) right.1))) operator
      ∙ ap (λ r. then_read r (λ right. chain op join part n (join o left right.0) right.1)) found

  -- a pass of a loop over the parts: where a part follows the operator, where none does, and the last pass
  pub turn_goes_on : (end turn : ℕ) (left : X) (ts : List Token) (o : O) (right : Y) (rest : List Token) (new : X) → turn < end → op (first_token ts) ≡ Some o → part (after_first ts) ≡ Some (right, rest) → new ≡ join o left right → chain op join part (end - turn) left ts ≡ chain op join part (end - (turn + 1)) new rest
  turn_goes_on end turn left ts o right rest new h operator found joined =
      let e : end - turn ≡ suc (end - (turn + 1)) = omega arith in
      ap (λ n. chain op join part n left ts) e ∙ chain_goes_on (end - (turn + 1)) left ts o right rest operator found ∙ ap (λ x. chain op join part (end - (turn + 1)) x rest) (sym joined)

  pub turn_breaks : (end turn : ℕ) (left : X) (ts : List Token) (o : O) → turn < end → op (first_token ts) ≡ Some o → part (after_first ts) ≡ None → chain op join part (end - turn) left ts ≡ None
  turn_breaks end turn left ts o h operator found =
      let e : end - turn ≡ suc (end - (turn + 1)) = omega arith in
      ap (λ n. chain op join part n left ts) e ∙ chain_breaks (end - (turn + 1)) left ts o operator found

  pub last_turn : (end turn : ℕ) (left : X) (ts : List Token) → end ≤ turn → chain op join part (end - turn) left ts ≡ Some (left, ts)
  unfolding chain
  last_turn end turn left ts h = let e : end - turn ≡ 0 = omega arith in ap (λ n. chain op join part n left ts) e

  -- a step of a chain
  pub record Step (n : ℕ) (left : X) (ts : List Token) (x : X) (rest : List Token) : Type 0 where
    pub operator : O
    pub right : Y
    pub behind : List Token
    pub operator_is : op (first_token ts) ≡ Some operator
    pub right_is : part (after_first ts) ≡ Some (right, behind)
    pub more : chain op join part n (join operator left right) behind ≡ Some (x, rest)

  -- what a chain finds is what it began with, or it took a step
  pub chain_found : (n : ℕ) (left : X) (ts : List Token) (x : X) (rest : List Token) → chain op join part (suc n) left ts ≡ Some (x, rest) → ((left ≡ x) × (ts ≡ rest)) ⊎ Step n left ts x rest
  unfolding chain
  chain_found n left ts x rest h = at (op (first_token ts)) refl h
    where
      at : (o : Option O) → op (first_token ts) ≡ o → given o (Some (left, ts)) (λ o. then_read (part (after_first ts)) (λ right. chain op join part n (join o left right.0) right.1)) ≡ Some (x, rest) → ((left ≡ x) × (ts ≡ rest)) ⊎ Step n left ts x rest
      at None e h = inl (pair_found left x ts rest h)
      at (Some o) e h =
          let f = then_found _ _ _ h in
          inr (record { operator = o; right = f.0.0; behind = f.0.1; operator_is = e; right_is = f.1; more = f.2 })

  pub no_steps_found : (left : X) (ts : List Token) (x : X) (rest : List Token) → chain op join part zero left ts ≡ Some (x, rest) → (left ≡ x) × (ts ≡ rest)
  unfolding chain
  no_steps_found left ts x rest h = pair_found left x ts rest h
