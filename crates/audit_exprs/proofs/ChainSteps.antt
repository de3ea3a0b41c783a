-- What a chain leaves, and when two chains find the same.
use Rattle.std.proofs.Common.{◌≡◌, ℕ, zero, suc, ◌<◌, ◌≤◌, List, [], ◌∷◌, length, true, Option, Some, None, refl, ap, sym, ◌∙◌, inl, inr, arith}
use Rattle.read_laws.specs.Chain.{Parser, first_token, after_first, given, chain}
use Rattle.read_laws.specs.ExprReader.{is_close}
use Rattle.read_laws.proofs.ChainLemmas.{chain_ends, chain_found, no_steps_found}
use Rattle.sql_tree.specs.declared.token.Token.{Token}
use Rattle.text_bytes.specs.Found.{then_read}

-- two readers that agree on what was found find the same after it
pub then_same : {X Y : Type 0} (o : Option X) (f g : X → Option Y) → ((x : X) → o ≡ Some x → f x ≡ g x) → then_read o f ≡ then_read o g
then_same None f g h = refl
then_same (Some x) f g h = h x refl

-- a reader leaves no more tokens than it is given
abbrev pub Shortens : {X : Type 0} → Parser X → Type 0
Shortens {X} part = (ts : List Token) (x : X) (rest : List Token) → part ts ≡ Some (x, rest) → length rest ≤ length ts

-- two readers find the same in so many tokens or fewer
abbrev pub AreAlike : {X : Type 0} → ℕ → Parser X → Parser X → Type 0
AreAlike n p q = (ts : List Token) → length ts ≤ n → p ts ≡ q ts

-- one less is left after the first
pub after_shorter : (ts : List Token) → length (after_first ts) ≤ length ts
after_shorter [] = omega arith
after_shorter (t ∷ ts) = omega arith

module _ {X Y O : Type 0} (op : Option Token → Option O) (join : O → X → Y → X) (part : Parser Y) (shortens : Shortens part) where
  pub chain_shortens : (n : ℕ) (left : X) → Shortens (chain op join part n left)
  chain_shortens zero left ts x rest h = let e : length ts ≡ length rest = ap length (no_steps_found op join part left ts x rest h).1 in omega arith
  chain_shortens (suc n) left ts x rest h =
      elim (chain_found op join part n left ts x rest h) [
        | inl e ↦ let e : length ts ≡ length rest = ap length e.1 in omega arith
        | inr s ↦
            let a = shortens (after_first ts) s.right s.behind s.right_is in
            let b = chain_shortens n (join s.operator left s.right) s.behind x rest s.more in
            let c = after_shorter ts in
            omega (arith, a, b, c)
      ]

-- a step of a chain that has an operator
pub chain_step : {X Y O : Type 0} (op : Option Token → Option O) (join : O → X → Y → X) (part : Parser Y) (n : ℕ) (left : X) (t : Token) (ts : List Token) (o : O) → op (Some t) ≡ Some o → chain op join part (suc n) left (t ∷ ts) ≡ then_read (part ts) (λ right. chain op join part n (join o left right.0) right.1)
unfolding chain
chain_step op join part n left t ts o h = ap (λ o. given o (Some (left, t ∷ ts)) (λ o. then_read (part ts) (λ right. chain op join part n (join o left right.0) right.1))) h

-- chains of parts that are alike find the same, and more steps than tokens change no result
module _ {X Y O : Type 0} (op : Option Token → Option O) (join : O → X → Y → X) (ends : op None ≡ None) (p q : Parser Y) (most : ℕ) (alike : AreAlike most p q) (shortens : Shortens p) where
  pub chain_alike : (n m : ℕ) (left : X) (ts : List Token) → length ts ≤ n → length ts ≤ m → length ts ≤ most → chain op join p n left ts ≡ chain op join q m left ts
  chain_alike n m left [] h k few = chain_ends op join p n left [] ends ∙ sym (chain_ends op join q m left [] ends)
  chain_alike zero m left (t ∷ ts) h k few = absurd (omega arith)
  chain_alike (suc n) zero left (t ∷ ts) h k few = absurd (omega arith)
  chain_alike (suc n) (suc m) left (t ∷ ts) h k few =
      at (op (Some t)) refl (λ o r a. chain_alike n m (join o left r.0) r.1 (omega (arith, a)) (omega (arith, a)) (omega (arith, a)))
    where
      at : (o : Option O) → op (Some t) ≡ o → ((o : O) (r : Y × List Token) → length r.1 ≤ length ts → chain op join p n (join o left r.0) r.1 ≡ chain op join q m (join o left r.0) r.1) → chain op join p (suc n) left (t ∷ ts) ≡ chain op join q (suc m) left (t ∷ ts)
      at None e more = chain_ends op join p (suc n) left (t ∷ ts) e ∙ sym (chain_ends op join q (suc m) left (t ∷ ts) e)
      at (Some o) e more =
          chain_step op join p n left t ts o e
          ∙ then_same (p ts) _ _ (λ r found. more o r (shortens ts r.0 r.1 found))
          ∙ ap (λ f. then_read f (λ right. chain op join q m (join o left right.0) right.1)) (alike ts (omega arith))
          ∙ sym (chain_step op join q m left t ts o e)

-- an operator or a `)` is a token
pub some_shorter : {X : Type 0} (op : Option Token → Option X) (ts : List Token) (x : X) → op None ≡ None → op (first_token ts) ≡ Some x → length (after_first ts) < length ts
some_shorter op [] x none h = let e : None ≡ Some x = sym none ∙ h in cc
some_shorter op (t ∷ ts) x none h = omega arith

pub close_shorter : (ts : List Token) → is_close (first_token ts) ≡ true → length (after_first ts) < length ts
close_shorter [] h = cc
close_shorter (t ∷ ts) h = omega arith
