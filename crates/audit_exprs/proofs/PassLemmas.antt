-- A pass of a loop that reads a part and joins it to those so far in one call.
use Rattle.std.proofs.Common.{◌≡◌, ℕ, suc, ◌+◌, ◌-◌, ◌<◌, List, Option, Some, None, ap, sym, ◌∙◌, arith}
use Rattle.read_laws.specs.Chain.{Found, Parser, first_token, after_first, given, chain}
use Rattle.read_laws.proofs.ChainLemmas.{then_then}
use Rattle.sql_tree.specs.declared.token.Token.{Token}
use Rattle.text_bytes.specs.Found.{then_read}

module _ {X Y O : Type 0} (op : Option Token → Option O) (join : O → X → Y → X) (part : Parser Y) (end turn : ℕ) (left : X) (ts : List Token) (o : O) (more : turn < end) (h : op (first_token ts) ≡ Some o) where
  -- the part after the operator, joined
  abbrev pub joined_part : Found X
  joined_part = then_read (part (after_first ts)) (λ right. Some (join o left right.0, right.1))

  pass : chain op join part (end - turn) left ts ≡ then_read joined_part (λ new. chain op join part (end - (turn + 1)) new.0 new.1)
  unfolding chain
  pass =
      let e : end - turn ≡ suc (end - (turn + 1)) = omega (arith, more) in
      ap (λ n. chain op join part n left ts) e
      ∙ ap (λ o. given o (Some (left, ts)) (λ o. then_read (part (after_first ts)) (λ right. chain op join part (end - (turn + 1)) (join o left right.0) right.1))) h
      ∙ sym (then_then (part (after_first ts)) (λ right. let f : Found X = Some (join o left right.0, right.1) in f) (λ new. chain op join part (end - (turn + 1)) new.0 new.1))

  pub pass_goes : (new : X) (rest : List Token) → joined_part ≡ Some (new, rest) → chain op join part (end - turn) left ts ≡ chain op join part (end - (turn + 1)) new rest
  pass_goes new rest found = pass ∙ ap (λ f. then_read f (λ new. chain op join part (end - (turn + 1)) new.0 new.1)) found

  pub pass_breaks : joined_part ≡ None → chain op join part (end - turn) left ts ≡ None
  pass_breaks found = pass ∙ ap (λ f. then_read f (λ new. chain op join part (end - (turn + 1)) new.0 new.1)) found
