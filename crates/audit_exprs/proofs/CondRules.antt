-- Conditions are read by the rules of levels.
use Rattle.std.proofs.Common.{◌≡◌, ℕ, zero, suc, ◌<◌, ◌≤◌, List, [], ◌∷◌, ◌++◌, length, map, Bool, true, false, cond, Option, Some, None, refl, ap, sym, ◌∙◌, arith}
use Rattle.sql_grammar.specs.Grammar.{write_expr, expr_of, write_value, value_of, write_unit}
use Rattle.sql_grammar.specs.Grammar.CondRule.{Disjunction}
use Rattle.sql_grammar.specs.Grammar.ConjsRule.{NoConj}
use Rattle.sql_grammar.specs.Grammar.ConjRule.{Conjunction}
use Rattle.sql_grammar.specs.Grammar.UnitsRule.{NoUnit}
use Rattle.read_laws.specs.Bounded.{Builder, bounded}
use Rattle.read_laws.specs.Chain.{Found, Parser, first_token, after_first}
use Rattle.read_laws.specs.CondReader.{whole_expr, value, operand, any_test, condition, conjunction, enclosed, unit, whole_cond}
use Rattle.read_laws.specs.Parts.{is_key, is_symbol}
use Rattle.read_laws.specs.ExprReader.{expr, term, factor, closed}
use Rattle.read_laws.proofs.ChainLemmas.{then_then, or_first}
use Rattle.read_laws.proofs.CondSound.{whole_found, value_sound, unit_found}
use Rattle.read_laws.proofs.CondComplete.{cond_longer}
use Rattle.read_laws.proofs.OperandComplete.{expr_operand, value_operand}
use Rattle.sql_tree.specs.Tree.{ExprTree, CondTree}
use Rattle.sql_tree.specs.declared.token.Keyword.TheVariants as word
use Rattle.sql_tree.specs.declared.token.Symbol.TheVariants as symbol
use Rattle.sql_tree.specs.declared.token.Token.{Token}
use Rattle.sql_tree.specs.declared.token.Token.TheVariants.{Key}
use Rattle.sql_tree.specs.declared.token.Token.TheVariants as token
use Rattle.sql_tree.specs.declared.tree.Cond.{Cond}
use Rattle.text_bytes.specs.Found.{then_read}
use Rattle.audit_exprs.specs.declared.openings.Opening.{Opening}
use Rattle.audit_exprs.specs.declared.openings.Opening.TheVariants as opening_of
use Rattle.audit_exprs.specs.declared.conds.CondLevel.{CondLevel}
use Rattle.audit_exprs.specs.Ahead.{has_test}
use Rattle.audit_exprs.specs.Between.{Waits, rest_after, group, whole}
use Rattle.audit_exprs.specs.CondLevels.{cond_opening, cond_rules, joined, cond_waits, conds_wait}
use Rattle.audit_exprs.proofs.AheadLemmas.{foretold_condition, foretold_operand}
use Rattle.audit_exprs.proofs.BetweenLemmas.{AreRead}

abbrev pub opens : List Token → Option Opening
opens ts = cond_opening (first_token ts) (after_first ts)

-- a condition in a level is groups between far operators
condition_is : (build : Builder) (e : Parser ExprTree) (part : Parser CondTree) (ts : List Token) → condition build part ts ≡ whole (cond_rules build e) part ts
unfolding condition conjunction whole rest_after group
condition_is build e part ts = then_then (part ts) _ _

module _ (build : Builder) where
  shorter : (aggregates : Bool) (n : ℕ) (ts : List Token) (x : CondTree) (rest : List Token) → unit build (operand build aggregates) n ts ≡ Some (x, rest) → length rest < length ts
  shorter true n ts x rest h =
      let w = unit_found build write_value value_of (value build) (value_sound build) n ts x rest h in
      let a = cond_longer build write_value value_of (value build) (value_operand build) (Disjunction (Conjunction w.rule NoUnit) NoConj) rest in
      let e : length (write_unit write_value w.rule rest) ≡ length ts = ap length w.written in
      omega (arith, a, e)
  shorter false n ts x rest h =
      let w = unit_found build write_expr expr_of (whole_expr build) (whole_found build) n ts x rest h in
      let a = cond_longer build write_expr expr_of (whole_expr build) (expr_operand build) (Disjunction (Conjunction w.rule NoUnit) NoConj) rest in
      let e : length (write_unit write_expr w.rule rest) ≡ length ts = ap length w.written in
      omega (arith, a, e)

  opened : (ts : List Token) (o : Opening) → opens ts ≡ Some o → length (after_first ts) < length ts
  opened [] o h = cc
  opened (t ∷ ts) o h = omega arith

  -- no tokens are no test
  no_tokens : (aggregates : Bool) → any_test build (operand build aggregates) [] ≡ None
  unfolding any_test value whole_expr expr term factor
  no_tokens true = refl
  no_tokens false = refl

  module _ (aggregates : Bool) where
    prefix : (n : ℕ) (ts : List Token) → opens ts ≡ Some opening_of.Prefix → unit build (operand build aggregates) (suc n) ts ≡ then_read (unit build (operand build aggregates) n (after_first ts)) (λ x. let f : Found CondTree = Some ((cond_rules build (operand build aggregates)).prefix x.0, x.1) in f)
    unfolding unit is_key
    prefix n (Key word.Not ∷ ts) h = refl
    prefix n (token.Symbol symbol.Open ∷ ts) h = at (has_test zero ts) h
      where
        at : {X : Type 0} (b : Bool) → cond b (Some opening_of.Parenthesis) None ≡ Some opening_of.Prefix → X
        at true h = cc
        at false h = cc
    prefix n other h = cc

    inside : (n : ℕ) (ts : List Token) → opens ts ≡ Some opening_of.Parenthesis → unit build (operand build aggregates) (suc n) ts ≡ then_read (whole (cond_rules build (operand build aggregates)) (unit build (operand build aggregates) n) (after_first ts)) closed
    unfolding unit
    inside n (token.Symbol symbol.Open ∷ ts) h = at (has_test zero ts) refl h
      where
        at : (b : Bool) → has_test zero ts ≡ b → cond b (Some opening_of.Parenthesis) None ≡ Some opening_of.Parenthesis → unit build (operand build aggregates) (suc n) (token.Symbol symbol.Open ∷ ts) ≡ then_read (whole (cond_rules build (operand build aggregates)) (unit build (operand build aggregates) n) ts) closed
        at true e h = foretold_condition build aggregates n ts e ∙ ap (λ o. then_read o closed) (condition_is build (operand build aggregates) (unit build (operand build aggregates) n) ts)
        at false e h = cc
    inside n (Key word.Not ∷ ts) h = cc
    inside n other h = cc

    alone_is : (n : ℕ) (ts : List Token) → length ts ≤ n → opens ts ≡ None → unit build (operand build aggregates) n ts ≡ any_test build (operand build aggregates) ts
    unfolding unit is_key enclosed is_symbol
    alone_is zero [] room h = sym (no_tokens aggregates)
    alone_is zero (t ∷ ts) room h = absurd (omega arith)
    alone_is (suc n) (Key word.Not ∷ ts) room h = cc
    alone_is (suc n) (token.Symbol symbol.Open ∷ ts) room h = at (has_test zero ts) refl h
      where
        at : (b : Bool) → has_test zero ts ≡ b → cond b (Some opening_of.Parenthesis) None ≡ None → unit build (operand build aggregates) (suc n) (token.Symbol symbol.Open ∷ ts) ≡ any_test build (operand build aggregates) (token.Symbol symbol.Open ∷ ts)
        at true e h = cc
        at false e h = foretold_operand build aggregates n ts e
    alone_is (suc n) other room h = or_first (any_test build (operand build aggregates) other) None refl

    pub are_read : AreRead (cond_rules build (operand build aggregates)) opens (any_test build (operand build aggregates))
    are_read = record {
      no_near = refl;
      no_far = refl;
      shorter = shorter aggregates;
      opened = opened;
      prefix = prefix;
      inside = inside;
      alone_is = alone_is;
    }

pub whole_is : (build : Builder) (aggregates : Bool) (ts : List Token) → whole_cond build (operand build aggregates) ts ≡ whole (cond_rules build (operand build aggregates)) (unit build (operand build aggregates) (length ts)) ts
unfolding whole_cond
whole_is build aggregates ts = condition_is build (operand build aggregates) (unit build (operand build aggregates) (length ts)) ts

-- ## The levels of the code

abbrev pub wait : Option Cond → Option Cond → ℕ → Waits CondTree
wait disjunction conjunction nots = record { prefixes = nots; near = joined bounded.both conjunction; far = joined bounded.either disjunction }

pub level_waits : (l : CondLevel) (d c : Option Cond) (n : ℕ) → l.disjunction ≡ d → l.conjunction ≡ c → l.nots ≡ n → cond_waits l ≡ wait d c n
level_waits l d c n hd hc hn = ap (λ d. wait d l.conjunction l.nots) hd ∙ ap (λ c. wait d c l.nots) hc ∙ ap (wait d c) hn
