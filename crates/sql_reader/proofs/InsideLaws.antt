-- What parentheses enclose is an expression or a condition, and not both.
use Rattle.std.proofs.Common.{◌≡◌, ◌≢◌, ◌-◌, ℕ, zero, suc, List, ◌∷◌, length, Bool, true, false, Some, None, refl, ap, sym, ◌∙◌, subst}
use Rattle.std.specs.Prelude.{Result, Ok, Err, IfOk}
use Rattle.sql_grammar.specs.Grammar.{sign}
use Rattle.read_laws.specs.Bounded.{bounded}
use Rattle.read_laws.specs.Chain.{Found, Parser, first_token, after_first, chain}
use Rattle.read_laws.specs.CondReader.{aggregate_in, whole_expr, value, operand, range, word_test, test_behind, any_test, condition, closed_condition, operand_inside, condition_inside, operand_from, enclosed, unit_of, unit, test_from, condition_from}
use Rattle.sql_reader.specs.Inside.{IsInside}
use Rattle.read_laws.specs.Parts.{is_key, is_symbol}
use Rattle.read_laws.specs.ExprReader.{sign_in, closed, term_after, term, expr_after, expr, factor}
use Rattle.sql_reader.specs.declared.conditions.Parenthesised.{Parenthesised}
use Rattle.sql_reader.specs.declared.reading.TreeError.{TreeError}
use Rattle.sql_reader.specs.declared.conditions.Parenthesised.TheVariants.{Operand, Condition}
use Rattle.read_laws.proofs.ChainLemmas.{then_told, then_none, given_none, branch_false, branch_true, or_none, or_first}
use Rattle.read_laws.proofs.CondLaws.{unit_inner, condition_goes_on, condition_none}
use Rattle.read_laws.proofs.OperandComplete.{expr_operand, value_operand}
use Rattle.read_laws.proofs.TokenTests.{key_found, symbol_found, closed_found}
use Rattle.sql_tree.specs.Tree.{ExprTree, CondTree, expr_tree, cond_tree}
use Rattle.sql_tree.specs.declared.tree.Cond.{Cond}
use Rattle.sql_tree.specs.declared.tree.Expr.{Expr}
use Rattle.sql_tree.specs.declared.token.Keyword.TheVariants as word
use Rattle.sql_tree.specs.declared.token.Symbol.TheVariants as symbol
use Rattle.sql_tree.specs.declared.token.Token.{Token}
use Rattle.sql_tree.specs.declared.token.Token.TheVariants.{Key}
use Rattle.sql_tree.specs.declared.token.Token.TheVariants as token
use Rattle.text_bytes.specs.Found.{then_read}
use Rattle.text_bytes.proofs.FoundLemmas.{then_found}

-- ## Behind a `(`

-- where no expression is enclosed, no operand begins there
opens_none : (aggregates : Bool) (ts : List Token) → operand_inside bounded ts ≡ None → operand bounded aggregates (sign symbol.Open ∷ ts) ≡ None
unfolding whole_expr
opens_none true ts h = (value_operand bounded).opens ts h
opens_none false ts h = (expr_operand bounded).opens ts h

whole_none : (ts : List Token) → operand_inside bounded ts ≡ None → whole_expr bounded (sign symbol.Open ∷ ts) ≡ None
whole_none ts h = opens_none false ts h

-- where one is, it is the first factor
whole_goes_on : (ts : List Token) (e : ExprTree) (rest : List Token) → operand_inside bounded ts ≡ Some (e, rest) → whole_expr bounded (sign symbol.Open ∷ ts) ≡ expr_after bounded (factor bounded (suc (length ts))) e rest
unfolding whole_expr expr term factor expr_after
whole_goes_on ts e rest h =
    ap (λ o. then_read (then_read o (λ first. term_after bounded (factor bounded (suc (length ts))) first.0 first.1)) (λ first. chain sign_in bounded.operator (term bounded (factor bounded (suc (length ts)))) (length first.1) first.0 first.1)) h

operand_goes_on : (aggregates : Bool) (ts : List Token) (e : ExprTree) (rest : List Token) → operand_inside bounded ts ≡ Some (e, rest) → operand bounded aggregates (sign symbol.Open ∷ ts) ≡ expr_after bounded (factor bounded (suc (length ts))) e rest
unfolding value
operand_goes_on true ts e rest h = whole_goes_on ts e rest h
operand_goes_on false ts e rest h = whole_goes_on ts e rest h

close_is : (rest : List Token) → is_symbol symbol.Close (first_token (sign symbol.Close ∷ rest)) ≡ false → ⊥
unfolding is_symbol
close_is rest e = cc

-- ## No tokens are both

-- an expression begins with no NOT and no aggregate
not_none : (ts : List Token) → whole_expr bounded (Key word.Not ∷ ts) ≡ None
unfolding whole_expr expr term factor
not_none ts = refl

no_not : (ts : List Token) (found : ExprTree × List Token) → whole_expr bounded ts ≡ Some found → is_key word.Not (first_token ts) ≡ false
no_not ts found h = at (is_key word.Not (first_token ts)) refl
  where
    at : (b : Bool) → is_key word.Not (first_token ts) ≡ b → is_key word.Not (first_token ts) ≡ false
    at false e = e
    at true e = let both : ◌≡◌ {A = Found ExprTree} None (Some found) = sym (ap (whole_expr bounded) (sym (key_found word.Not ts e)) ∙ not_none (after_first ts)) ∙ h in absurd (cc)

no_aggregate : (ts : List Token) (found : ExprTree × List Token) → whole_expr bounded ts ≡ Some found → aggregate_in (first_token ts) ≡ None
unfolding whole_expr expr term factor
no_aggregate (Key word.Count ∷ ts) found h = absurd (cc)
no_aggregate (Key word.Sum ∷ ts) found h = absurd (cc)
no_aggregate (Key word.Min ∷ ts) found h = absurd (cc)
no_aggregate (Key word.Max ∷ ts) found h = absurd (cc)
no_aggregate other found h = refl

operand_is : (aggregates : Bool) (ts : List Token) (found : ExprTree × List Token) → whole_expr bounded ts ≡ Some found → operand bounded aggregates ts ≡ Some found
unfolding value
operand_is true ts found h = given_none _ _ _ _ (no_aggregate ts found h) h
operand_is false ts found h = h

module _ (aggregates : Bool) where
  -- before a `)` there is no rest of a test
  closed_none : (of : ExprTree) (rest : List Token) → test_behind bounded (operand bounded aggregates) of (sign symbol.Close ∷ rest) ≡ None
  unfolding test_behind word_test range is_key
  closed_none of rest = refl

  no_test : (ts : List Token) (of : ExprTree) (behind : List Token) (rest : List Token) → whole_expr bounded ts ≡ Some (of, behind) → sign symbol.Close ∷ rest ≡ behind → any_test bounded (operand bounded aggregates) ts ≡ None
  unfolding any_test
  no_test ts of behind rest h e = then_told _ _ _ _ (operand_is aggregates ts (of, behind) h) (ap (test_behind bounded (operand bounded aggregates) of) (sym e) ∙ closed_none of rest)

  -- nor a condition in parentheses: no unit is read where an expression and its `)` are
  abbrev NoUnit : ℕ → Type 0
  NoUnit n = (ts : List Token) (e : ExprTree) (rest : List Token) → operand_inside bounded ts ≡ Some (e, rest) → unit bounded (operand bounded aggregates) n ts ≡ None

  no_enclosed : (n : ℕ) → NoUnit n → (ts : List Token) (found : ExprTree × List Token) → whole_expr bounded ts ≡ Some found → enclosed bounded (unit bounded (operand bounded aggregates) n) ts ≡ None
  unfolding enclosed
  no_enclosed n none ts found h = at (is_symbol symbol.Open (first_token ts)) refl
    where
      inner : is_symbol symbol.Open (first_token ts) ≡ true → (o : Found ExprTree) → operand_inside bounded (after_first ts) ≡ o → condition_inside bounded (unit bounded (operand bounded aggregates) n) (after_first ts) ≡ None
      inner open_ None e = let both : ◌≡◌ {A = Found ExprTree} None (Some found) = sym (ap (whole_expr bounded) (sym (symbol_found symbol.Open ts open_)) ∙ whole_none (after_first ts) e) ∙ h in absurd (cc)
      inner open_ (Some (of, rest)) e = then_none _ closed (condition_none bounded _ (after_first ts) (none (after_first ts) of rest e))

      at : (b : Bool) → is_symbol symbol.Open (first_token ts) ≡ b → enclosed bounded (unit bounded (operand bounded aggregates) n) ts ≡ None
      at false e = branch_false _ _ _ _ e refl
      at true e = branch_true _ _ _ _ e (inner e (operand_inside bounded (after_first ts)) refl)

  no_unit : (n : ℕ) → NoUnit n
  unfolding unit
  no_unit zero ts e rest h = refl
  no_unit (suc n) ts e rest h =
      let f = then_found (whole_expr bounded ts) closed (e, rest) h in
      branch_false _ _ _ _ (no_not ts f.0 f.1) (or_none _ _ _ (no_test ts f.0.0 f.0.1 rest f.1 (closed_found f.0 e rest f.2).1) (no_enclosed n (no_unit n) ts f.0 f.1))

  -- ## A unit that begins with `(`

  open_unit : (n : ℕ) (ts : List Token) → operand_inside bounded ts ≡ None → unit_of bounded (operand bounded aggregates) (unit bounded (operand bounded aggregates) n) (sign symbol.Open ∷ ts) ≡ condition_inside bounded (unit bounded (operand bounded aggregates) n) ts
  unfolding is_key is_symbol enclosed any_test
  open_unit n ts h = or_none _ _ _ (then_none _ _ (opens_none aggregates ts h)) refl

  open_test : (n : ℕ) (ts : List Token) (e : ExprTree) (rest : List Token) → operand_inside bounded ts ≡ Some (e, rest) → unit_of bounded (operand bounded aggregates) (unit bounded (operand bounded aggregates) n) (sign symbol.Open ∷ ts) ≡ test_from bounded (operand bounded aggregates) (suc (length ts)) e rest
  unfolding is_key is_symbol enclosed any_test test_from
  open_test n ts e rest h =
      or_first (any_test bounded (operand bounded aggregates) (sign symbol.Open ∷ ts)) (enclosed bounded (unit bounded (operand bounded aggregates) n) (sign symbol.Open ∷ ts)) (then_none _ closed (condition_none bounded _ ts (no_unit n ts e rest h)))
      ∙ ap (λ o. then_read o (λ of. test_behind bounded (operand bounded aggregates) of.0 of.1)) (operand_goes_on aggregates ts e rest h)

  -- the unit of tokens that begin with no NOT
  pub unit_enclosed : (n : ℕ) (ts after : List Token) → is_symbol symbol.Open (first_token ts) ≡ true → after ≡ after_first ts → operand_inside bounded after ≡ None → unit_of bounded (operand bounded aggregates) (unit bounded (operand bounded aggregates) n) ts ≡ condition_inside bounded (unit bounded (operand bounded aggregates) n) after
  unit_enclosed n ts after open_ e h =
      ap (unit_of bounded (operand bounded aggregates) (unit bounded (operand bounded aggregates) n)) (sym (symbol_found symbol.Open ts open_) ∙ ap (λ a. sign symbol.Open ∷ a) (sym e)) ∙ open_unit n after h

  pub unit_from : (n : ℕ) (ts after : List Token) (of : ExprTree) (rest : List Token) → is_symbol symbol.Open (first_token ts) ≡ true → after ≡ after_first ts → operand_inside bounded after ≡ Some (of, rest) → unit_of bounded (operand bounded aggregates) (unit bounded (operand bounded aggregates) n) ts ≡ test_from bounded (operand bounded aggregates) (length ts) of rest
  unit_from n ts after of rest open_ e h =
      let same : sign symbol.Open ∷ after ≡ ts = ap (λ a. sign symbol.Open ∷ a) e ∙ symbol_found symbol.Open ts open_ in
      ap (unit_of bounded (operand bounded aggregates) (unit bounded (operand bounded aggregates) n)) (sym same) ∙ open_test n after of rest h ∙ ap (λ (ts : List Token). test_from bounded (operand bounded aggregates) (length ts) of rest) same

  -- one that begins with neither is a test
  pub unit_test : (n : ℕ) (ts : List Token) → is_key word.Not (first_token ts) ≡ false → is_symbol symbol.Open (first_token ts) ≡ false → unit_of bounded (operand bounded aggregates) (unit bounded (operand bounded aggregates) n) ts ≡ any_test bounded (operand bounded aggregates) ts
  unfolding enclosed
  unit_test n ts denied open_ = branch_false _ _ _ _ denied (or_first _ _ (branch_false _ _ _ _ open_ refl))

  -- ## Parentheses in parentheses

  -- a condition before `)`, by its first unit
  cond_first : (part : Parser CondTree) (ts : List Token) → condition_inside bounded part ts ≡ then_read (part ts) (λ (found : CondTree × List Token). closed_condition bounded part found.0 found.1)
  cond_first part ts = at (part ts) refl
    where
      at : (o : Found CondTree) → part ts ≡ o → condition_inside bounded part ts ≡ then_read o (λ (found : CondTree × List Token). closed_condition bounded part found.0 found.1)
      at None e = then_none _ closed (condition_none bounded part ts e)
      at (Some (c, rest)) e = ap (λ o. then_read o closed) (condition_goes_on bounded part ts c rest e)

  inner_cond : (n : ℕ) (ts : List Token) (o : Found CondTree) → n ≢ 0 → unit_of bounded (operand bounded aggregates) (unit bounded (operand bounded aggregates) (n - 1)) ts ≡ o → condition_inside bounded (unit bounded (operand bounded aggregates) n) ts ≡ then_read o (λ (found : CondTree × List Token). closed_condition bounded (unit bounded (operand bounded aggregates) n) found.0 found.1)
  inner_cond n ts o some e =
      cond_first (unit bounded (operand bounded aggregates) n) ts
      ∙ ap (λ o. then_read o (λ (found : CondTree × List Token). closed_condition bounded (unit bounded (operand bounded aggregates) n) found.0 found.1)) (unit_inner bounded (operand bounded aggregates) n ts some ∙ e)

  -- what inner parentheses enclose is a condition, or neither
  pub cond_in_parentheses : (n : ℕ) (ts after : List Token) (o : Found CondTree) → n ≢ 0 → is_symbol symbol.Open (first_token ts) ≡ true → after ≡ after_first ts → operand_inside bounded after ≡ None → condition_inside bounded (unit bounded (operand bounded aggregates) (n - 1)) after ≡ o → condition_inside bounded (unit bounded (operand bounded aggregates) n) ts ≡ then_read o (λ (found : CondTree × List Token). closed_condition bounded (unit bounded (operand bounded aggregates) n) found.0 found.1)
  cond_in_parentheses n ts after o some open_ e h found = inner_cond n ts o some (unit_enclosed (n - 1) ts after open_ e h ∙ found)

  -- or an expression
  pub cond_from_operand : (n : ℕ) (ts after : List Token) (of : ExprTree) (rest : List Token) (levels : ℕ) → n ≢ 0 → is_symbol symbol.Open (first_token ts) ≡ true → after ≡ after_first ts → levels ≡ length ts → operand_inside bounded after ≡ Some (of, rest) → condition_inside bounded (unit bounded (operand bounded aggregates) n) ts ≡ condition_from bounded (operand bounded aggregates) (unit bounded (operand bounded aggregates) n) levels of rest
  cond_from_operand n ts after of rest levels some open_ e l h =
      inner_cond n ts _ some (unit_from (n - 1) ts after of rest open_ e h ∙ ap (λ (levels : ℕ). test_from bounded (operand bounded aggregates) levels of rest) (sym l))

  -- ## Behind a first factor

  -- what no expression begins is no condition
  pub from_none : (part : Parser CondTree) (levels : ℕ) (first : ExprTree) (ts : List Token) → expr_after bounded (factor bounded levels) first ts ≡ None → condition_from bounded (operand bounded aggregates) part levels first ts ≡ None
  unfolding test_from
  from_none part levels first ts h = then_none _ _ (then_none _ _ h)

  -- the condition after an expression
  pub from_test : (part : Parser CondTree) (levels : ℕ) (first : ExprTree) (ts : List Token) (of : ExprTree) (rest : List Token) (o : Found CondTree) → expr_after bounded (factor bounded levels) first ts ≡ Some (of, rest) → test_behind bounded (operand bounded aggregates) of rest ≡ o → condition_from bounded (operand bounded aggregates) part levels first ts ≡ then_read o (λ (found : CondTree × List Token). closed_condition bounded part found.0 found.1)
  unfolding test_from
  from_test part levels first ts of rest o h e = ap (λ o. then_read o (λ (found : CondTree × List Token). closed_condition bounded part found.0 found.1)) (then_told _ _ _ _ h e)

-- the expression before a `)`, and before anything else
pub from_closed : (levels : ℕ) (first : ExprTree) (ts : List Token) (of : ExprTree) (rest after : List Token) → expr_after bounded (factor bounded levels) first ts ≡ Some (of, rest) → is_symbol symbol.Close (first_token rest) ≡ true → after ≡ after_first rest → operand_from bounded levels first ts ≡ Some (of, after)
from_closed levels first ts of rest after h close e =
    let same : sign symbol.Close ∷ after ≡ rest = ap (λ a. sign symbol.Close ∷ a) e ∙ symbol_found symbol.Close rest close in
    then_told _ _ closed _ h (ap (λ (ts : List Token). closed (of, ts)) (sym same))

pub from_open : (levels : ℕ) (first : ExprTree) (ts : List Token) (of : ExprTree) (rest : List Token) → expr_after bounded (factor bounded levels) first ts ≡ Some (of, rest) → is_symbol symbol.Close (first_token rest) ≡ false → operand_from bounded levels first ts ≡ None
from_open levels first ts of rest h open_ = then_told _ _ closed _ h (at rest open_)
  where
    at : (rest : List Token) → is_symbol symbol.Close (first_token rest) ≡ false → closed (of, rest) ≡ None
    at (token.Symbol symbol.Close ∷ rest) e = absurd (close_is rest e)
    at other e = refl

-- the expression after `((`
pub operand_none : (ts after : List Token) → is_symbol symbol.Open (first_token ts) ≡ true → after ≡ after_first ts → operand_inside bounded after ≡ None → operand_inside bounded ts ≡ None
operand_none ts after open_ e h =
    let same : sign symbol.Open ∷ after ≡ ts = ap (λ a. sign symbol.Open ∷ a) e ∙ symbol_found symbol.Open ts open_ in
    then_none _ closed (ap (whole_expr bounded) (sym same) ∙ whole_none after h)

pub operand_goes_on_from : (ts after : List Token) (of : ExprTree) (rest : List Token) (levels : ℕ) → is_symbol symbol.Open (first_token ts) ≡ true → after ≡ after_first ts → levels ≡ length ts → operand_inside bounded after ≡ Some (of, rest) → operand_inside bounded ts ≡ operand_from bounded levels of rest
operand_goes_on_from ts after of rest levels open_ e l h =
    let same : sign symbol.Open ∷ after ≡ ts = ap (λ a. sign symbol.Open ∷ a) e ∙ symbol_found symbol.Open ts open_ in
    ap (operand_inside bounded) (sym same) ∙ ap (λ o. then_read o closed) (whole_goes_on after of rest h) ∙ ap (λ (levels : ℕ). operand_from bounded levels of rest) (ap length same ∙ sym l)

-- ## What was found

pub as_operand : (operand : Found ExprTree) (condition : Found CondTree) (found : Parenthesised) (of : Expr) (rest : List Token) → found ≡ Operand of → IsInside operand condition found rest → operand ≡ Some (expr_tree of, rest)
as_operand operand condition found of rest e h = subst (λ (found : Parenthesised). IsInside operand condition found rest) e h

pub as_condition : (operand : Found ExprTree) (condition : Found CondTree) (found : Parenthesised) (c : Cond) (rest : List Token) → found ≡ Condition c → IsInside operand condition found rest → (operand ≡ None) × (condition ≡ Some (cond_tree c, rest))
as_condition operand condition found c rest e h = subst (λ (found : Parenthesised). IsInside operand condition found rest) e h

-- readers with the same results find the same in parentheses
pub same_inside : (operand other : Found ExprTree) (condition another : Found CondTree) (found : Parenthesised) (rest : List Token) → operand ≡ other → condition ≡ another → IsInside other another found rest → IsInside operand condition found rest
same_inside operand other condition another (Operand of) rest e f h = e ∙ h
same_inside operand other condition another (Condition c) rest e f h = (e ∙ h.0, f ∙ h.1)

pub found_inside : (operand other : Found ExprTree) (condition another : Found CondTree) (r : Result Parenthesised TreeError) (rest : List Token) → operand ≡ other → condition ≡ another → IfOk r (λ found. IsInside other another found rest) → IfOk r (λ found. IsInside operand condition found rest)
found_inside operand other condition another (Ok found) rest e f h = same_inside operand other condition another found rest e f h
found_inside operand other condition another (Err error) rest e f h = tt
