-- What is read as a condition, and only that, is derived.
use Rattle.std.proofs.Common.{◌≡◌, ◌≢◌, ◌-◌, ℕ, zero, suc, List, [], length, Some, None, refl, ap, sym, ◌∙◌, subst, arith}
use Rattle.sql_grammar.specs.Grammar.{ExprRule, write_expr, expr_of, ValueRule, write_value, value_of, CondRule, write_cond, cond_of}
use Rattle.read_laws.specs.Bounded.{Builder, as_written, bounded}
use Rattle.read_laws.specs.Chain.{Found, Parser, chain}
use Rattle.read_laws.specs.CondReader.{or_in, either_of, whole_expr, value, conjunction_after, conjunction, condition_after, condition, unit_of, unit, whole_cond}
use Rattle.read_laws.specs.DerivedExprs.{expr_with, cond_with, IsCondOver, IsCond, IsHaving, IsReadCond}
use Rattle.text_bytes.specs.Found.{then_read}
use Rattle.read_laws.proofs.CondSound.{whole_found, value_sound, cond_found_by, unit_found}
use Rattle.read_laws.proofs.CondComplete.{EndsCond, cond_told}
use Rattle.read_laws.proofs.ExprSound.{IsSound}
use Rattle.read_laws.proofs.ExprLaws.{same_tree}
use Rattle.read_laws.proofs.OperandComplete.{IsOperand, expr_operand, value_operand}
use Rattle.sql_tree.specs.Tree.{ExprTree, CondTree}
use Rattle.sql_tree.specs.Tree.CondTree.{Compare, Within, IsNull, Negation, Both, Either}
use Rattle.sql_tree.specs.declared.token.Token.{Token}
use Rattle.text_bytes.proofs.FoundLemmas.{pair_found}

-- a unit of no level, and of one more
pub unit_none : (build : Builder) (operand : Parser ExprTree) (n : ℕ) (ts : List Token) → n ≡ 0 → unit build operand n ts ≡ None
unfolding unit
unit_none build operand zero ts h = refl
unit_none build operand (suc n) ts h = absurd (omega arith)

pub unit_inner : (build : Builder) (operand : Parser ExprTree) (n : ℕ) (ts : List Token) → n ≢ 0 → unit build operand n ts ≡ unit_of build operand (unit build operand (n - 1)) ts
unfolding unit
unit_inner build operand zero ts h = absurd (h refl)
unit_inner build operand (suc n) ts h = let e : n ≡ suc n - 1 = omega arith in ap (λ k. unit_of build operand (unit build operand k) ts) e

-- a condition is its first unit and what follows that
pub condition_goes_on : (build : Builder) (part : Parser CondTree) (ts : List Token) (first : CondTree) (rest : List Token) → part ts ≡ Some (first, rest) → condition build part ts ≡ condition_after build part first rest
unfolding condition conjunction condition_after
condition_goes_on build part ts first rest h = ap (λ o. then_read (then_read o (λ first. conjunction_after build part first.0 first.1)) (λ first. chain or_in (either_of build) (conjunction build part) (length first.1) first.0 first.1)) h

pub condition_none : (build : Builder) (part : Parser CondTree) (ts : List Token) → part ts ≡ None → condition build part ts ≡ None
unfolding condition conjunction
condition_none build part ts h = ap (λ o. then_read (then_read o (λ first. conjunction_after build part first.0 first.1)) (λ first. chain or_in (either_of build) (conjunction build part) (length first.1) first.0 first.1)) h

pub same_cond : (c : CondTree) → cond_with as_written c ≡ c
same_cond (Compare op left right) = ap (λ l. Compare op l (expr_with as_written right)) (same_tree left) ∙ ap (λ r. Compare op left r) (same_tree right)
same_cond (Within of low high) = ap (λ o. Within o (expr_with as_written low) (expr_with as_written high)) (same_tree of) ∙ ap (λ l. Within of l (expr_with as_written high)) (same_tree low) ∙ ap (λ h. Within of low h) (same_tree high)
same_cond (IsNull of) = ap IsNull (same_tree of)
same_cond (Negation of) = ap Negation (same_cond of)
same_cond (Both left right) = ap (λ l. Both l (cond_with as_written right)) (same_cond left) ∙ ap (λ r. Both left r) (same_cond right)
same_cond (Either left right) = ap (λ l. Either l (cond_with as_written right)) (same_cond left) ∙ ap (λ r. Either left r) (same_cond right)

none_ends : EndsCond []
none_ends = record { conj_ends = record { expr_ends = record { term_ends = record { factor_ends = record { no_dot = refl }; no_star = refl }; no_sign = refl }; no_and = refl }; no_or = refl }

module _ {E : Type 0} (write : E → List Token → List Token) (tree : E → ExprTree) (operand : Builder → Parser ExprTree) (is : (build : Builder) → IsOperand build write tree (operand build)) (sound : (build : Builder) → IsSound write (λ d. expr_with build (tree d)) (operand build)) where
  -- what is read is derived
  pub whole_sound : (build : Builder) → IsSound (write_cond write) (λ d. cond_with build (cond_of tree d)) (whole_cond build (operand build))
  unfolding whole_cond
  whole_sound build ts x rest h = cond_found_by build write tree (operand build) (sound build) (unit build (operand build) (length ts)) (unit_found build write tree (operand build) (sound build) (length ts)) ts x rest h

  -- what is derived is read
  pub whole_cond_told : (build : Builder) (d : CondRule E) (rest : List Token) → EndsCond rest → whole_cond build (operand build) (write_cond write d rest) ≡ Some (cond_with build (cond_of tree d), rest)
  unfolding whole_cond
  whole_cond_told build d rest ends = cond_told build write tree (operand build) (is build) d (length (write_cond write d rest)) rest (omega arith) ends

  pub derived_told : (build : Builder) (ts : List Token) (c : CondTree) → IsCondOver write tree ts c → whole_cond build (operand build) ts ≡ Some (cond_with build c, [])
  derived_told build ts c is =
      let P : List Token → Type 0 = λ ts. whole_cond build (operand build) ts ≡ Some (cond_with build c, []) in
      let told : P (write_cond write is.rule []) = whole_cond_told build is.rule [] none_ends ∙ ap (λ (c : CondTree). let f : Found CondTree = Some (cond_with build c, []) in f) is.cond_is in
      subst P is.tokens_are told

  pub one_cond_of : (ts : List Token) (a b : CondTree) → IsCondOver write tree ts a → IsCondOver write tree ts b → a ≡ b
  one_cond_of ts a b first second =
      let both = pair_found _ _ _ _ (sym (derived_told as_written ts a first) ∙ derived_told as_written ts b second) in
      sym (same_cond a) ∙ both.0 ∙ same_cond b

  pub read_of : (ts : List Token) (c : CondTree) → whole_cond bounded (operand bounded) ts ≡ Some (c, []) → IsReadCond (IsCondOver write tree ts) c
  read_of ts c h =
      let w = whole_sound bounded ts c [] h in
      record { cond = cond_of tree w.rule; derived = record { rule = w.rule; tokens_are = w.written; cond_is = refl }; tree_is = w.means }

-- conditions over expressions, and over these and aggregates
pub one_where : (ts : List Token) (a b : CondTree) → IsCond ts a → IsCond ts b → a ≡ b
one_where = one_cond_of write_expr expr_of whole_expr expr_operand whole_found

pub one_having : (ts : List Token) (a b : CondTree) → IsHaving ts a → IsHaving ts b → a ≡ b
one_having = one_cond_of write_value value_of value value_operand value_sound

pub where_read : (ts : List Token) (c : CondTree) → whole_cond bounded (whole_expr bounded) ts ≡ Some (c, []) → IsReadCond (IsCond ts) c
where_read = read_of write_expr expr_of whole_expr expr_operand whole_found

pub having_read : (ts : List Token) (c : CondTree) → whole_cond bounded (value bounded) ts ≡ Some (c, []) → IsReadCond (IsHaving ts) c
having_read = read_of write_value value_of value value_operand value_sound

pub where_told : (ts : List Token) (c : CondTree) → IsCond ts c → whole_cond bounded (whole_expr bounded) ts ≡ Some (cond_with bounded c, [])
where_told = derived_told write_expr expr_of whole_expr expr_operand whole_found bounded

pub having_told : (ts : List Token) (c : CondTree) → IsHaving ts c → whole_cond bounded (value bounded) ts ≡ Some (cond_with bounded c, [])
having_told = derived_told write_value value_of value value_operand value_sound bounded

-- what is read of them before other tokens
pub where_sound : (build : Builder) → IsSound (write_cond write_expr) (λ d. cond_with build (cond_of expr_of d)) (whole_cond build (whole_expr build))
where_sound = whole_sound write_expr expr_of whole_expr expr_operand whole_found

pub having_sound : (build : Builder) → IsSound (write_cond write_value) (λ d. cond_with build (cond_of value_of d)) (whole_cond build (value build))
having_sound = whole_sound write_value value_of value value_operand value_sound

pub where_cond_told : (build : Builder) (d : CondRule ExprRule) (rest : List Token) → EndsCond rest → whole_cond build (whole_expr build) (write_cond write_expr d rest) ≡ Some (cond_with build (cond_of expr_of d), rest)
where_cond_told = whole_cond_told write_expr expr_of whole_expr expr_operand whole_found

pub having_cond_told : (build : Builder) (d : CondRule ValueRule) (rest : List Token) → EndsCond rest → whole_cond build (value build) (write_cond write_value d rest) ≡ Some (cond_with build (cond_of value_of d), rest)
having_cond_told = whole_cond_told write_value value_of value value_operand value_sound
