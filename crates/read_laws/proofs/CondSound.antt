-- What is read as an aggregate or a condition is what a derivation writes.
use Rattle.std.proofs.Common.{◌≡◌, ℕ, zero, suc, List, [], ◌∷◌, length, map, Bool, true, false, Some, None, refl, ap, sym, ◌∙◌, inl, inr, cond}
use Rattle.sql_grammar.specs.Grammar.{sign, write_more, write_enclosed, write_expr, expr_of, aggregate_word, write_agg, agg_of, write_value, value_of, CmpRule, write_cmp, cmp_of, TestRule, write_test, write_cond, write_conjs, write_conj, write_units, write_unit, write_not, denied_if, members_of, test_of, cond_of, conjs_of, conj_of, units_of, unit_of}
use Rattle.sql_grammar.specs.Grammar.AggRule.{CountAll, AggregateOf}
use Rattle.sql_grammar.specs.Grammar.ValueRule.{ExprValue, AggValue}
use Rattle.sql_grammar.specs.Grammar.CmpRule.{EqualSign, NotEqualSign, BangEqualSign, LessSign, LessEqualSign, GreaterSign, GreaterEqualSign}
use Rattle.sql_grammar.specs.Grammar.TestRule.{Comparison, BetweenTest, InTest, NullTest}
use Rattle.sql_grammar.specs.Grammar.CondRule.{Disjunction}
use Rattle.sql_grammar.specs.Grammar.ConjsRule.{NoConj, MoreConjs}
use Rattle.sql_grammar.specs.Grammar.ConjRule.{Conjunction}
use Rattle.sql_grammar.specs.Grammar.UnitsRule.{NoUnit, MoreUnits}
use Rattle.sql_grammar.specs.Grammar.UnitRule.{NotUnit, CondUnit, TestUnit}
use Rattle.read_laws.specs.Bounded.{Builder}
use Rattle.read_laws.specs.Chain.{Found, Parser, first_token, after_first, or_read, chain}
use Rattle.read_laws.specs.CondReader as reader
use Rattle.read_laws.specs.CondReader.{aggregate_in, comparison_in, or_in, and_in, is_all, or_member, both_of, either_of, denied, whole_expr, argument, value, within, members, listed, range_at, range, null_test, word_test, test_behind, any_test, conjunction, condition, enclosed, unit}
use Rattle.read_laws.specs.DerivedExprs.{expr_with, cond_with}
use Rattle.read_laws.specs.Parts.{is_key, comma_in}
use Rattle.read_laws.specs.ExprReader.{closed, factor}
use Rattle.read_laws.proofs.ChainLemmas.{given_found, or_found, chain_found, no_steps_found}
use Rattle.read_laws.proofs.ExprSound.{IsWritten, IsSound, expr_found, factor_found}
use Rattle.read_laws.proofs.TokenTests.{key_found, symbol_found, comma_found, closed_found}
use Rattle.sql_tree.specs.Tree.{ExprTree, CondTree}
use Rattle.sql_tree.specs.Tree.ExprTree.{AggregateAll, Aggregate}
use Rattle.sql_tree.specs.Tree.CondTree.{Compare, Within, IsNull, Negation, Both, Either}
use Rattle.sql_tree.specs.declared.token.Keyword.TheVariants as word
use Rattle.sql_tree.specs.declared.token.Keyword.{Keyword}
use Rattle.sql_tree.specs.declared.token.Symbol.TheVariants as symbol
use Rattle.sql_tree.specs.declared.token.Token.{Token}
use Rattle.sql_tree.specs.declared.token.Token.TheVariants.{Key}
use Rattle.sql_tree.specs.declared.token.Token.TheVariants as token
use Rattle.sql_tree.specs.declared.tree.AggOp.{AggOp}
use Rattle.sql_tree.specs.declared.tree.AggOp.TheVariants as aggregate
use Rattle.sql_tree.specs.declared.tree.CmpOp.{CmpOp}
use Rattle.sql_tree.specs.declared.tree.CmpOp.TheVariants as compare
use Rattle.text_bytes.specs.Found.{then_read}
use Rattle.text_bytes.proofs.FoundLemmas.{then_found, guard_found, pair_found, value_found}

-- ## Tokens

aggregate_found : (ts : List Token) (f : AggOp) → aggregate_in (first_token ts) ≡ Some f → Key (aggregate_word f) ∷ after_first ts ≡ ts
aggregate_found (Key word.Count ∷ ts) f h = ap (λ f. Key (aggregate_word f) ∷ ts) (sym (value_found _ _ h))
aggregate_found (Key word.Sum ∷ ts) f h = ap (λ f. Key (aggregate_word f) ∷ ts) (sym (value_found _ _ h))
aggregate_found (Key word.Min ∷ ts) f h = ap (λ f. Key (aggregate_word f) ∷ ts) (sym (value_found _ _ h))
aggregate_found (Key word.Max ∷ ts) f h = ap (λ f. Key (aggregate_word f) ∷ ts) (sym (value_found _ _ h))
aggregate_found other f h = cc

comparison_found : (ts : List Token) (op : CmpOp) → comparison_in (first_token ts) ≡ Some op → (c : CmpRule) × (write_cmp c ∷ after_first ts ≡ ts) × (cmp_of c ≡ op)
comparison_found (token.Symbol symbol.Equal ∷ ts) op h = (EqualSign, refl, value_found _ _ h)
comparison_found (token.Symbol symbol.NotEqual ∷ ts) op h = (NotEqualSign, refl, value_found _ _ h)
comparison_found (token.Symbol symbol.BangEqual ∷ ts) op h = (BangEqualSign, refl, value_found _ _ h)
comparison_found (token.Symbol symbol.Less ∷ ts) op h = (LessSign, refl, value_found _ _ h)
comparison_found (token.Symbol symbol.LessEqual ∷ ts) op h = (LessEqualSign, refl, value_found _ _ h)
comparison_found (token.Symbol symbol.Greater ∷ ts) op h = (GreaterSign, refl, value_found _ _ h)
comparison_found (token.Symbol symbol.GreaterEqual ∷ ts) op h = (GreaterEqualSign, refl, value_found _ _ h)
comparison_found other op h = cc

or_word_found : (ts : List Token) (w : Keyword) → or_in (first_token ts) ≡ Some w → Key word.Or ∷ after_first ts ≡ ts
or_word_found (Key word.Or ∷ ts) w h = refl
or_word_found other w h = cc

and_word_found : (ts : List Token) (w : Keyword) → and_in (first_token ts) ≡ Some w → Key word.And ∷ after_first ts ≡ ts
and_word_found (Key word.And ∷ ts) w h = refl
and_word_found other w h = cc

all_found : (f : AggOp) (ts : List Token) → is_all f (first_token ts) ≡ true → (f ≡ aggregate.Count) × (sign symbol.Star ∷ after_first ts ≡ ts)
all_found aggregate.Count (token.Symbol symbol.Star ∷ ts) h = (refl, refl)
all_found f other h = cc

-- ## Expressions and aggregates

module _ (build : Builder) where
  pub whole_found : IsSound write_expr (λ d. expr_with build (expr_of d)) (whole_expr build)
  unfolding whole_expr
  whole_found ts x rest h = expr_found build (factor build (length ts)) (factor_found build (length ts)) ts x rest h

  argument_found : (f : AggOp) (ts : List Token) (x : ExprTree) (rest : List Token) → argument build f ts ≡ Some (x, rest) → IsWritten write_agg (λ d. expr_with build (agg_of d)) (Key (aggregate_word f) ∷ sign symbol.Open ∷ ts) x rest
  unfolding argument
  argument_found f ts x rest h = at (is_all f (first_token ts)) refl h
    where
      at : (b : Bool) → is_all f (first_token ts) ≡ b → cond b (closed (AggregateAll f, after_first ts)) (then_read (whole_expr build ts) (λ of. closed (Aggregate f of.0, of.1))) ≡ Some (x, rest) → IsWritten write_agg (λ d. expr_with build (agg_of d)) (Key (aggregate_word f) ∷ sign symbol.Open ∷ ts) x rest
      at true e h =
          let all = all_found f ts e in
          let close = closed_found (AggregateAll f, after_first ts) x rest h in
          record {
            rule = CountAll;
            written = ap (λ r. Key word.Count ∷ sign symbol.Open ∷ sign symbol.Star ∷ r) close.1 ∙ ap (λ r. Key word.Count ∷ sign symbol.Open ∷ r) all.1 ∙ ap (λ f. Key (aggregate_word f) ∷ sign symbol.Open ∷ ts) (sym all.0);
            means = ap AggregateAll (sym all.0) ∙ close.0;
          }
      at false e h =
          let p = then_found _ _ _ h in
          let of = whole_found ts p.0.0 p.0.1 p.1 in
          let close = closed_found (Aggregate f p.0.0, p.0.1) x rest p.2 in
          record {
            rule = AggregateOf f of.rule;
            written = ap (λ r. Key (aggregate_word f) ∷ sign symbol.Open ∷ write_expr of.rule r) close.1 ∙ ap (λ r. Key (aggregate_word f) ∷ sign symbol.Open ∷ r) of.written;
            means = ap (λ e. Aggregate f e) of.means ∙ close.0;
          }

  pub value_sound : IsSound write_value (λ d. expr_with build (value_of d)) (value build)
  unfolding value
  value_sound ts x rest h =
      elim (given_found (aggregate_in (first_token ts)) _ _ (Some (x, rest)) h) [
        | inl e ↦ let w = whole_found ts x rest e.1 in record { rule = ExprValue w.rule; written = w.written; means = w.means }
        | inr s ↦
            let open_ = guard_found _ _ _ s.2 in
            let w = argument_found s.0 (after_first (after_first ts)) x rest open_.1 in
            record {
              rule = AggValue w.rule;
              written = w.written ∙ ap (λ r. Key (aggregate_word s.0) ∷ r) (symbol_found symbol.Open (after_first ts) open_.0) ∙ aggregate_found ts s.0 s.1;
              means = w.means;
            }
      ]

-- ## Conditions

-- BETWEEN or IN, after its operand
data RangeRule (E : Type 0) : Type 0 where
  Bounds : E → E → RangeRule E
  Members : E × List E → RangeRule E

module _ (build : Builder) {E : Type 0} (write : E → List Token → List Token) (tree : E → ExprTree) (operand : Parser ExprTree) (sound : IsSound write (λ d. expr_with build (tree d)) operand) where
  abbrev write_range : RangeRule E → List Token → List Token
  write_range (Bounds low high) rest = Key word.Between ∷ write low (Key word.And ∷ write high rest)
  write_range (Members ms) rest = Key word.In ∷ write_enclosed write ms rest

  abbrev range_of : ExprTree → RangeRule E → CondTree
  range_of of (Bounds low high) = Within of (tree low) (tree high)
  range_of of (Members ms) = members_of (Compare compare.Eq of (tree ms.0)) of (map tree ms.1)

  within_found : (of : ExprTree) (ts : List Token) (x : CondTree) (rest : List Token) → within build operand (expr_with build of) ts ≡ Some (x, rest) → IsWritten write_range (λ r. cond_with build (range_of of r)) (Key word.Between ∷ ts) x rest
  unfolding within
  within_found of ts x rest h =
      let f = then_found _ _ _ h in
      let g = guard_found _ _ _ f.2 in
      let s = then_found _ _ _ g.1 in
      let parts = pair_found _ _ _ _ s.2 in
      let low = sound ts f.0.0 f.0.1 f.1 in
      let high = sound (after_first f.0.1) s.0.0 s.0.1 s.1 in
      record {
        rule = Bounds low.rule high.rule;
        written = ap (λ r. Key word.Between ∷ write low.rule (Key word.And ∷ write high.rule r)) (sym parts.1) ∙ ap (λ r. Key word.Between ∷ write low.rule (Key word.And ∷ r)) high.written ∙ ap (λ r. Key word.Between ∷ write low.rule r) (key_found word.And f.0.1 g.0) ∙ ap (λ r. Key word.Between ∷ r) low.written;
        means = ap (λ l. Within (expr_with build of) l (expr_with build (tree high.rule))) low.means ∙ ap (λ r. Within (expr_with build of) f.0.0 r) high.means ∙ parts.0;
      }

  more_members_found : (of : ExprTree) (n : ℕ) (so_far : CondTree) (ts : List Token) (x : CondTree) (rest : List Token) → chain comma_in (or_member build (expr_with build of)) operand n (cond_with build so_far) ts ≡ Some (x, rest) → IsWritten (write_more write) (λ ms. cond_with build (members_of so_far of (map tree ms))) ts x rest
  more_members_found of zero so_far ts x rest h =
      let e = no_steps_found comma_in (or_member build (expr_with build of)) operand _ ts x rest h in
      record { rule = []; written = sym e.1; means = e.0 }
  more_members_found of (suc n) so_far ts x rest h =
      elim (chain_found comma_in (or_member build (expr_with build of)) operand n (cond_with build so_far) ts x rest h) [
        | inl e ↦ record { rule = []; written = sym e.1; means = e.0 }
        | inr s ↦
            let next = sound (after_first ts) s.right s.behind s.right_is in
            let more = more_members_found of n (Either so_far (Compare compare.Eq of (tree next.rule))) s.behind x rest
            (ap (λ r. chain comma_in (or_member build (expr_with build of)) operand n (build.either (cond_with build so_far) (Compare compare.Eq (expr_with build of) r)) s.behind) next.means ∙ s.more) in
            record {
              rule = next.rule ∷ more.rule;
              written = ap (λ r. sign symbol.Comma ∷ write next.rule r) more.written ∙ ap (λ r. sign symbol.Comma ∷ r) next.written ∙ comma_found ts s.operator s.operator_is;
              means = more.means;
            }
      ]

  listed_found : (of : ExprTree) (ts : List Token) (x : CondTree) (rest : List Token) → listed build operand (expr_with build of) ts ≡ Some (x, rest) → IsWritten write_range (λ r. cond_with build (range_of of r)) (Key word.In ∷ ts) x rest
  unfolding listed members
  listed_found of ts x rest h =
      let open_ = guard_found _ _ _ h in
      let all = then_found _ _ _ open_.1 in
      let close = closed_found all.0 x rest all.2 in
      let f = then_found _ _ _ all.1 in
      let first = sound (after_first ts) f.0.0 f.0.1 f.1 in
      let more = more_members_found of (length f.0.1) (Compare compare.Eq of (tree first.rule)) f.0.1 all.0.0 all.0.1
      (ap (λ r. chain comma_in (or_member build (expr_with build of)) operand (length f.0.1) (Compare compare.Eq (expr_with build of) r) f.0.1) first.means ∙ f.2) in
      record {
        rule = Members (first.rule, more.rule);
        written = ap (λ r. Key word.In ∷ sign symbol.Open ∷ write first.rule (write_more write more.rule r)) close.1 ∙ ap (λ r. Key word.In ∷ sign symbol.Open ∷ write first.rule r) more.written ∙ ap (λ r. Key word.In ∷ sign symbol.Open ∷ r) first.written ∙ ap (λ r. Key word.In ∷ r) (symbol_found symbol.Open ts open_.0);
        means = more.means ∙ close.0;
      }

  range_at_found : (of : ExprTree) (ts : List Token) (x : CondTree) (rest : List Token) → range_at build operand (expr_with build of) (first_token ts) (after_first ts) ≡ Some (x, rest) → IsWritten write_range (λ r. cond_with build (range_of of r)) ts x rest
  range_at_found of (Key word.Between ∷ ts) x rest h = within_found of ts x rest h
  range_at_found of (Key word.In ∷ ts) x rest h = listed_found of ts x rest h
  range_at_found of other x rest h = cc

  -- a range, denied or not, is a test of its operand
  abbrev ranged : E → Bool → RangeRule E → TestRule E
  ranged of denied (Bounds low high) = BetweenTest of denied low high
  ranged of denied (Members ms) = InTest of denied ms

  ranged_written : (of : E) (r : RangeRule E) (rest : List Token) → write_test write (ranged of false r) rest ≡ write of (write_range r rest)
  ranged_written of (Bounds low high) rest = refl
  ranged_written of (Members ms) rest = refl

  denied_written : (of : E) (r : RangeRule E) (rest : List Token) → write_test write (ranged of true r) rest ≡ write of (Key word.Not ∷ write_range r rest)
  denied_written of (Bounds low high) rest = refl
  denied_written of (Members ms) rest = refl

  ranged_means : (of : E) (r : RangeRule E) → test_of tree (ranged of false r) ≡ range_of (tree of) r
  ranged_means of (Bounds low high) = refl
  ranged_means of (Members ms) = refl

  denied_means : (of : E) (r : RangeRule E) → test_of tree (ranged of true r) ≡ Negation (range_of (tree of) r)
  denied_means of (Bounds low high) = refl
  denied_means of (Members ms) = refl

  range_found : (of : E) (ts : List Token) (x : CondTree) (rest : List Token) → range build operand (expr_with build (tree of)) ts ≡ Some (x, rest) → IsWritten (write_test write) (λ d. cond_with build (test_of tree d)) (write of ts) x rest
  unfolding range
  range_found of ts x rest h = at (is_key word.Not (first_token ts)) refl h
    where
      at : (b : Bool) → is_key word.Not (first_token ts) ≡ b → cond b (then_read (range_at build operand (expr_with build (tree of)) (first_token (after_first ts)) (after_first (after_first ts))) denied) (range_at build operand (expr_with build (tree of)) (first_token ts) (after_first ts)) ≡ Some (x, rest) → IsWritten (write_test write) (λ d. cond_with build (test_of tree d)) (write of ts) x rest
      at true e h =
          let f = then_found _ _ _ h in
          let parts = pair_found _ _ _ _ f.2 in
          let r = range_at_found (tree of) (after_first ts) f.0.0 f.0.1 f.1 in
          record {
            rule = ranged of true r.rule;
            written = denied_written of r.rule rest ∙ ap (λ s. write of (Key word.Not ∷ write_range r.rule s)) (sym parts.1) ∙ ap (λ s. write of (Key word.Not ∷ s)) r.written ∙ ap (write of) (key_found word.Not ts e);
            means = ap (cond_with build) (denied_means of r.rule) ∙ ap Negation r.means ∙ parts.0;
          }
      at false e h =
          let r = range_at_found (tree of) ts x rest h in
          record {
            rule = ranged of false r.rule;
            written = ranged_written of r.rule rest ∙ ap (write of) r.written;
            means = ap (cond_with build) (ranged_means of r.rule) ∙ r.means;
          }

  -- NULL after `e IS` and what is between
  null_found : (of : E) (denied : Bool) (ts : List Token) (x : CondTree) (rest : List Token) → cond {A = Found CondTree} (is_key word.Null (first_token ts)) (Some (denied_if denied (IsNull (expr_with build (tree of))), after_first ts)) None ≡ Some (x, rest) → (write_test write (NullTest of denied) rest ≡ write of (Key word.Is ∷ write_not denied ts)) × (cond_with build (test_of tree (NullTest of denied)) ≡ x)
  null_found of denied ts x rest h =
      let g = guard_found _ _ _ h in
      let parts = pair_found _ _ _ _ g.1 in
      (written denied (ap (λ r. Key word.Null ∷ r) (sym parts.1) ∙ key_found word.Null ts g.0), means denied ∙ parts.0)
    where
      written : (denied : Bool) → Key word.Null ∷ rest ≡ ts → write_test write (NullTest of denied) rest ≡ write of (Key word.Is ∷ write_not denied ts)
      written true e = ap (λ r. write of (Key word.Is ∷ Key word.Not ∷ r)) e
      written false e = ap (λ r. write of (Key word.Is ∷ r)) e

      means : (denied : Bool) → cond_with build (test_of tree (NullTest of denied)) ≡ denied_if denied (IsNull (expr_with build (tree of)))
      means true = refl
      means false = refl

  null_test_found : (of : E) (ts : List Token) (x : CondTree) (rest : List Token) → null_test (expr_with build (tree of)) ts ≡ Some (x, rest) → IsWritten (write_test write) (λ d. cond_with build (test_of tree d)) (write of (Key word.Is ∷ ts)) x rest
  unfolding null_test
  null_test_found of ts x rest h = at (is_key word.Not (first_token ts)) refl h
    where
      at : (b : Bool) → is_key word.Not (first_token ts) ≡ b → cond {A = Found CondTree} b (cond {A = Found CondTree} (is_key word.Null (first_token (after_first ts))) (Some (Negation (IsNull (expr_with build (tree of))), after_first (after_first ts))) None) (cond {A = Found CondTree} (is_key word.Null (first_token ts)) (Some (IsNull (expr_with build (tree of)), after_first ts)) None) ≡ Some (x, rest) → IsWritten (write_test write) (λ d. cond_with build (test_of tree d)) (write of (Key word.Is ∷ ts)) x rest
      at true e h =
          let n = null_found of true (after_first ts) x rest h in
          record { rule = NullTest of true; written = n.0 ∙ ap (λ r. write of (Key word.Is ∷ r)) (key_found word.Not ts e); means = n.1 }
      at false e h =
          let n = null_found of false ts x rest h in
          record { rule = NullTest of false; written = n.0; means = n.1 }

  word_test_found : (of : E) (ts : List Token) (x : CondTree) (rest : List Token) → word_test build operand (expr_with build (tree of)) ts ≡ Some (x, rest) → IsWritten (write_test write) (λ d. cond_with build (test_of tree d)) (write of ts) x rest
  unfolding word_test
  word_test_found of ts x rest h = at (is_key word.Is (first_token ts)) refl h
    where
      at : (b : Bool) → is_key word.Is (first_token ts) ≡ b → cond b (null_test (expr_with build (tree of)) (after_first ts)) (range build operand (expr_with build (tree of)) ts) ≡ Some (x, rest) → IsWritten (write_test write) (λ d. cond_with build (test_of tree d)) (write of ts) x rest
      at true e h =
          let n = null_test_found of (after_first ts) x rest h in
          record { rule = n.rule; written = n.written ∙ ap (write of) (key_found word.Is ts e); means = n.means }
      at false e h = range_found of ts x rest h

  behind_found : (of : E) (ts : List Token) (x : CondTree) (rest : List Token) → test_behind build operand (expr_with build (tree of)) ts ≡ Some (x, rest) → IsWritten (write_test write) (λ d. cond_with build (test_of tree d)) (write of ts) x rest
  unfolding test_behind
  behind_found of ts x rest h =
      elim (given_found (comparison_in (first_token ts)) _ _ (Some (x, rest)) h) [
        | inl e ↦ word_test_found of ts x rest e.1
        | inr s ↦
            let f = then_found _ _ _ s.2 in
            let parts = pair_found _ _ _ _ f.2 in
            let right = sound (after_first ts) f.0.0 f.0.1 f.1 in
            let op = comparison_found ts s.0 s.1 in
            record {
              rule = Comparison of op.0 right.rule;
              written = ap (λ r. write of (write_cmp op.0 ∷ write right.rule r)) (sym parts.1) ∙ ap (λ r. write of (write_cmp op.0 ∷ r)) right.written ∙ ap (write of) op.1;
              means = ap (λ o. Compare o (expr_with build (tree of)) (expr_with build (tree right.rule))) op.2 ∙ ap (λ r. Compare s.0 (expr_with build (tree of)) r) right.means ∙ parts.0;
            }
      ]

  test_found : IsSound (write_test write) (λ d. cond_with build (test_of tree d)) (any_test build operand)
  unfolding any_test
  test_found ts x rest h =
      let f = then_found _ _ _ h in
      let of = sound ts f.0.0 f.0.1 f.1 in
      let w = behind_found of.rule f.0.1 x rest (ap (λ e. test_behind build operand e f.0.1) of.means ∙ f.2) in
      record { rule = w.rule; written = w.written ∙ of.written; means = w.means }

  module _ (part : Parser CondTree) (part_sound : IsSound (write_unit write) (λ d. cond_with build (unit_of tree d)) part) where
    units_found : (n : ℕ) (left : CondTree) (ts : List Token) (x : CondTree) (rest : List Token) → chain and_in (both_of build) part n (cond_with build left) ts ≡ Some (x, rest) → IsWritten (write_units write) (λ d. cond_with build (units_of tree left d)) ts x rest
    units_found zero left ts x rest h =
        let e = no_steps_found and_in (both_of build) part _ ts x rest h in
        record { rule = NoUnit; written = sym e.1; means = e.0 }
    units_found (suc n) left ts x rest h =
        elim (chain_found and_in (both_of build) part n (cond_with build left) ts x rest h) [
          | inl e ↦ record { rule = NoUnit; written = sym e.1; means = e.0 }
          | inr s ↦
              let next = part_sound (after_first ts) s.right s.behind s.right_is in
              let more = units_found n (Both left (unit_of tree next.rule)) s.behind x rest
              (ap (λ r. chain and_in (both_of build) part n (build.both (cond_with build left) r) s.behind) next.means ∙ s.more) in
              record {
                rule = MoreUnits next.rule more.rule;
                written = ap (λ r. Key word.And ∷ write_unit write next.rule r) more.written ∙ ap (λ r. Key word.And ∷ r) next.written ∙ and_word_found ts s.operator s.operator_is;
                means = more.means;
              }
        ]

    conj_found : IsSound (write_conj write) (λ d. cond_with build (conj_of tree d)) (conjunction build part)
    unfolding conjunction
    conj_found ts x rest h =
        let f = then_found _ _ _ h in
        let first = part_sound ts f.0.0 f.0.1 f.1 in
        let more = units_found (length f.0.1) (unit_of tree first.rule) f.0.1 x rest (ap (λ r. chain and_in (both_of build) part (length f.0.1) r f.0.1) first.means ∙ f.2) in
        record { rule = Conjunction first.rule more.rule; written = ap (write_unit write first.rule) more.written ∙ first.written; means = more.means }

    conjs_found : (n : ℕ) (left : CondTree) (ts : List Token) (x : CondTree) (rest : List Token) → chain or_in (either_of build) (conjunction build part) n (cond_with build left) ts ≡ Some (x, rest) → IsWritten (write_conjs write) (λ d. cond_with build (conjs_of tree left d)) ts x rest
    conjs_found zero left ts x rest h =
        let e = no_steps_found or_in (either_of build) (conjunction build part) _ ts x rest h in
        record { rule = NoConj; written = sym e.1; means = e.0 }
    conjs_found (suc n) left ts x rest h =
        elim (chain_found or_in (either_of build) (conjunction build part) n (cond_with build left) ts x rest h) [
          | inl e ↦ record { rule = NoConj; written = sym e.1; means = e.0 }
          | inr s ↦
              let next = conj_found (after_first ts) s.right s.behind s.right_is in
              let more = conjs_found n (Either left (conj_of tree next.rule)) s.behind x rest
              (ap (λ r. chain or_in (either_of build) (conjunction build part) n (build.either (cond_with build left) r) s.behind) next.means ∙ s.more) in
              record {
                rule = MoreConjs next.rule more.rule;
                written = ap (λ r. Key word.Or ∷ write_conj write next.rule r) more.written ∙ ap (λ r. Key word.Or ∷ r) next.written ∙ or_word_found ts s.operator s.operator_is;
                means = more.means;
              }
        ]

    pub cond_found_by : IsSound (write_cond write) (λ d. cond_with build (cond_of tree d)) (condition build part)
    unfolding condition
    cond_found_by ts x rest h =
        let f = then_found _ _ _ h in
        let first = conj_found ts f.0.0 f.0.1 f.1 in
        let more = conjs_found (length f.0.1) (conj_of tree first.rule) f.0.1 x rest (ap (λ r. chain or_in (either_of build) (conjunction build part) (length f.0.1) r f.0.1) first.means ∙ f.2) in
        record { rule = Disjunction first.rule more.rule; written = ap (write_conj write first.rule) more.written ∙ first.written; means = more.means }

    enclosed_found : (ts : List Token) (x : CondTree) (rest : List Token) → enclosed build part ts ≡ Some (x, rest) → IsWritten (write_unit write) (λ d. cond_with build (unit_of tree d)) ts x rest
    unfolding enclosed
    enclosed_found ts x rest h =
        let open_ = guard_found _ _ _ h in
        let f = then_found _ _ _ open_.1 in
        let c = cond_found_by (after_first ts) f.0.0 f.0.1 f.1 in
        let close = closed_found f.0 x rest f.2 in
        record {
          rule = CondUnit c.rule;
          written = ap (λ r. sign symbol.Open ∷ write_cond write c.rule r) close.1 ∙ ap (λ r. sign symbol.Open ∷ r) c.written ∙ symbol_found symbol.Open ts open_.0;
          means = c.means ∙ close.0;
        }

    unit_of_found : (ts : List Token) (x : CondTree) (rest : List Token) → reader.unit_of build operand part ts ≡ Some (x, rest) → IsWritten (write_unit write) (λ d. cond_with build (unit_of tree d)) ts x rest
    unit_of_found ts x rest h = at (is_key word.Not (first_token ts)) refl h
      where
        at : (b : Bool) → is_key word.Not (first_token ts) ≡ b → cond b (then_read (part (after_first ts)) denied) (or_read (any_test build operand ts) (enclosed build part ts)) ≡ Some (x, rest) → IsWritten (write_unit write) (λ d. cond_with build (unit_of tree d)) ts x rest
        at true e h =
            let f = then_found _ _ _ h in
            let parts = pair_found _ _ _ _ f.2 in
            let u = part_sound (after_first ts) f.0.0 f.0.1 f.1 in
            record {
              rule = NotUnit u.rule;
              written = ap (λ r. Key word.Not ∷ write_unit write u.rule r) (sym parts.1) ∙ ap (λ r. Key word.Not ∷ r) u.written ∙ key_found word.Not ts e;
              means = ap Negation u.means ∙ parts.0;
            }
        at false e h =
            elim (or_found (any_test build operand ts) (enclosed build part ts) (x, rest) h) [
              | inl t ↦ let w = test_found ts x rest t in record { rule = TestUnit w.rule; written = w.written; means = w.means }
              | inr c ↦ enclosed_found ts x rest c
            ]

  pub unit_found : (n : ℕ) → IsSound (write_unit write) (λ d. cond_with build (unit_of tree d)) (unit build operand n)
  unfolding unit
  unit_found zero ts x rest h = cc
  unit_found (suc n) ts x rest h = unit_of_found (unit build operand n) (unit_found n) ts x rest h
