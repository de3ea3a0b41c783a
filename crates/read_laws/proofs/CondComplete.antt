-- What a derivation of a condition writes is read as what it stands for.
use Rattle.std.proofs.Common.{◌≡◌, ℕ, zero, suc, ◌<◌, ◌≤◌, List, [], ◌∷◌, length, map, true, false, Some, None, refl, ◌∙◌, arith}
use Rattle.sql_grammar.specs.Grammar.{sign, write_more, write_enclosed, CmpRule, write_cmp, cmp_of, TestRule, CondRule, ConjsRule, ConjRule, UnitsRule, UnitRule, write_test, write_cond, write_conjs, write_conj, write_units, write_unit, members_of, test_of, cond_of, conjs_of, conj_of, units_of, unit_of}
use Rattle.sql_grammar.specs.Grammar.CmpRule.{EqualSign, NotEqualSign, BangEqualSign, LessSign, LessEqualSign, GreaterSign, GreaterEqualSign}
use Rattle.sql_grammar.specs.Grammar.TestRule.{Comparison, BetweenTest, InTest, NullTest}
use Rattle.sql_grammar.specs.Grammar.CondRule.{Disjunction}
use Rattle.sql_grammar.specs.Grammar.ConjsRule.{NoConj, MoreConjs}
use Rattle.sql_grammar.specs.Grammar.ConjRule.{Conjunction}
use Rattle.sql_grammar.specs.Grammar.UnitsRule.{NoUnit, MoreUnits}
use Rattle.sql_grammar.specs.Grammar.UnitRule.{NotUnit, CondUnit, TestUnit}
use Rattle.read_laws.specs.Bounded.{Builder}
use Rattle.read_laws.specs.Chain.{Parser, first_token, chain}
use Rattle.read_laws.specs.CondReader.{comparison_in, or_in, and_in, or_member, both_of, either_of, denied, within, members, listed, range, null_test, word_test, test_behind, any_test, conjunction, condition, enclosed, unit}
use Rattle.read_laws.specs.DerivedExprs.{expr_with, cond_with}
use Rattle.read_laws.specs.Parts.{is_key, is_symbol, comma_in}
use Rattle.read_laws.specs.ExprReader.{is_close, expr, factor, closed}
use Rattle.read_laws.proofs.ChainLemmas.{then_told, then_none, given_told, or_told, or_none, branch_false, chain_ends, chain_goes_on}
use Rattle.read_laws.proofs.ExprComplete.{EndsExpr}
use Rattle.read_laws.proofs.OperandComplete.{IsOperand, expr_none, close_ends}
use Rattle.sql_tree.specs.Tree.{ExprTree, CondTree}
use Rattle.sql_tree.specs.Tree.CondTree.{Compare, Within, Both, Either}
use Rattle.sql_tree.specs.declared.token.Keyword.TheVariants as word
use Rattle.sql_tree.specs.declared.token.Symbol.TheVariants as symbol
use Rattle.sql_tree.specs.declared.token.Token.{Token}
use Rattle.sql_tree.specs.declared.token.Token.TheVariants.{Key}
use Rattle.sql_tree.specs.declared.tree.CmpOp.TheVariants as compare
use Rattle.text_bytes.specs.Found.{then_read}

-- ## What may follow a part

pub record EndsConj (ts : List Token) : Type 0 where
  pub expr_ends : EndsExpr ts
  pub no_and : and_in (first_token ts) ≡ None

pub record EndsCond (ts : List Token) : Type 0 where
  pub conj_ends : EndsConj ts
  pub no_or : or_in (first_token ts) ≡ None

and_ends : (ts : List Token) → EndsExpr (Key word.And ∷ ts)
and_ends ts = record { term_ends = record { factor_ends = record { no_dot = refl }; no_star = refl }; no_sign = refl }

or_ends : (ts : List Token) → EndsConj (Key word.Or ∷ ts)
or_ends ts = record { expr_ends = record { term_ends = record { factor_ends = record { no_dot = refl }; no_star = refl }; no_sign = refl }; no_and = refl }

not_ends : (ts : List Token) → EndsExpr (Key word.Not ∷ ts)
not_ends ts = record { term_ends = record { factor_ends = record { no_dot = refl }; no_star = refl }; no_sign = refl }

between_ends : (ts : List Token) → EndsExpr (Key word.Between ∷ ts)
between_ends ts = record { term_ends = record { factor_ends = record { no_dot = refl }; no_star = refl }; no_sign = refl }

is_ends : (ts : List Token) → EndsExpr (Key word.Is ∷ ts)
is_ends ts = record { term_ends = record { factor_ends = record { no_dot = refl }; no_star = refl }; no_sign = refl }

in_ends : (ts : List Token) → EndsExpr (Key word.In ∷ ts)
in_ends ts = record { term_ends = record { factor_ends = record { no_dot = refl }; no_star = refl }; no_sign = refl }

pub comma_ends : (ts : List Token) → EndsExpr (sign symbol.Comma ∷ ts)
comma_ends ts = record { term_ends = record { factor_ends = record { no_dot = refl }; no_star = refl }; no_sign = refl }

cmp_ends : (c : CmpRule) (ts : List Token) → EndsExpr (write_cmp c ∷ ts)
cmp_ends EqualSign ts = record { term_ends = record { factor_ends = record { no_dot = refl }; no_star = refl }; no_sign = refl }
cmp_ends NotEqualSign ts = record { term_ends = record { factor_ends = record { no_dot = refl }; no_star = refl }; no_sign = refl }
cmp_ends BangEqualSign ts = record { term_ends = record { factor_ends = record { no_dot = refl }; no_star = refl }; no_sign = refl }
cmp_ends LessSign ts = record { term_ends = record { factor_ends = record { no_dot = refl }; no_star = refl }; no_sign = refl }
cmp_ends LessEqualSign ts = record { term_ends = record { factor_ends = record { no_dot = refl }; no_star = refl }; no_sign = refl }
cmp_ends GreaterSign ts = record { term_ends = record { factor_ends = record { no_dot = refl }; no_star = refl }; no_sign = refl }
cmp_ends GreaterEqualSign ts = record { term_ends = record { factor_ends = record { no_dot = refl }; no_star = refl }; no_sign = refl }

cmp_no_close : (c : CmpRule) → is_close (Some (write_cmp c)) ≡ false
cmp_no_close EqualSign = refl
cmp_no_close NotEqualSign = refl
cmp_no_close BangEqualSign = refl
cmp_no_close LessSign = refl
cmp_no_close LessEqualSign = refl
cmp_no_close GreaterSign = refl
cmp_no_close GreaterEqualSign = refl

comparison_told : (c : CmpRule) → comparison_in (Some (write_cmp c)) ≡ Some (cmp_of c)
comparison_told EqualSign = refl
comparison_told NotEqualSign = refl
comparison_told BangEqualSign = refl
comparison_told LessSign = refl
comparison_told LessEqualSign = refl
comparison_told GreaterSign = refl
comparison_told GreaterEqualSign = refl

pub close_ends_cond : (rest : List Token) → EndsCond (sign symbol.Close ∷ rest)
close_ends_cond rest = record { conj_ends = record { expr_ends = close_ends rest; no_and = refl }; no_or = refl }

module _ (build : Builder) {E : Type 0} (write : E → List Token → List Token) (tree : E → ExprTree) (operand : Parser ExprTree) (is : IsOperand build write tree operand) where
  units_end : (units : UnitsRule E) (rest : List Token) → EndsConj rest → EndsExpr (write_units write units rest)
  units_end NoUnit rest ends = ends.expr_ends
  units_end (MoreUnits unit units) rest ends = and_ends _

  conjs_end : (conjs : ConjsRule E) (rest : List Token) → EndsCond rest → EndsConj (write_conjs write conjs rest)
  conjs_end NoConj rest ends = ends.conj_ends
  conjs_end (MoreConjs conj conjs) rest ends = or_ends _

  more_end : (ms : List E) (rest : List Token) → EndsExpr rest → EndsExpr (write_more write ms rest)
  more_end [] rest ends = ends
  more_end (m ∷ ms) rest ends = comma_ends _

  -- ## What is written is longer than what follows it

  more_longer : (ms : List E) (rest : List Token) → length rest ≤ length (write_more write ms rest)
  more_longer [] rest = omega arith
  more_longer (m ∷ ms) rest =
      let a = more_longer ms rest in
      let b = is.longer m (write_more write ms rest) in
      omega (arith, a, b)

  test_longer : (d : TestRule E) (rest : List Token) → length rest < length (write_test write d rest)
  test_longer (Comparison left c right) rest =
      let a = is.longer right rest in
      let b = is.longer left (write_cmp c ∷ write right rest) in
      omega (arith, a, b)
  test_longer (BetweenTest of true low high) rest =
      let a = is.longer high rest in
      let b = is.longer low (Key word.And ∷ write high rest) in
      let c = is.longer of (Key word.Not ∷ Key word.Between ∷ write low (Key word.And ∷ write high rest)) in
      omega (arith, a, b, c)
  test_longer (BetweenTest of false low high) rest =
      let a = is.longer high rest in
      let b = is.longer low (Key word.And ∷ write high rest) in
      let c = is.longer of (Key word.Between ∷ write low (Key word.And ∷ write high rest)) in
      omega (arith, a, b, c)
  test_longer (InTest of true ms) rest =
      let a = more_longer ms.1 (sign symbol.Close ∷ rest) in
      let b = is.longer ms.0 (write_more write ms.1 (sign symbol.Close ∷ rest)) in
      let c = is.longer of (Key word.Not ∷ Key word.In ∷ write_enclosed write ms rest) in
      omega (arith, a, b, c)
  test_longer (InTest of false ms) rest =
      let a = more_longer ms.1 (sign symbol.Close ∷ rest) in
      let b = is.longer ms.0 (write_more write ms.1 (sign symbol.Close ∷ rest)) in
      let c = is.longer of (Key word.In ∷ write_enclosed write ms rest) in
      omega (arith, a, b, c)
  test_longer (NullTest of true) rest = let a = is.longer of (Key word.Is ∷ Key word.Not ∷ Key word.Null ∷ rest) in omega (arith, a)
  test_longer (NullTest of false) rest = let a = is.longer of (Key word.Is ∷ Key word.Null ∷ rest) in omega (arith, a)

  mutual
    pub cond_longer : (d : CondRule E) (rest : List Token) → length rest < length (write_cond write d rest)
    cond_longer (Disjunction conj conjs) rest =
        let a = conjs_longer conjs rest in
        let b = conj_longer conj (write_conjs write conjs rest) in
        omega (arith, a, b)

    conjs_longer : (d : ConjsRule E) (rest : List Token) → length rest ≤ length (write_conjs write d rest)
    conjs_longer NoConj rest = omega arith
    conjs_longer (MoreConjs conj conjs) rest =
        let a = conjs_longer conjs rest in
        let b = conj_longer conj (write_conjs write conjs rest) in
        omega (arith, a, b)

    conj_longer : (d : ConjRule E) (rest : List Token) → length rest < length (write_conj write d rest)
    conj_longer (Conjunction unit units) rest =
        let a = units_longer units rest in
        let b = unit_longer unit (write_units write units rest) in
        omega (arith, a, b)

    units_longer : (d : UnitsRule E) (rest : List Token) → length rest ≤ length (write_units write d rest)
    units_longer NoUnit rest = omega arith
    units_longer (MoreUnits unit units) rest =
        let a = units_longer units rest in
        let b = unit_longer unit (write_units write units rest) in
        omega (arith, a, b)

    unit_longer : (d : UnitRule E) (rest : List Token) → length rest < length (write_unit write d rest)
    unit_longer (NotUnit unit) rest = let a = unit_longer unit rest in omega (arith, a)
    unit_longer (CondUnit c) rest = let a = cond_longer c (sign symbol.Close ∷ rest) in omega (arith, a)
    unit_longer (TestUnit test) rest = test_longer test rest

  -- ## Tests

  within_told : (of : ExprTree) (low high : E) (rest : List Token) → EndsExpr rest → within build operand (expr_with build of) (write low (Key word.And ∷ write high rest)) ≡ Some (cond_with build (Within of (tree low) (tree high)), rest)
  unfolding within is_key
  within_told of low high rest ends = then_told _ _ _ _ (is.told low _ (and_ends _)) (then_told _ _ _ _ (is.told high rest ends) refl)

  more_members_told : (ms : List E) (n : ℕ) (of : ExprTree) (so_far : CondTree) (rest : List Token) → length (write_more write ms rest) ≤ n → EndsExpr rest → comma_in (first_token rest) ≡ None → chain comma_in (or_member build (expr_with build of)) operand n (cond_with build so_far) (write_more write ms rest) ≡ Some (cond_with build (members_of so_far of (map tree ms)), rest)
  more_members_told [] n of so_far rest h ends none = chain_ends comma_in _ operand n (cond_with build so_far) rest none
  more_members_told (m ∷ ms) zero of so_far rest h ends none = absurd (omega arith)
  more_members_told (m ∷ ms) (suc n) of so_far rest h ends none =
      let longer = is.longer m (write_more write ms rest) in
      chain_goes_on comma_in (or_member build (expr_with build of)) operand n (cond_with build so_far) _ symbol.Comma (expr_with build (tree m)) (write_more write ms rest) refl (is.told m (write_more write ms rest) (more_end ms rest ends))
      ∙ more_members_told ms n of (Either so_far (Compare compare.Eq of (tree m))) rest (omega (arith, longer)) ends none

  listed_told : (of : ExprTree) (ms : E × List E) (rest : List Token) → listed build operand (expr_with build of) (write_enclosed write ms rest) ≡ Some (cond_with build (members_of (Compare compare.Eq of (tree ms.0)) of (map tree ms.1)), rest)
  unfolding listed members is_symbol
  listed_told of ms rest =
      let behind = write_more write ms.1 (sign symbol.Close ∷ rest) in
      then_told _ _ closed _
      (then_told _ _ _ _ (is.told ms.0 behind (more_end ms.1 _ (close_ends rest)))
      (more_members_told ms.1 (length behind) of (Compare compare.Eq of (tree ms.0)) (sign symbol.Close ∷ rest) (omega arith) (close_ends rest) refl))
      refl

  test_told : (d : TestRule E) (rest : List Token) → EndsExpr rest → any_test build operand (write_test write d rest) ≡ Some (cond_with build (test_of tree d), rest)
  unfolding any_test test_behind word_test null_test range is_key
  test_told (Comparison left c right) rest ends =
      then_told _ _ _ _ (is.told left _ (cmp_ends c _))
      (given_told _ (cmp_of c) _ _ _ (comparison_told c) (then_told _ _ _ _ (is.told right rest ends) refl))
  test_told (BetweenTest of true low high) rest ends = then_told _ _ _ _ (is.told of _ (not_ends _)) (then_told _ _ denied _ (within_told (tree of) low high rest ends) refl)
  test_told (BetweenTest of false low high) rest ends = then_told _ _ _ _ (is.told of _ (between_ends _)) (within_told (tree of) low high rest ends)
  test_told (InTest of true ms) rest ends = then_told _ _ _ _ (is.told of _ (not_ends _)) (then_told _ _ denied _ (listed_told (tree of) ms rest) refl)
  test_told (InTest of false ms) rest ends = then_told _ _ _ _ (is.told of _ (in_ends _)) (listed_told (tree of) ms rest)
  test_told (NullTest of true) rest ends = then_told _ _ _ _ (is.told of _ (is_ends _)) refl
  test_told (NullTest of false) rest ends = then_told _ _ _ _ (is.told of _ (is_ends _)) refl

  test_no_not : (d : TestRule E) (rest : List Token) → is_key word.Not (first_token (write_test write d rest)) ≡ false
  test_no_not (Comparison left c right) rest = is.no_not left _
  test_no_not (BetweenTest of denied low high) rest = is.no_not of _
  test_no_not (InTest of denied ms) rest = is.no_not of _
  test_no_not (NullTest of denied) rest = is.no_not of _

  -- ## A condition is no expression before a `)`

  test_early : (d : TestRule E) (n : ℕ) (rest : List Token) → length (write_test write d rest) ≤ n → then_read (expr build (factor build n) (write_test write d rest)) closed ≡ None
  test_early (Comparison left c right) n rest h = is.early left n _ h (cmp_ends c _) (cmp_no_close c)
  test_early (BetweenTest of true low high) n rest h = is.early of n _ h (not_ends _) refl
  test_early (BetweenTest of false low high) n rest h = is.early of n _ h (between_ends _) refl
  test_early (InTest of true ms) n rest h = is.early of n _ h (not_ends _) refl
  test_early (InTest of false ms) n rest h = is.early of n _ h (in_ends _) refl
  test_early (NullTest of denied) n rest h = is.early of n _ h (is_ends _) refl

  not_none : (n : ℕ) (ts : List Token) → factor build n (Key word.Not ∷ ts) ≡ None
  unfolding factor
  not_none zero ts = refl
  not_none (suc n) ts = refl

  open_none : (n : ℕ) (ts : List Token) → then_read (expr build (factor build n) ts) closed ≡ None → factor build (suc n) (sign symbol.Open ∷ ts) ≡ None
  unfolding factor
  open_none n ts h = h

  mutual
    cond_early : (d : CondRule E) (n : ℕ) (rest : List Token) → length (write_cond write d rest) ≤ n → then_read (expr build (factor build n) (write_cond write d rest)) closed ≡ None
    cond_early (Disjunction (Conjunction unit units) conjs) n rest h = unit_early unit n _ h

    unit_early : (d : UnitRule E) (n : ℕ) (rest : List Token) → length (write_unit write d rest) ≤ n → then_read (expr build (factor build n) (write_unit write d rest)) closed ≡ None
    unit_early (NotUnit unit) n rest h = expr_none build n _ (not_none n _)
    unit_early (CondUnit c) zero rest h = absurd (omega arith)
    unit_early (CondUnit c) (suc n) rest h = expr_none build (suc n) _ (open_none n _ (cond_early c n (sign symbol.Close ∷ rest) (omega arith)))
    unit_early (TestUnit test) n rest h = test_early test n rest h

  -- ## Conditions

  mutual
    unfolding condition conjunction unit enclosed is_key is_symbol any_test

    pub cond_told : (d : CondRule E) (n : ℕ) (rest : List Token) → length (write_cond write d rest) ≤ n → EndsCond rest → condition build (unit build operand n) (write_cond write d rest) ≡ Some (cond_with build (cond_of tree d), rest)
    cond_told (Disjunction first conjs) n rest h ends =
        let longer = conj_longer first (write_conjs write conjs rest) in
        then_told _ _ _ _ (conj_told first n (write_conjs write conjs rest) h (conjs_end conjs rest ends))
        (conjs_told conjs n (length (write_conjs write conjs rest)) (conj_of tree first) rest (omega arith) (omega (arith, longer)) ends)

    conjs_told : (d : ConjsRule E) (n k : ℕ) (left : CondTree) (rest : List Token) → length (write_conjs write d rest) ≤ k → length (write_conjs write d rest) ≤ n → EndsCond rest → chain or_in (either_of build) (conjunction build (unit build operand n)) k (cond_with build left) (write_conjs write d rest) ≡ Some (cond_with build (conjs_of tree left d), rest)
    conjs_told NoConj n k left rest steps h ends = chain_ends or_in (either_of build) _ k (cond_with build left) rest ends.no_or
    conjs_told (MoreConjs next conjs) n zero left rest steps h ends = absurd (omega arith)
    conjs_told (MoreConjs next conjs) n (suc k) left rest steps h ends =
        let longer = conj_longer next (write_conjs write conjs rest) in
        chain_goes_on or_in (either_of build) _ k (cond_with build left) _ word.Or (cond_with build (conj_of tree next)) (write_conjs write conjs rest) refl
        (conj_told next n (write_conjs write conjs rest) (omega arith) (conjs_end conjs rest ends))
        ∙ conjs_told conjs n k (Either left (conj_of tree next)) rest (omega (arith, longer)) (omega (arith, longer)) ends

    conj_told : (d : ConjRule E) (n : ℕ) (rest : List Token) → length (write_conj write d rest) ≤ n → EndsConj rest → conjunction build (unit build operand n) (write_conj write d rest) ≡ Some (cond_with build (conj_of tree d), rest)
    conj_told (Conjunction first units) n rest h ends =
        let longer = unit_longer first (write_units write units rest) in
        then_told _ _ _ _ (unit_told first n (write_units write units rest) h (units_end units rest ends))
        (units_told units n (length (write_units write units rest)) (unit_of tree first) rest (omega arith) (omega (arith, longer)) ends)

    units_told : (d : UnitsRule E) (n k : ℕ) (left : CondTree) (rest : List Token) → length (write_units write d rest) ≤ k → length (write_units write d rest) ≤ n → EndsConj rest → chain and_in (both_of build) (unit build operand n) k (cond_with build left) (write_units write d rest) ≡ Some (cond_with build (units_of tree left d), rest)
    units_told NoUnit n k left rest steps h ends = chain_ends and_in (both_of build) _ k (cond_with build left) rest ends.no_and
    units_told (MoreUnits next units) n zero left rest steps h ends = absurd (omega arith)
    units_told (MoreUnits next units) n (suc k) left rest steps h ends =
        let longer = unit_longer next (write_units write units rest) in
        chain_goes_on and_in (both_of build) _ k (cond_with build left) _ word.And (cond_with build (unit_of tree next)) (write_units write units rest) refl
        (unit_told next n (write_units write units rest) (omega arith) (units_end units rest ends))
        ∙ units_told units n k (Both left (unit_of tree next)) rest (omega (arith, longer)) (omega (arith, longer)) ends

    unit_told : (d : UnitRule E) (n : ℕ) (rest : List Token) → length (write_unit write d rest) ≤ n → EndsExpr rest → unit build operand n (write_unit write d rest) ≡ Some (cond_with build (unit_of tree d), rest)
    unit_told d zero rest h ends = let longer = unit_longer d rest in absurd (omega (arith, longer))
    unit_told (NotUnit of) (suc n) rest h ends = then_told _ _ denied _ (unit_told of n rest (omega arith) ends) refl
    unit_told (CondUnit c) (suc n) rest h ends =
        let inside = write_cond write c (sign symbol.Close ∷ rest) in
        or_none _ _ _ (then_none _ _ (is.opens inside (cond_early c (length inside) (sign symbol.Close ∷ rest) (omega arith))))
        (then_told _ _ closed _ (cond_told c n (sign symbol.Close ∷ rest) (omega arith) (close_ends_cond rest)) refl)
    unit_told (TestUnit t) (suc n) rest h ends = branch_false _ _ _ _ (test_no_not t rest) (or_told _ _ _ (test_told t rest ends))
