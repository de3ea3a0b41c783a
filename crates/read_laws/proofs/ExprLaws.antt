-- What is read, and only that, is derived.
use Rattle.std.proofs.Common.{◌≡◌, ◌≢◌, ◌-◌, ℕ, zero, suc, ◌<◌, List, [], length, Some, None, refl, ap, sym, ◌∙◌, subst, arith}
use Rattle.cell_core.specs.declared.cell.Cell.{Cell}
use Rattle.cell_core.specs.declared.cell.Cell.TheVariants as cell
use Rattle.sql_grammar.specs.Grammar.{write_expr, expr_of}
use Rattle.read_laws.specs.Bounded.{Builder, as_written, bounded}
use Rattle.read_laws.specs.Chain.{Found, Parser, first_token, after_first, chain}
use Rattle.read_laws.specs.DerivedExprs.{IsExpr, IsReadExpr, cell_with, expr_with}
use Rattle.read_laws.specs.ExprReader.{sign_in, term_after, term, expr_after, expr, factor_at, factor}
use Rattle.read_laws.proofs.ChainLemmas.{all_found}
use Rattle.read_laws.proofs.ExprComplete.{expr_told, EndsExpr}
use Rattle.read_laws.proofs.ExprSound.{expr_found, factor_found}
use Rattle.sql_tree.specs.Tree.{ExprTree}
use Rattle.sql_tree.specs.Tree.ExprTree.{Literal, ColumnOf, Operator, AggregateAll, Aggregate}
use Rattle.sql_tree.specs.declared.token.Token.{Token}
use Rattle.text_bytes.specs.Found.{then_read}
use Rattle.text_bytes.proofs.FoundLemmas.{pair_found}

-- after all tokens nothing goes on
none_ends : EndsExpr []
none_ends = record { term_ends = record { factor_ends = record { no_dot = refl }; no_star = refl }; no_sign = refl }

-- an expression is its first factor and what follows that
pub expr_goes_on : (build : Builder) (part : Parser ExprTree) (ts : List Token) (first : ExprTree) (rest : List Token) → part ts ≡ Some (first, rest) → expr build part ts ≡ expr_after build part first rest
unfolding expr term expr_after
expr_goes_on build part ts first rest h = ap (λ o. then_read (then_read o (λ first. term_after build part first.0 first.1)) (λ first. chain sign_in build.operator (term build part) (length first.1) first.0 first.1)) h

pub expr_none : (build : Builder) (part : Parser ExprTree) (ts : List Token) → part ts ≡ None → expr build part ts ≡ None
unfolding expr term
expr_none build part ts h = ap (λ o. then_read (then_read o (λ first. term_after build part first.0 first.1)) (λ first. chain sign_in build.operator (term build part) (length first.1) first.0 first.1)) h

-- what tokens derive is read from them
pub derived_told : (build : Builder) (ts : List Token) (e : ExprTree) → IsExpr ts e → expr build (factor build (length ts)) ts ≡ Some (expr_with build e, [])
derived_told build ts e is =
    let P : List Token → Type 0 = λ ts. expr build (factor build (length ts)) ts ≡ Some (expr_with build e, []) in
    let told : P (write_expr is.rule []) = expr_told build is.rule (length (write_expr is.rule [])) [] (omega arith) none_ends ∙ ap (λ (e : ExprTree). let f : Found ExprTree = Some (expr_with build e, []) in f) is.expr_is in
    subst P is.tokens_are told

pub same_cell : (c : Cell) → cell_with cell.Int c ≡ c
same_cell (cell.Int n) = refl
same_cell other = refl

-- the numbers of a tree are its own
pub same_tree : (e : ExprTree) → expr_with as_written e ≡ e
same_tree (Literal literal) = ap Literal (same_cell literal)
same_tree (ColumnOf column) = refl
same_tree (Operator op left right) = ap (λ l. Operator op l (expr_with as_written right)) (same_tree left) ∙ ap (λ r. Operator op left r) (same_tree right)
same_tree (AggregateAll f) = refl
same_tree (Aggregate f of) = ap (λ e. Aggregate f e) (same_tree of)

pub one_expr_of : (ts : List Token) (a b : ExprTree) → IsExpr ts a → IsExpr ts b → a ≡ b
one_expr_of ts a b first second =
    let both = pair_found _ _ _ _ (sym (derived_told as_written ts a first) ∙ derived_told as_written ts b second) in
    sym (same_tree a) ∙ both.0 ∙ same_tree b

-- what is read is derived
pub read_found : (ts : List Token) (n : ℕ) (tree : ExprTree) → expr bounded (factor bounded n) ts ≡ Some (tree, []) → IsReadExpr ts tree
read_found ts n tree h =
    let w = expr_found bounded (factor bounded n) (factor_found bounded n) ts tree [] h in
    record { expr = expr_of w.rule; derived = record { rule = w.rule; tokens_are = w.written; expr_is = refl }; tree_is = w.means }

-- where nothing is read nothing is derived
pub none_found : (ts : List Token) → expr bounded (factor bounded (length ts)) ts ≡ None → (e : ExprTree) → IsExpr ts e → ⊥
none_found ts h e is = let told : ◌≡◌ {A = Found ExprTree} None (Some (expr_with bounded e, [])) = sym h ∙ derived_told bounded ts e is in cc

-- where no token is left what was read is derived
pub whole_found : (ts : List Token) (n : ℕ) (tree : ExprTree) (rest : List Token) → expr bounded (factor bounded n) ts ≡ Some (tree, rest) → rest ≡ [] → IsReadExpr ts tree
whole_found ts n tree rest h none = read_found ts n tree (all_found _ tree rest h none)

-- nor where tokens are left
pub left_found : (ts : List Token) (tree : ExprTree) (rest : List Token) → expr bounded (factor bounded (length ts)) ts ≡ Some (tree, rest) → 0 < length rest → (e : ExprTree) → IsExpr ts e → ⊥
left_found ts tree rest h some e is =
    let both = pair_found _ _ _ _ (sym h ∙ derived_told bounded ts e is) in
    let none : length rest ≡ 0 = ap length both.1 in
    omega arith

-- a factor of no level, and of one more
pub factor_none : (n : ℕ) (ts : List Token) → n ≡ 0 → factor bounded n ts ≡ None
unfolding factor
factor_none zero ts h = refl
factor_none (suc n) ts h = absurd (omega arith)

pub factor_inner : (n : ℕ) (ts : List Token) → n ≢ 0 → factor bounded n ts ≡ factor_at bounded (factor bounded (n - 1)) (first_token ts) (after_first ts)
unfolding factor
factor_inner zero ts h = absurd (h refl)
factor_inner (suc n) ts h = let e : n ≡ suc n - 1 = omega arith in ap (λ k. factor_at bounded (factor bounded k) (first_token ts) (after_first ts)) e
