-- What an expression and a condition are read as, where tokens derive them. `Bounded` says how they are kept.
use Rattle.std.specs.Prelude.{◌≡◌, List, [], ℤ}
use Rattle.cell_core.specs.declared.cell.Cell.{Cell}
use Rattle.cell_core.specs.declared.cell.Cell.TheVariants as cell
use Rattle.sql_grammar.specs.Grammar.{ExprRule, write_expr, expr_of, write_value, value_of, CondRule, write_cond, cond_of}
use Rattle.read_laws.specs.Bounded.{Builder, bounded}
use Rattle.sql_tree.specs.Tree.{ExprTree, CondTree}
use Rattle.sql_tree.specs.Tree.ExprTree.{Literal, ColumnOf, Operator, AggregateAll, Aggregate}
use Rattle.sql_tree.specs.Tree.CondTree.{Compare, Within, IsNull, Negation, Both, Either}
use Rattle.sql_tree.specs.declared.token.Token.{Token}

-- the tokens derive the expression
pub record IsExpr (tokens : List Token) (expr : ExprTree) : Type 0 where
  pub rule : ExprRule
  pub tokens_are : write_expr rule [] ≡ tokens
  pub expr_is : expr_of rule ≡ expr

-- a cell whose number, if it is one, is another cell
abbrev pub cell_with : (ℤ → Cell) → Cell → Cell
cell_with number (cell.Int n) = number n
cell_with number other = other

-- the expression as a builder keeps it
abbrev pub expr_with : Builder → ExprTree → ExprTree
expr_with build (Literal literal) = Literal (cell_with build.number literal)
expr_with build (ColumnOf column) = ColumnOf column
expr_with build (Operator op left right) = build.operator op (expr_with build left) (expr_with build right)
expr_with build (AggregateAll f) = AggregateAll f
expr_with build (Aggregate f of) = Aggregate f (expr_with build of)

-- the tokens derive an expression that is kept as the tree
pub record IsReadExpr (tokens : List Token) (tree : ExprTree) : Type 0 where
  pub expr : ExprTree
  pub derived : IsExpr tokens expr
  pub tree_is : expr_with bounded expr ≡ tree

-- no tokens derive two expressions
abbrev pub EachIsOneExpr : Type 0
EachIsOneExpr = (tokens : List Token) (a b : ExprTree) → IsExpr tokens a → IsExpr tokens b → a ≡ b

-- the tokens derive the condition, over operands that are written and stand for expressions
pub record IsCondOver {E : Type 0} (write : E → List Token → List Token) (tree : E → ExprTree) (tokens : List Token) (cond : CondTree) : Type 0 where
  pub rule : CondRule E
  pub tokens_are : write_cond write rule [] ≡ tokens
  pub cond_is : cond_of tree rule ≡ cond

-- the tokens derive the condition, over expressions
abbrev pub IsCond : List Token → CondTree → Type 0
IsCond = IsCondOver write_expr expr_of

-- the tokens derive the condition, over expressions and aggregates
abbrev pub IsHaving : List Token → CondTree → Type 0
IsHaving = IsCondOver write_value value_of

-- the condition as a builder keeps it
abbrev pub cond_with : Builder → CondTree → CondTree
cond_with build (Compare op left right) = Compare op (expr_with build left) (expr_with build right)
cond_with build (Within of low high) = Within (expr_with build of) (expr_with build low) (expr_with build high)
cond_with build (IsNull of) = IsNull (expr_with build of)
cond_with build (Negation of) = Negation (cond_with build of)
cond_with build (Both left right) = build.both (cond_with build left) (cond_with build right)
cond_with build (Either left right) = build.either (cond_with build left) (cond_with build right)

-- a condition that is derived is kept as the tree
pub record IsReadCond (IsDerived : CondTree → Type 0) (tree : CondTree) : Type 0 where
  pub cond : CondTree
  pub derived : IsDerived cond
  pub tree_is : cond_with bounded cond ≡ tree

-- no tokens derive two conditions, nor two conditions of HAVING
abbrev pub EachIsOneCond : Type 0
EachIsOneCond = (tokens : List Token) (a b : CondTree) → IsCond tokens a → IsCond tokens b → a ≡ b

abbrev pub EachIsOneHaving : Type 0
EachIsOneHaving = (tokens : List Token) (a b : CondTree) → IsHaving tokens a → IsHaving tokens b → a ≡ b
