-- What the grammar says of small statements: a derivation, its tokens and its tree.
use Rattle.std.proofs.Common.{◌≡◌, ℕ, ◌+◌, List, [], ◌∷◌, ◌++◌, replicate, true, false, Some, None, pos, negsuc, codes, refl}
use Rattle.cell_core.specs.declared.cell.Cell.TheVariants as cell
use Rattle.cell_core.specs.declared.cell.Kind.TheVariants as kind
use Rattle.sql_grammar.specs.Grammar.{sign, ExprRule, FactorRule, OperandRule, expr_of, write_expr}
use Rattle.sql_grammar.specs.Grammar.NameRule.{BareName}
use Rattle.sql_grammar.specs.Grammar.ColumnRule.{PlainColumn}
use Rattle.sql_grammar.specs.Grammar.ExprRule.{Sum}
use Rattle.sql_grammar.specs.Grammar.TermsRule.{NoTerm, MoreTerms}
use Rattle.sql_grammar.specs.Grammar.TermRule.{Product}
use Rattle.sql_grammar.specs.Grammar.FactorsRule.{NoFactor, MoreFactors}
use Rattle.sql_grammar.specs.Grammar.FactorRule.{Number, Operand}
use Rattle.sql_grammar.specs.Grammar.OperandRule.{NegativeNumber, NullOperand, ColumnOperand, Negated}
use Rattle.sql_grammar.specs.Grammar.SignRule.{MinusSign}
use Rattle.sql_grammar.specs.Grammar.TestRule.{InTest, NullTest}
use Rattle.sql_grammar.specs.Grammar.CondRule.{Disjunction}
use Rattle.sql_grammar.specs.Grammar.ConjsRule.{NoConj}
use Rattle.sql_grammar.specs.Grammar.ConjRule.{Conjunction}
use Rattle.sql_grammar.specs.Grammar.UnitsRule.{NoUnit}
use Rattle.sql_grammar.specs.Grammar.UnitRule.{TestUnit}
use Rattle.sql_grammar.specs.Statements.{write_stmt, stmt_of, StmtRule}
use Rattle.sql_grammar.specs.Statements.StmtRule.{DeleteRule, AlterRule}
use Rattle.sql_grammar.specs.Statements.ColumnEnd.{DefaultNotNull}
use Rattle.sql_grammar.specs.Statements.TypeRule.{TextType}
use Rattle.sql_grammar.specs.Grammar.LiteralRule.{StringLiteral}
use Rattle.sql_grammar.specs.Formed.{IsFormed}
use Rattle.sql_grammar.specs.Nesting.{open_after}
use Rattle.sql_grammar.specs.Refused.{rule_at, left_out, is_too_deep}
use Rattle.sql_tree.specs.Tree.{ExprTree, CondTree}
use Rattle.sql_tree.specs.Tree.ExprTree.{Literal, ColumnOf, Operator, AggregateAll}
use Rattle.sql_tree.specs.Tree.CondTree.{Compare, IsNull, Negation, Either}
use Rattle.sql_tree.specs.Tree.StmtTree.{DeleteFrom, AlterTable}
use Rattle.sql_tree.specs.declared.token.Keyword.TheVariants as word
use Rattle.sql_tree.specs.declared.token.Symbol.TheVariants as symbol
use Rattle.sql_tree.specs.declared.token.Token.{Token}
use Rattle.sql_tree.specs.declared.token.Token.TheVariants.{Name, Text, Digits, Key}
use Rattle.sql_tree.specs.declared.tree.AggOp.TheVariants as aggregate
use Rattle.sql_tree.specs.declared.tree.ArithOp.TheVariants as arith
use Rattle.sql_tree.specs.declared.tree.CmpOp.TheVariants as compare

abbrev column_a : OperandRule
column_a = ColumnOperand (PlainColumn (BareName (codes "a")))

abbrev tree_a : ExprTree
tree_a = ColumnOf (record { table = None; column = codes "a" })

abbrev digit : ℕ → FactorRule
digit d = Number ((48 + d) ∷ [])

abbrev plain : FactorRule → ExprRule
plain factor = Sum (Product factor NoFactor) NoTerm

abbrev number : ℕ → ExprTree
number n = Literal (cell.Int (pos n))

-- 1 - 2 - a * 3 is (1 - 2) - (a * 3)
abbrev differences : ExprRule
differences = Sum (Product (digit 1) NoFactor) (MoreTerms MinusSign (Product (digit 2) NoFactor) (MoreTerms MinusSign (Product (Operand column_a) (MoreFactors (digit 3) NoFactor)) NoTerm))

differences_are_written : write_expr differences [] ≡ Digits (codes "1") ∷ sign symbol.Minus ∷ Digits (codes "2") ∷ sign symbol.Minus ∷ Name (codes "a") ∷ sign symbol.Star ∷ Digits (codes "3") ∷ []
differences_are_written = refl

differences_group_left : expr_of differences ≡ Operator arith.Minus (Operator arith.Minus (number 1) (number 2)) (Operator arith.Times tree_a (number 3))
differences_group_left = refl

-- - - 5 is 0 - (-5)
twice_negated : expr_of (plain (Operand (Negated (NegativeNumber (codes "5"))))) ≡ Operator arith.Minus (number 0) (Literal (cell.Int (negsuc 4)))
twice_negated = refl

-- DELETE FROM t WHERE a NOT IN (1, 2, 3)
abbrev deletion : StmtRule
deletion = DeleteRule (BareName (codes "t")) (Some (Disjunction (Conjunction (TestUnit (InTest (plain (Operand column_a)) true (plain (digit 1), plain (digit 2) ∷ plain (digit 3) ∷ []))) NoUnit) NoConj))

abbrev a_is : ℕ → CondTree
a_is n = Compare compare.Eq tree_a (number n)

deletion_is_written : write_stmt deletion ≡ Key word.Delete ∷ Key word.From ∷ Name (codes "t") ∷ Key word.Where ∷ Name (codes "a") ∷ Key word.Not ∷ Key word.In ∷ sign symbol.Open ∷ Digits (codes "1") ∷ sign symbol.Comma ∷ Digits (codes "2") ∷ sign symbol.Comma ∷ Digits (codes "3") ∷ sign symbol.Close ∷ []
deletion_is_written = refl

deletion_stands_for : stmt_of deletion ≡ DeleteFrom (codes "t") (Some (Negation (Either (Either (a_is 1) (a_is 2)) (a_is 3))))
deletion_stands_for = refl

-- it is formed, and with an aggregate for a it isn't
deletion_is_formed : IsFormed (stmt_of deletion)
deletion_is_formed = record { shaped = (((tt, refl), (tt, refl)), (tt, refl)); kept = refl; within = refl }

aggregates_are_not_formed : IsFormed (DeleteFrom (codes "t") (Some (Compare compare.Eq (AggregateAll aggregate.Count) (number 1)))) → ⊥
aggregates_are_not_formed formed = formed.shaped.0

-- - NULL is 0 - NULL
null_negated : expr_of (plain (Operand (Negated NullOperand))) ≡ Operator arith.Minus (number 0) (Literal cell.Nil)
null_negated = refl

-- DELETE FROM t WHERE a IS NOT NULL
abbrev known_deletion : StmtRule
known_deletion = DeleteRule (BareName (codes "t")) (Some (Disjunction (Conjunction (TestUnit (NullTest (plain (Operand column_a)) true)) NoUnit) NoConj))

known_deletion_is_written : write_stmt known_deletion ≡ Key word.Delete ∷ Key word.From ∷ Name (codes "t") ∷ Key word.Where ∷ Name (codes "a") ∷ Key word.Is ∷ Key word.Not ∷ Key word.Null ∷ []
known_deletion_is_written = refl

known_deletion_stands_for : stmt_of known_deletion ≡ DeleteFrom (codes "t") (Some (Negation (IsNull tree_a)))
known_deletion_stands_for = refl

-- ALTER TABLE t ADD a TEXT DEFAULT 'x' NOT NULL
abbrev alteration : StmtRule
alteration = AlterRule (BareName (codes "t")) false (record { name = BareName (codes "a"); kind = TextType; end = DefaultNotNull (StringLiteral (codes "x")) })

alteration_is_written : write_stmt alteration ≡ Key word.Alter ∷ Key word.Table ∷ Name (codes "t") ∷ Key word.Add ∷ Name (codes "a") ∷ Key word.Text ∷ Key word.Default ∷ Text (codes "x") ∷ Key word.Not ∷ Key word.Null ∷ []
alteration_is_written = refl

alteration_stands_for : stmt_of alteration ≡ AlterTable (codes "t") (record { name = codes "a"; kind = kind.Text; width = 0; not_null = true; default = cell.Text (codes "x") })
alteration_stands_for = refl

-- ## What is refused

-- a call, a number with a point, a query inside another
a_call : rule_at (Key word.Select ∷ Name (codes "f") ∷ sign symbol.Open ∷ []) 1 ≡ Some (codes "FUNCTION")
a_call = refl

a_decimal : rule_at (Key word.Select ∷ Name (codes "t") ∷ sign symbol.Dot ∷ Digits (codes "5") ∷ []) 2 ≡ Some (codes "DECIMAL")
a_decimal = refl

subquery : rule_at (Key word.Explain ∷ Key word.Select ∷ sign symbol.Open ∷ Key word.Select ∷ []) 3 ≡ Some (codes "SUBQUERY")
subquery = refl

column_arithmetic : left_out (DeleteFrom (codes "t") (Some (Negation (Compare compare.Eq (Operator arith.Plus tree_a (number 1)) (number 2))))) ≡ Some (codes "ARITHMETIC IN WHERE")
column_arithmetic = refl

-- ## Levels

-- NOT ( - ( opens four constructs
four_open : open_after (Key word.Not ∷ sign symbol.Open ∷ sign symbol.Minus ∷ sign symbol.Open ∷ []) ≡ 4
four_open = refl

-- with its `)` the inner parenthesis is closed, and the `-` before it
two_closed : open_after (Key word.Not ∷ sign symbol.Open ∷ sign symbol.Minus ∷ sign symbol.Open ∷ Name (codes "a") ∷ sign symbol.Close ∷ []) ≡ 2
two_closed = refl

-- a - - and ( ( a ) b
run_open : open_after (Name (codes "a") ∷ sign symbol.Minus ∷ sign symbol.Minus ∷ []) ≡ 2
run_open = refl

run_ended : open_after (sign symbol.Minus ∷ sign symbol.Minus ∷ Name (codes "a") ∷ []) ≡ 0
run_ended = refl

outer_open : open_after (sign symbol.Open ∷ sign symbol.Open ∷ Name (codes "a") ∷ sign symbol.Close ∷ Name (codes "b") ∷ []) ≡ 1
outer_open = refl

-- a `)` too many closes nothing that comes later
close_first : open_after (sign symbol.Close ∷ sign symbol.Open ∷ []) ≡ 1
close_first = refl

-- 511 times `-`, a parenthesis and a name aren't too deep, and 512 times `-` are
abbrev levels_of : ℕ → List Token
levels_of n = replicate n (sign symbol.Minus) ++ sign symbol.Open ∷ Name (codes "a") ∷ []

deepest : is_too_deep [] 0 (levels_of 511) ≡ false
deepest = refl

too_deep : is_too_deep [] 0 (levels_of 512) ≡ true
too_deep = refl
