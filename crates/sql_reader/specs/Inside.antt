-- Helpers of proofs, which only private contracts cite: what parentheses were found to enclose.
use Rattle.std.specs.Prelude.{◌≡◌, List, Some, None}
use Rattle.read_laws.specs.Chain.{Found}
use Rattle.sql_reader.specs.declared.conditions.Parenthesised.{Parenthesised}
use Rattle.sql_reader.specs.declared.conditions.Parenthesised.TheVariants.{Operand, Condition}
use Rattle.sql_tree.specs.Tree.{ExprTree, CondTree, expr_tree, cond_tree}
use Rattle.sql_tree.specs.declared.token.Token.{Token}

-- what was found in parentheses, and the tokens after them: the expression, or the condition where there is none
abbrev pub IsInside : Found ExprTree → Found CondTree → Parenthesised → List Token → Type 0
IsInside expression condition (Operand operand) rest = expression ≡ Some (expr_tree operand, rest)
IsInside expression condition (Condition found) rest = (expression ≡ None) × (condition ≡ Some (cond_tree found, rest))
