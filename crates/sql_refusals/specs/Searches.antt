-- Helpers of proofs, which only private contracts cite: what is looked for in the expressions of a
-- statement.
use Rattle.std.specs.Prelude.{Bool, nat_lt}
use Rattle.sql_grammar.specs.Refused.{expr_nodes}
use Rattle.sql_tree.specs.Tree.{ExprTree}
use Rattle.sql_refusals.specs.declared.exprs.Sought.{Sought}
use Rattle.sql_refusals.specs.declared.exprs.Sought.TheVariants.{Large, Unread}
use Rattle.read_laws.specs.Unread.{has_literal, is_unread_cell}

-- the expression is one that is looked for
abbrev pub is_sought : Sought → ExprTree → Bool
is_sought Large e = nat_lt 64 (expr_nodes e)
is_sought Unread e = has_literal is_unread_cell e
