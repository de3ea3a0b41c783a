-- The expressions of a condition.
use Rattle.std.specs.Prelude.{List, [], ◌∷◌, ◌++◌, Option, Some, None}
use Rattle.sql_tree.specs.Tree.{ExprTree, CondTree}
use Rattle.sql_tree.specs.Tree.CondTree.{Compare, Within, IsNull, Negation, Both, Either}

-- the expressions of a condition: each side of a test is one
abbrev pub cond_exprs : CondTree → List ExprTree
cond_exprs (Compare op left right) = left ∷ right ∷ []
cond_exprs (Within of low high) = of ∷ low ∷ high ∷ []
cond_exprs (IsNull of) = of ∷ []
cond_exprs (Negation cond) = cond_exprs cond
cond_exprs (Both left right) = cond_exprs left ++ cond_exprs right
cond_exprs (Either left right) = cond_exprs left ++ cond_exprs right

-- those of a condition that may be missing
abbrev pub exprs_of_cond : Option CondTree → List ExprTree
exprs_of_cond None = []
exprs_of_cond (Some cond) = cond_exprs cond
