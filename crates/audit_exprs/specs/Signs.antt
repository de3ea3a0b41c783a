-- The signs that an expression or a condition past its limit gets of what is left out.
use Rattle.std.specs.Prelude.{Bool, if◌then◌else◌}
use Rattle.read_laws.specs.Bounded.{some_column}
use Rattle.read_laws.specs.Unread.{unread_cell}
use Rattle.sql_tree.specs.Tree.{ExprTree, CondTree}
use Rattle.sql_tree.specs.Tree.ExprTree.{Literal, Operator}
use Rattle.sql_tree.specs.Tree.CondTree.{Compare, IsNull, Both, Either}
use Rattle.sql_tree.specs.declared.tree.ArithOp.TheVariants as arith
use Rattle.sql_tree.specs.declared.tree.CmpOp.TheVariants as compare
use Rattle.audit_exprs.specs.declared.bounds.Junction.{Junction}
use Rattle.audit_exprs.specs.declared.bounds.Junction.TheVariants as junction

-- the expression, and a part where it is wanted
abbrev pub expr_and : Bool → ExprTree → ExprTree → ExprTree
expr_and wanted expr part = if wanted then Operator arith.Plus expr part else expr

-- with a column and with a Huge, where these are wanted
abbrev pub signed_expr : Bool → Bool → ExprTree → ExprTree
signed_expr column unread expr = expr_and unread (expr_and column expr some_column) (Literal unread_cell)

-- the condition, and a test where it is wanted
abbrev pub cond_and : Bool → CondTree → CondTree → CondTree
cond_and wanted cond test = if wanted then Both cond test else cond

-- a test with arithmetic over columns
abbrev pub column_test : CondTree
column_test = Compare compare.Eq (Operator arith.Plus some_column some_column) some_column

-- with arithmetic over columns and with a Huge, where these are wanted
abbrev pub signed_cond : Bool → Bool → CondTree → CondTree
signed_cond arithmetic unread cond = cond_and unread (cond_and arithmetic cond column_test) (IsNull (Literal unread_cell))

-- what a word joins two conditions to
abbrev pub junction_of : Junction → CondTree → CondTree → CondTree
junction_of junction.And = Both
junction_of junction.Or = Either
