use Rattle.read_laws.proofs.ExprLaws.{one_expr_of}
use Rattle.read_laws.proofs.laws.one_expr.Goals as goal

pub returns : goal.returns
returns c = one_expr_of
