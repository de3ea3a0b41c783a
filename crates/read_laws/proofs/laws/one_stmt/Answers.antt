use Rattle.read_laws.proofs.StmtLaws.{one_stmt_of}
use Rattle.read_laws.proofs.laws.one_stmt.Goals as goal

pub returns : goal.returns
returns c = one_stmt_of
