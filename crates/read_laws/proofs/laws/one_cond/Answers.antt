use Rattle.read_laws.proofs.CondLaws.{one_where, one_having}
use Rattle.read_laws.proofs.laws.one_cond.Goals as goal

pub returns : goal.returns
returns c = record { cond = one_where; having = one_having }
