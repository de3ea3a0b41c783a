use Rattle.audit_laws.proofs.HonestLemmas.{served_honest}
use Rattle.audit_laws.proofs.laws.served_is_honest.Goals as goal

pub returns : goal.returns
returns c = served_honest
