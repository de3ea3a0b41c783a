use Rattle.reuse_laws.proofs.Reused.{reused_within}
use Rattle.reuse_laws.proofs.selections.selections_within.Goals as goal

pub returns : goal.returns
returns c = reused_within
