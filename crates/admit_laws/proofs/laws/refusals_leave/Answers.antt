use Rattle.admit_laws.proofs.LeftLemmas.{refusals_leave_holds}
use Rattle.admit_laws.proofs.laws.refusals_leave.Goals as goal

pub returns : goal.returns
returns c = refusals_leave_holds
