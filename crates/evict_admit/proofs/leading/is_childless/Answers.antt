use Rattle.std.proofs.Common.{sym}
use Rattle.evict_admit.proofs.Leads.{unmarked}
use Rattle.evict_admit.proofs.leading.is_childless.Goals as goal

pub returns-then-marks-id-eq0 : goal.returns-then-marks-id-eq0
returns-then-marks-id-eq0 c = sym (unmarked c.args.rows.now c.args.marks.now c.args.id c.requires c.if-marks-id-eq0.true)
