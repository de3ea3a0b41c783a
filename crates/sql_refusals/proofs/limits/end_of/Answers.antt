use Rattle.std.proofs.Common.{sym}
use Rattle.read_laws.proofs.LimitLemmas.{ends_alone, ends_with}
use Rattle.sql_refusals.proofs.limits.end_of.Goals as goal

pub returns-in-None : goal.returns-in-None
returns-in-None c = sym (ends_alone c.args.first.now c.args.more.now c.in-None.ensures.value)

pub returns-in-Some : goal.returns-in-Some
returns-in-Some c = sym (ends_with c.args.first.now c.args.more.now c.in-Some.last.now c.in-Some.ensures.value)
