use Rattle.std.proofs.Common.{refl}
use Rattle.query_run.proofs.step.RunningQuery.to_offer.Goals as goal

pub returns : goal.returns
returns c = (_, refl, refl, refl, λ instr at. record { key = c.in_ok-key.ensures instr at.here; value = c.requires.value; work = (c.in_ok-work.ensures).work instr at; small = (c.in_ok-work.ensures).small })
