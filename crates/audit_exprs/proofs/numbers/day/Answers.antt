use Rattle.text_bytes.proofs.DayLemmas.{day_read}
use Rattle.audit_exprs.proofs.numbers.day.Goals as goal

pub returns : goal.returns
returns c = day_read c.read_day.result c.args.text.now c.read_day.ensures.day c.read_day.ensures.none
