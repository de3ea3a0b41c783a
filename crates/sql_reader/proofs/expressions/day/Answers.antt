use Rattle.std.proofs.Common.{ap, ◌∙◌}
use Rattle.text_bytes.specs.Days.{day_named}
use Rattle.sql_reader.proofs.expressions.day.Goals as goal

pub returns : goal.returns
returns c = c.named_day.ensures ∙ ap day_named c.text.ensures.text
