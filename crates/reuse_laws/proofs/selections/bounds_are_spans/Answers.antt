use Rattle.reuse_laws.proofs.Bridge.{selected_is, spans_ask, bounds_ask}
use Rattle.reuse_laws.proofs.selections.bounds_are_spans.Goals as goal

pub returns : goal.returns
returns c = record { kept = selected_is; asked = spans_ask; back = bounds_ask }
