use Rattle.std.proofs.Common.{◌∙◌, arith}
use Rattle.chunk_core.specs.Facts.{is_next_oid}
use Rattle.chunk_core.proofs.PartFacts.{count_below}
use Rattle.chunk_core.proofs.PartFacts.{next_is_next}
use Rattle.chunk_core.proofs.facts.count_is_next.Goals as goal

pub returns : goal.returns
returns c = c.is_next.ensures ∙ count_below is_next_oid next_is_next c.args.last.now c.args.count.first c.args.count.len (omega arith)
