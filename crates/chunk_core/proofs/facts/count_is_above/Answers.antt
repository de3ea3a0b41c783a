use Rattle.std.proofs.Common.{◌∙◌, arith}
use Rattle.chunk_core.specs.Facts.{is_below}
use Rattle.chunk_core.proofs.PartFacts.{count_below}
use Rattle.chunk_core.proofs.FilledLemmas.{next_is_below}
use Rattle.chunk_core.proofs.facts.count_is_above.Goals as goal

pub returns : goal.returns
returns c = c.stands_before.ensures ∙ count_below is_below next_is_below c.args.last.now c.args.count.first c.args.count.len (omega arith)
