use Rattle.std.proofs.Common.{ap, ◌∙◌}
use Rattle.chunk_core.specs.Facts.{rises_with_all, dense_with_all}
use Rattle.chunk_core.specs.Parts.{part_cells}
use Rattle.chunk_core.proofs.FactLemmas.{told_append}
use Rattle.chunk_core.proofs.facts.facts_after.Goals as goal

pub returns : goal.returns
returns c = λ cells told last.
    told_append c.args.facts _ cells (part_cells c.args.more) told c.in_ok-bytes.ensures.sum c.in_ok-bytes.ensures.few
    (c.rises_after.ensures ∙ ap (λ l. rises_with_all c.args.facts.rises l (part_cells c.args.more)) last)
    (c.dense_after.ensures ∙ ap (λ l. dense_with_all c.args.facts.dense l (part_cells c.args.more)) last)
