use Rattle.std.proofs.Common.{length, get_or, sym, ap, ◌∙◌, arith, ◌+◌}
use Rattle.cell_core.specs.declared.cell.Cell.TheVariants.{Oid}
use Rattle.chunk_core.specs.Parts.{part_cells}
use Rattle.chunk_core.proofs.PartLemmas.{length_oids, get_oids}
use Rattle.chunk_core.proofs.part.Part.get.Goals as goal

pub overflow_add-result : goal.overflow_add-result
overflow_add-result c =
    omega (arith, length_oids c.in-Rising.all.first c.in-Rising.all.len, ap (λ p. length (part_cells p)) c.in-Rising.is, c.in-Rising.all.fits)

pub returns-in-Rising : goal.returns-in-Rising
returns-in-Rising c =
    sym (get_oids c.in-Rising.all.first c.in-Rising.all.len c.args.at (Oid (c.in-Rising.all.first + c.args.at)) (omega (arith, length_oids c.in-Rising.all.first c.in-Rising.all.len, ap (λ p. length (part_cells p)) c.in-Rising.is)))
    ∙ ap (λ p. get_or (part_cells p) c.args.at (Oid (c.in-Rising.all.first + c.args.at))) (sym c.in-Rising.is)
