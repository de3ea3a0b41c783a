use Rattle.std.proofs.Common.{length, take, sym, ap, ◌∙◌, arith}
use Rattle.std.proofs.lemmas.List.{take-map}
use Rattle.cell_core.specs.declared.cell.Cell.TheVariants.{Int, Day, Oid, Bit}
use Rattle.chunk_core.specs.Parts.{part_cells}
use Rattle.chunk_core.proofs.PartLemmas.{length_oids, take_oids}
use Rattle.chunk_core.proofs.part.Part.front.Goals as goal

pub invariant_of-result : goal.invariant_of-result
invariant_of-result c =
    record { fits = omega (arith, length_oids c.in-Rising.all.first c.in-Rising.all.len, ap (λ p. length (part_cells p)) c.in-Rising.is, c.in-Rising.all.fits) }

pub returns-in-Ints : goal.returns-in-Ints
returns-in-Ints c = sym (take-map Int c.args.count c.in-Ints.numbers.now) ∙ ap (λ p. take c.args.count (part_cells p)) (sym c.in-Ints.is)

pub returns-in-Days : goal.returns-in-Days
returns-in-Days c = sym (take-map Day c.args.count c.in-Days.numbers.now) ∙ ap (λ p. take c.args.count (part_cells p)) (sym c.in-Days.is)

pub returns-in-Oids : goal.returns-in-Oids
returns-in-Oids c = sym (take-map Oid c.args.count c.in-Oids.numbers.now) ∙ ap (λ p. take c.args.count (part_cells p)) (sym c.in-Oids.is)

pub returns-in-Rising : goal.returns-in-Rising
returns-in-Rising c =
    sym (take_oids c.in-Rising.all.first c.in-Rising.all.len c.args.count (omega (arith, length_oids c.in-Rising.all.first c.in-Rising.all.len, ap (λ p. length (part_cells p)) c.in-Rising.is)))
    ∙ ap (λ p. take c.args.count (part_cells p)) (sym c.in-Rising.is)

pub returns-in-Bits : goal.returns-in-Bits
returns-in-Bits c = sym (take-map Bit c.args.count c.in-Bits.bits.now) ∙ ap (λ p. take c.args.count (part_cells p)) (sym c.in-Bits.is)
