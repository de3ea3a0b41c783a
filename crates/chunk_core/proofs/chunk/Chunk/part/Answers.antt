use Rattle.std.proofs.Common.{length, drop, map, sym, ap, ◌∙◌, arith}
use Rattle.std.proofs.lemmas.List.{drop-map, take_rest}
use Rattle.cell_core.specs.declared.cell.Cell.TheVariants.{Int, Day, Oid, Bit}
use Rattle.chunk_core.specs.Chunks.{chunk_cells}
use Rattle.chunk_core.proofs.PartLemmas.{length_oids, drop_oids}
use Rattle.chunk_core.proofs.chunk.Chunk.part.Goals as goal

pub overflow_add-result : goal.overflow_add-result
overflow_add-result c =
    omega (arith, length_oids c.in-Rising.all.first c.in-Rising.all.len, ap (λ p. length (chunk_cells p)) c.in-Rising.is, c.in-Rising.all.fits)

pub overflow_sub-result : goal.overflow_sub-result
overflow_sub-result c =
    omega (arith, length_oids c.in-Rising.all.first c.in-Rising.all.len, ap (λ p. length (chunk_cells p)) c.in-Rising.is)

pub invariant_of-result : goal.invariant_of-result
invariant_of-result c =
    record { fits = omega (arith, length_oids c.in-Rising.all.first c.in-Rising.all.len, ap (λ p. length (chunk_cells p)) c.in-Rising.is, c.in-Rising.all.fits) }

pub returns-in-Ints : goal.returns-in-Ints
returns-in-Ints c =
    ap (map Int) (take_rest c.deref.result.now c.args.from)
    ∙ ap (λ l. map Int (drop c.args.from l)) c.deref.ensures.value
    ∙ sym (drop-map Int c.args.from c.in-Ints.numbers.items)
    ∙ ap (λ p. drop c.args.from (chunk_cells p)) (sym c.in-Ints.is)

pub returns-in-Days : goal.returns-in-Days
returns-in-Days c =
    ap (map Day) (take_rest c.deref-in-Days.result.now c.args.from)
    ∙ ap (λ l. map Day (drop c.args.from l)) c.deref-in-Days.ensures.value
    ∙ sym (drop-map Day c.args.from c.in-Days.numbers.items)
    ∙ ap (λ p. drop c.args.from (chunk_cells p)) (sym c.in-Days.is)

pub returns-in-Oids : goal.returns-in-Oids
returns-in-Oids c =
    ap (map Oid) (take_rest c.deref-in-Oids.result.now c.args.from)
    ∙ ap (λ l. map Oid (drop c.args.from l)) c.deref-in-Oids.ensures.value
    ∙ sym (drop-map Oid c.args.from c.in-Oids.numbers.items)
    ∙ ap (λ p. drop c.args.from (chunk_cells p)) (sym c.in-Oids.is)

pub returns-in-Rising : goal.returns-in-Rising
returns-in-Rising c =
    sym (drop_oids c.in-Rising.all.first c.in-Rising.all.len c.args.from (omega (arith, length_oids c.in-Rising.all.first c.in-Rising.all.len, ap (λ p. length (chunk_cells p)) c.in-Rising.is)))
    ∙ ap (λ p. drop c.args.from (chunk_cells p)) (sym c.in-Rising.is)

pub returns-in-Bits : goal.returns-in-Bits
returns-in-Bits c =
    ap (map Bit) (take_rest c.deref-in-Bits.result.now c.args.from)
    ∙ ap (λ l. map Bit (drop c.args.from l)) c.deref-in-Bits.ensures.value
    ∙ sym (drop-map Bit c.args.from c.in-Bits.bits.items)
    ∙ ap (λ p. drop c.args.from (chunk_cells p)) (sym c.in-Bits.is)
