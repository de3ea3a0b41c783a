use Rattle.std.proofs.Common.{length, refl, sym, ap, ◌∙◌}
use Rattle.std.specs.List.{range_with_len}
use Rattle.std.proofs.lemmas.List.{length-map}
use Rattle.cell_core.specs.declared.cell.Cell.TheVariants.{Int, Day, Oid, Bit}
use Rattle.cell_core.specs.Groups.{known}
use Rattle.chunk_core.specs.Parts.{part_cells}
use Rattle.chunk_core.proofs.PartLemmas.{length_oids}
use Rattle.bat_group.proofs.PartLemmas.{known_made}
use Rattle.bat_group.proofs.parts.known_in.Goals as goal

pub returns-in-Ints : goal.returns-in-Ints
returns-in-Ints c =
    sym (ap (λ p. length (known (part_cells p))) c.in-Ints.is ∙ ap length (known_made Int (λ n. refl) c.in-Ints.numbers.now) ∙ length-map c.in-Ints.numbers.now Int)

pub returns-in-Days : goal.returns-in-Days
returns-in-Days c =
    sym (ap (λ p. length (known (part_cells p))) c.in-Days.is ∙ ap length (known_made Day (λ n. refl) c.in-Days.numbers.now) ∙ length-map c.in-Days.numbers.now Day)

pub returns-in-Oids : goal.returns-in-Oids
returns-in-Oids c =
    sym (ap (λ p. length (known (part_cells p))) c.in-Oids.is ∙ ap length (known_made Oid (λ n. refl) c.in-Oids.numbers.now) ∙ length-map c.in-Oids.numbers.now Oid)

pub returns-in-Rising : goal.returns-in-Rising
returns-in-Rising c =
    sym (ap (λ p. length (known (part_cells p))) c.in-Rising.is ∙ ap length (known_made Oid (λ n. refl) (range_with_len c.in-Rising.count.first c.in-Rising.count.len)) ∙ length_oids c.in-Rising.count.first c.in-Rising.count.len)

pub returns-in-Bits : goal.returns-in-Bits
returns-in-Bits c =
    sym (ap (λ p. length (known (part_cells p))) c.in-Bits.is ∙ ap length (known_made Bit (λ b. refl) c.in-Bits.bits.now) ∙ length-map c.in-Bits.bits.now Bit)
