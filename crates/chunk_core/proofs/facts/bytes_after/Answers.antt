use Rattle.std.proofs.Common.{◌≡◌, ℕ, ◌+◌, sym, ap, ◌∙◌, subst}
use Rattle.std.specs.Prelude.{IfSome}
use Rattle.chunk_core.specs.Facts.{cells_bytes}
use Rattle.chunk_core.specs.Parts.{part_cells}
use Rattle.chunk_core.proofs.FilledLemmas.{oids_bytes}
use Rattle.chunk_core.proofs.PartFacts.{ints_bytes, day_bytes, oid_bytes, bit_bytes}
use Rattle.chunk_core.proofs.facts.bytes_after.Goals as goal

pub returns-in-Ints-clause-sum : goal.returns-in-Ints-clause-sum
returns-in-Ints-clause-sum c =
    let P : ℕ → Type 0 = λ n. IfSome c.eights_after.result (λ bytes. bytes ≡ c.args.so_far + n) in
    subst P (sym (ap (λ p. cells_bytes (part_cells p)) c.in-Ints.is ∙ ints_bytes c.in-Ints.numbers.now)) c.eights_after.ensures.sum

pub returns-in-Days-clause-sum : goal.returns-in-Days-clause-sum
returns-in-Days-clause-sum c =
    let P : ℕ → Type 0 = λ n. IfSome c.eights_after-in-Days.result (λ bytes. bytes ≡ c.args.so_far + n) in
    subst P (sym (ap (λ p. cells_bytes (part_cells p)) c.in-Days.is ∙ day_bytes c.in-Days.numbers.now)) c.eights_after-in-Days.ensures.sum

pub returns-in-Oids-clause-sum : goal.returns-in-Oids-clause-sum
returns-in-Oids-clause-sum c =
    let P : ℕ → Type 0 = λ n. IfSome c.eights_after-in-Oids.result (λ bytes. bytes ≡ c.args.so_far + n) in
    subst P (sym (ap (λ p. cells_bytes (part_cells p)) c.in-Oids.is ∙ oid_bytes c.in-Oids.numbers.now)) c.eights_after-in-Oids.ensures.sum

pub returns-in-Rising-clause-sum : goal.returns-in-Rising-clause-sum
returns-in-Rising-clause-sum c =
    let P : ℕ → Type 0 = λ n. IfSome c.eights_after-in-Rising.result (λ bytes. bytes ≡ c.args.so_far + n) in
    subst P (sym (ap (λ p. cells_bytes (part_cells p)) c.in-Rising.is ∙ oids_bytes c.in-Rising.count.first c.in-Rising.count.len)) c.eights_after-in-Rising.ensures.sum

pub returns-in-Bits-clause-sum : goal.returns-in-Bits-clause-sum
returns-in-Bits-clause-sum c =
    let P : ℕ → Type 0 = λ n. IfSome c.ones_after.result (λ bytes. bytes ≡ c.args.so_far + n) in
    subst P (sym (ap (λ p. cells_bytes (part_cells p)) c.in-Bits.is ∙ bit_bytes c.in-Bits.bits.now)) c.ones_after.ensures.sum
