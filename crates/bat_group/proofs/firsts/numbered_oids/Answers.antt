use Rattle.std.proofs.Common.{◌≡◌, ◌+◌, List, sym, subst, ◌∙◌}
use Rattle.cell_core.specs.declared.cell.Cell.{Cell}
use Rattle.cell_core.specs.Same.{same_cell}
use Rattle.chunk_core.specs.Filled.{oids_from}
use Rattle.chunk_core.proofs.PartLemmas.{length_oids}
use Rattle.bat_group.specs.Numbers.{AreNumbered}
use Rattle.bat_group.proofs.FirstLemmas.{oid_next}
use Rattle.bat_group.proofs.firsts.numbered_oids.Goals as goal

pub loop-oid-preserved : goal.loop-oid-preserved
loop-oid-preserved c =
    let P : List Cell → Type 0 = λ met. AreNumbered same_cell c.number_of.new.numbers c.number_of.new.count met in
    let known : P (oids_from 0 (c.loop-oid.oid + 1)) =
    subst P (oid_next c.loop-oid.oid) (c.in_ok-number_of.ensures.numbered (oids_from 0 c.loop-oid.oid) (subst (λ n. AreNumbered same_cell c.loop-oid.numbers n (oids_from 0 c.loop-oid.oid)) (sym c.loop-oid.invariant.0) c.loop-oid.invariant.1)) in
    let next : c.number_of.new.count ≡ c.loop-oid.oid + 1 = known.counted ∙ length_oids 0 (c.loop-oid.oid + 1) in
    (next, subst (λ n. AreNumbered same_cell c.number_of.new.numbers n (oids_from 0 (c.loop-oid.oid + 1))) next known)
