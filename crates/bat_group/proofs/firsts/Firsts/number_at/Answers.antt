use Rattle.std.proofs.Common.{◌≡◌, get_or, sym, ap, subst, ◌∙◌, arith}
use Rattle.std.specs.List.{position_or_len}
use Rattle.cell_core.specs.declared.cell.Cell.TheVariants.{Nil, Oid}
use Rattle.cell_core.specs.Same.{same_cell}
use Rattle.chunk_core.specs.Filled.{oids_from}
use Rattle.chunk_core.specs.Parts.{part_cells}
use Rattle.bat_group.specs.Numbers.{with_first, AreFirsts}
use Rattle.bat_group.specs.declared.firsts.Firsts.{Firsts}
use Rattle.bat_group.proofs.FirstLemmas.{oid_place, oid_met}
use Rattle.bat_group.proofs.firsts.Firsts.number_at.Goals as goal

pub returns-then-oid-count-clause-place : goal.returns-then-oid-count-clause-place
returns-then-oid-count-clause-place c = λ firsts are.
    let count = c.args.count.now in
    let oid = c.oid_at-oid.result in
    let met : firsts ≡ oids_from 0 count = subst (λ (f : Firsts). AreFirsts f count firsts) c.in-Oids-Oids.is-0 are in
    let key : get_or (part_cells c.args.part) c.args.at Nil ≡ Oid oid = ap (λ p. get_or (part_cells p) c.args.at Nil) c.in-Oids-Oids.is-1 ∙ sym c.oid_at-oid.ensures in
    sym (ap (λ x. position_or_len (λ y. same_cell y x) firsts) key ∙ ap (position_or_len (λ y. same_cell y (Oid oid))) met ∙ oid_place count oid (omega (arith, c.if-oid-count.true)))

pub returns-then-oid-count-clause-numbered : goal.returns-then-oid-count-clause-numbered
returns-then-oid-count-clause-numbered c = λ firsts are.
    let count = c.args.count.now in
    let oid = c.oid_at-oid.result in
    let met : firsts ≡ oids_from 0 count = subst (λ (f : Firsts). AreFirsts f count firsts) c.in-Oids-Oids.is-0 are in
    let key : get_or (part_cells c.args.part) c.args.at Nil ≡ Oid oid = ap (λ p. get_or (part_cells p) c.args.at Nil) c.in-Oids-Oids.is-1 ∙ sym c.oid_at-oid.ensures in
    let same : with_first same_cell firsts (get_or (part_cells c.args.part) c.args.at Nil) ≡ oids_from 0 count =
    ap (with_first same_cell firsts) key ∙ ap (λ l. with_first same_cell l (Oid oid)) met ∙ oid_met count oid c.if-oid-count.true in
    subst (λ (f : Firsts). AreFirsts f count (with_first same_cell firsts (get_or (part_cells c.args.part) c.args.at Nil))) (sym c.in-Oids-Oids.is-0) same
