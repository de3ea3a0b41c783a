use Rattle.std.proofs.Common.{◌≡◌, ◌<◌, get_or, sym, ap, subst, ◌∙◌, arith}
use Rattle.std.specs.List.{position_or_len}
use Rattle.std.proofs.lemmas.Bool.{ltb-true}
use Rattle.cell_core.specs.declared.cell.Cell.TheVariants.{Nil, Oid}
use Rattle.cell_core.specs.Same.{same_cell}
use Rattle.chunk_core.specs.Filled.{oids_from}
use Rattle.chunk_core.specs.Parts.{part_cells}
use Rattle.bat_group.specs.Numbers.{AreFirsts}
use Rattle.bat_group.specs.declared.firsts.Firsts.{Firsts}
use Rattle.bat_group.proofs.FirstLemmas.{oid_place}
use Rattle.bat_group.proofs.firsts.Firsts.has_met.Goals as goal

pub returns-in-Oids-Oids : goal.returns-in-Oids-Oids
returns-in-Oids-Oids c = λ less firsts are.
    let oid = c.oid_at.result in
    let small : oid < c.args.count = ltb-true oid c.args.count less in
    let met : firsts ≡ oids_from 0 c.args.count = subst (λ (f : Firsts). AreFirsts f c.args.count firsts) c.in-Oids-Oids.is-0 are in
    let key : get_or (part_cells c.args.part) c.args.at Nil ≡ Oid oid = ap (λ p. get_or (part_cells p) c.args.at Nil) c.in-Oids-Oids.is-1 ∙ sym c.oid_at.ensures in
    let place : position_or_len (λ y. same_cell y (get_or (part_cells c.args.part) c.args.at Nil)) firsts ≡ oid =
    ap (λ x. position_or_len (λ y. same_cell y x) firsts) key ∙ ap (position_or_len (λ y. same_cell y (Oid oid))) met ∙ oid_place c.args.count oid (omega (arith, small)) in
    omega (arith, small, place)
