use Rattle.std.proofs.Common.{◌≡◌, ◌+◌, sym, ap, subst, ◌∙◌, arith}
use Rattle.std.specs.List.{position_or_len}
use Rattle.cell_core.specs.declared.cell.Cell.TheVariants.{Oid}
use Rattle.cell_core.specs.Same.{same_cell}
use Rattle.chunk_core.specs.Filled.{oids_from}
use Rattle.bat_group.specs.Numbers.{with_first, AreFirsts}
use Rattle.bat_group.specs.declared.firsts.Firsts.{Firsts}
use Rattle.bat_group.proofs.FirstLemmas.{oid_place, oid_met, oid_next}
use Rattle.bat_group.proofs.firsts.Firsts.number_oid.Goals as goal

pub returns-in-Oid-2-clause-place : goal.returns-in-Oid-2-clause-place
returns-in-Oid-2-clause-place c =
    sym (ap (λ key. position_or_len (λ y. same_cell y key) (oids_from 0 c.args.count.now)) c.in-Oid-2.is ∙ oid_place c.args.count.now c.in-Oid-2.oid (omega (arith, c.if-oid-count-2.true)))

pub returns-in-Oid-2-clause-numbered : goal.returns-in-Oid-2-clause-numbered
returns-in-Oid-2-clause-numbered c =
    let count = c.args.count.now in
    let is : with_first same_cell (oids_from 0 count) c.args.key ≡ oids_from 0 (count + 1) =
    ap (with_first same_cell (oids_from 0 count)) (c.in-Oid-2.is ∙ ap Oid c.if-oid-count-2.true) ∙ oid_next count in
    subst (λ (met : Firsts). AreFirsts met (count + 1) (with_first same_cell (oids_from 0 count) c.args.key)) (sym c.requires.oids) is

pub returns-in-Oid-clause-place : goal.returns-in-Oid-clause-place
returns-in-Oid-clause-place c =
    sym (ap (λ key. position_or_len (λ y. same_cell y key) (oids_from 0 c.args.count.now)) c.in-Oid.is ∙ oid_place c.args.count.now c.in-Oid.oid (omega (arith, c.if-oid-count.true)))

pub returns-in-Oid-clause-numbered : goal.returns-in-Oid-clause-numbered
returns-in-Oid-clause-numbered c =
    let count = c.args.count.now in
    let is : with_first same_cell (oids_from 0 count) c.args.key ≡ oids_from 0 count =
    ap (with_first same_cell (oids_from 0 count)) c.in-Oid.is ∙ oid_met count c.in-Oid.oid (omega (arith, c.if-oid-count.true)) in
    subst (λ (met : Firsts). AreFirsts met count (with_first same_cell (oids_from 0 count) c.args.key)) (sym c.requires.oids) is
