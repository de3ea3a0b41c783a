use Rattle.std.proofs.Common.{◌∙◌, subst, arith}
use Rattle.std.proofs.lemmas.List.{take_all}
use Rattle.cell_core.specs.declared.cell.Cell.TheVariants.{Oid}
use Rattle.cell_core.specs.Same.{same_cell}
use Rattle.bat_group.specs.Keys.{AreMade}
use Rattle.bat_group.proofs.KeyLemmas.{numbers_made}
use Rattle.bat_group.proofs.key_cells.number_keys.Goals as goal

pub returns : goal.returns
returns g c =
    let cells = c.args.cells.now in
    let eq = g.K.PartialEq.eq in
    let cell_of = g.K.CellKey.cell_of in
    let all : AreMade eq cell_of c.runs.met cells = subst (AreMade eq cell_of c.runs.met) (take_all c.runs.from cells (omega arith)) c.runs.invariant.made in
    c.in_ok-out.ensures ∙ all.numbered.out ∙ numbers_made eq same_cell cell_of g.met.K.CellKey.agrees Oid cells all.keys all.are
