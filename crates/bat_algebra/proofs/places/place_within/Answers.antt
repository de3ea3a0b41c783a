use Rattle.std.proofs.Common.{ap, ◌∙◌}
use Rattle.cell_core.specs.declared.cell.Cell.TheVariants.{Nil}
use Rattle.cell_core.specs.Relations.{is_within}
use Rattle.chunk_core.specs.Parts.{part_cells, lent_cell}
use Rattle.chunk_core.proofs.PickLemmas.{get_default}
use Rattle.bat_algebra.proofs.places.place_within.Goals as goal

pub returns : goal.returns
returns c =
    c.lies_within.ensures
    ∙ ap (is_within c.args.low.now c.args.high.now c.args.li c.args.hi) (c.cell.ensures ∙ c.get-held.ensures ∙ get_default (part_cells c.args.part) c.args.at (lent_cell c.get-held.result) Nil c.requires)
