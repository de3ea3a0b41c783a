use Rattle.std.proofs.Common.{get_or, ap, ◌∙◌}
use Rattle.cell_core.specs.declared.cell.Cell.TheVariants.{Nil}
use Rattle.chunk_core.specs.Parts.{part_cells, lent_cell}
use Rattle.chunk_core.proofs.PickLemmas.{get_default}
use Rattle.bat_calc.specs.Functions.{function_of}
use Rattle.bat_calc.proofs.general.apply_at.Goals as goal

pub returns : goal.returns
returns c =
    c.apply.ensures
    ∙ ap (λ x. function_of c.args.function x c.cell-2.result.now) (c.cell.ensures ∙ c.get-a.ensures ∙ get_default (part_cells c.args.left) c.args.at (lent_cell c.get-a.result) Nil c.requires.left)
    ∙ ap (λ y. function_of c.args.function (get_or (part_cells c.args.left) c.args.at Nil) y) (c.cell-2.ensures ∙ c.get-b.ensures ∙ get_default (part_cells c.args.right) c.args.at (lent_cell c.get-b.result) Nil c.requires.right)
