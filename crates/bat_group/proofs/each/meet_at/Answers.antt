use Rattle.std.proofs.Common.{◌++◌, [], ◌∷◌, subst, ◌∙◌}
use Rattle.std.proofs.lemmas.Result.{on_ok_weaker}
use Rattle.cell_core.specs.declared.cell.Cell.{Cell}
use Rattle.cell_core.specs.declared.cell.Cell.TheVariants.{Nil}
use Rattle.cell_core.specs.Same.{same_cell}
use Rattle.chunk_core.specs.Parts.{part_cells, lent_cell}
use Rattle.chunk_core.proofs.PickLemmas.{get_default}
use Rattle.bat_group.specs.Keys.{AreKeys}
use Rattle.bat_group.proofs.each.meet_at.Goals as goal

pub returns-clause-numbered : goal.returns-clause-numbered
returns-clause-numbered c = on_ok_weaker c.meet_cell.result (λ met before old.
    subst (λ (x : Cell). AreKeys same_cell c.meet_cell.new.self (before ++ x ∷ []))
    (c.cell.ensures ∙ c.get-held.ensures ∙ get_default (part_cells c.args.part) c.args.at (lent_cell c.get-held.result) Nil c.requires.within)
    (met before old)) c.meet_cell.ensures.met
