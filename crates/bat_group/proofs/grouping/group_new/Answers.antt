use Rattle.std.proofs.Common.{map, ap, ◌∙◌}
use Rattle.std.specs.List.{zip}
use Rattle.cell_core.specs.declared.cell.Cell.TheVariants.{Oid}
use Rattle.cell_core.specs.Same.{same_cell}
use Rattle.cell_core.specs.Pairs.{heads_of, tails_of}
use Rattle.cell_core.specs.Groups.{group_number}
use Rattle.bat_group.proofs.GroupLemmas.{zip_tails}
use Rattle.bat_group.proofs.grouping.group_new.Goals as goal

pub returns-clause-value : goal.returns-clause-value
returns-clause-value g c =
    c.in_ok-out.ensures ∙ ap (zip (heads_of c.args.b.now)) (c.in_ok-numbers.ensures ∙ ap (λ cells. map (λ x. Oid (group_number same_cell cells x)) cells) c.tails.ensures)
    ∙ zip_tails (λ x. Oid (group_number same_cell (tails_of c.args.b.now) x)) c.args.b.now
