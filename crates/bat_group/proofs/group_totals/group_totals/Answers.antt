use Rattle.std.proofs.Common.{◌≤◌, ◌<◌, length, take, map, ap, ◌∙◌, arith}
use Rattle.std.specs.Prelude.{filter}
use Rattle.std.proofs.lemmas.List.{length-take-le}
use Rattle.cell_core.specs.Same.{same_cell}
use Rattle.cell_core.specs.Groups.{distinct}
use Rattle.cell_calc.specs.Aggregates.{aggregate_of}
use Rattle.bat_group.proofs.TotalLemmas.{zip_cut}
use Rattle.bat_group.proofs.group_totals.group_totals.Goals as goal

pub returns : goal.returns
returns c =
    let cells = c.args.cells.now in
    let groups = c.args.groups.now in
    let both = c.min-both.result in
    let short : length (take both cells) ≤ both = omega (arith, length-take-le both cells (omega arith)) in
    let past : both < length cells → both < length groups → ⊥ = λ a b. omega (arith, a, b) in
    (c.in_ok-meet_from.ensures (take both cells) short c.in_ok-met.ensures.totals).value
    ∙ ap (λ f. map f (distinct same_cell groups)) (λ i group. aggregate_of c.args.aggregate (map (λ p. p.0) (filter (λ p. same_cell p.1 group) (zip_cut both cells groups past i))))
