use Rattle.std.proofs.Common.{◌≡◌, ◌+◌, ◌++◌, ◌≤◌, length, take, sym, ap, ◌∙◌, arith}
use Rattle.std.proofs.lemmas.List.{length-take-le}
use Rattle.chunk_core.specs.Parts.{part_cells}
use Rattle.bat_group.proofs.PartLemmas.{front_more}
use Rattle.bat_group.proofs.both.run_of_both.Goals as goal

pub returns-clause-cells : goal.returns-clause-cells
returns-clause-cells c =
    let p = part_cells c.run-beside.result in
    let few : c.min-count.result ≤ length p = omega arith in
    let long : length (part_cells c.front.result) ≡ c.min-count.result = ap length c.front.ensures ∙ length-take-le c.min-count.result p few in
    ap (λ m. take (c.args.from + m) c.args.cells.now) long ∙ front_more c.args.cells.now p c.args.from c.min-count.result few (omega arith) c.run-beside.ensures.cells
    ∙ ap (λ l. take c.args.from c.args.cells.now ++ l) (sym c.front.ensures)

pub returns-clause-groups : goal.returns-clause-groups
returns-clause-groups c =
    let p = part_cells c.run-part.result in
    let few : c.min-count.result ≤ length p = omega arith in
    let beside : c.min-count.result ≤ length (part_cells c.run-beside.result) = omega arith in
    let long : length (part_cells c.front.result) ≡ c.min-count.result = ap length c.front.ensures ∙ length-take-le c.min-count.result (part_cells c.run-beside.result) beside in
    ap (λ m. take (c.args.from + m) c.args.groups.now) long ∙ front_more c.args.groups.now p c.args.from c.min-count.result few (omega arith) c.run-part.ensures.cells
    ∙ ap (λ l. take c.args.from c.args.groups.now ++ l) (sym c.front-2.ensures)
