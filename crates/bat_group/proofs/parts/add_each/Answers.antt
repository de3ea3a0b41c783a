use Rattle.std.proofs.Common.{◌≡◌, ◌+◌, ◌∷◌, [], ◌++◌, get_or, take, sym, ap, ◌∙◌, append_assoc, append-nil, arith}
use Rattle.std.proofs.lemmas.List.{take_more}
use Rattle.std.proofs.Math.Seq.{take-length}
use Rattle.cell_core.specs.declared.cell.Cell.TheVariants.{Nil}
use Rattle.cell_calc.specs.Aggregates.{aggregate_of}
use Rattle.chunk_core.specs.Parts.{part_cells}
use Rattle.bat_group.proofs.parts.add_each.Goals as goal

pub loop-i-init : goal.loop-i-init
loop-i-init c = λ before so_far. so_far ∙ ap (aggregate_of c.args.aggregate) (sym (append-nil before))

pub loop-i-preserved : goal.loop-i-preserved
loop-i-preserved c = λ before so_far.
    let cells = part_cells c.args.part in
    let cell = get_or cells c.loop-i.i Nil in
    let longer : before ++ take (c.loop-i.i + 1) cells ≡ (before ++ take c.loop-i.i cells) ++ cell ∷ [] =
    ap (λ l. before ++ l) (take_more cells c.loop-i.i Nil (omega arith)) ∙ sym (append_assoc before (take c.loop-i.i cells) (cell ∷ [])) in
    c.in_ok-add_at.ensures (before ++ take c.loop-i.i cells) (c.loop-i.invariant before so_far) ∙ ap (aggregate_of c.args.aggregate) (sym longer)

pub returns : goal.returns
returns c = λ before so_far.
    let all : take c.loop-i.i (part_cells c.args.part) ≡ part_cells c.args.part = ap (λ n. take n (part_cells c.args.part)) (omega arith) ∙ take-length (part_cells c.args.part) in
    c.loop-i.invariant before so_far ∙ ap (λ l. aggregate_of c.args.aggregate (before ++ l)) all
