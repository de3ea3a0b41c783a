use Rattle.std.proofs.Common.{List, map, ap, subst, sym, ◌∙◌, Bor}
use Rattle.std.proofs.lemmas.List.Sorted.{IsPermutation-sym}
use Rattle.cell_core.specs.Cuts.{covers}
use Rattle.subsume.specs.Cutting.{Entry, IsCutting}
use Rattle.subsume.proofs.Permuted.{covers_permuted, cutting_permuted}
use Rattle.subsume.proofs.pieces.cover.Goals as goal

abbrev all_of : List (Bor Entry) → List Entry
all_of es = map (λ (e : Bor Entry). e.now) es

pub returns-in-Ok-true-clause-found : goal.returns-in-Ok-true-clause-found
returns-in-Ok-true-clause-found c =
    sym c.in-Ok-true.field-0-test ∙ c.in-Ok-true.ensures.found ∙ ap (λ es. covers c.args.target.now (map (λ (e : Entry). e.1) (all_of es))) c.as_slice.ensures.value
    ∙ covers_permuted c.args.target.now c.args.spans.now (all_of c.in_ok-order.order.items) c.in_ok-order.ensures.permutation

pub returns-in-Ok-true-clause-cutting : goal.returns-in-Ok-true-clause-cutting
returns-in-Ok-true-clause-cutting c found =
    let cutting : IsCutting c.args.target.now (all_of c.in_ok-order.order.items) c.args.target.now.low c.sweep.new.out.items =
    subst (λ es. IsCutting c.args.target.now (all_of es) c.args.target.now.low c.sweep.new.out.items) c.as_slice.ensures.value (c.in-Ok-true.ensures.cutting c.in-Ok-true.field-0-test) in
    cutting_permuted c.args.target.now (all_of c.in_ok-order.order.items) c.args.spans.now (IsPermutation-sym c.args.spans.now (all_of c.in_ok-order.order.items) c.in_ok-order.ensures.permutation) c.args.target.now.low c.sweep.new.out.items cutting

pub returns-in-Ok-false-clause-found : goal.returns-in-Ok-false-clause-found
returns-in-Ok-false-clause-found c =
    sym c.in-Ok-false.field-0-test ∙ c.in-Ok-false.ensures.found ∙ ap (λ es. covers c.args.target.now (map (λ (e : Entry). e.1) (all_of es))) c.as_slice.ensures.value
    ∙ covers_permuted c.args.target.now c.args.spans.now (all_of c.in_ok-order.order.items) c.in_ok-order.ensures.permutation
