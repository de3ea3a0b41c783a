use Rattle.std.proofs.Common.{◌≡◌, length, ℤ, ◌+ℤ◌, to_z, of_z, rules, sym, ap, ◌∙◌, arith}
use Rattle.std.specs.Int.{w128}
use Rattle.std.proofs.lemmas.Bool.{eqb-false}
use Rattle.std.proofs.lemmas.Int.{to_z-of_z}
use Rattle.cell_core.specs.declared.cell.Cell.TheVariants.{Huge}
use Rattle.cell_calc.specs.Aggregates.{total_in}
use Rattle.bat_group.proofs.PartLemmas.{summed_numbers}
use Rattle.bat_group.proofs.parts.sum_ints.Goals as goal

pub returns : goal.returns
returns c = λ before is.
    let a = c.sum_in.result in
    let b = c.sum_of.result in
    let all = c.in_ok-sum.sum in
    let first : to_z w128 (of_z w128 a) ≡ a = to_z-of_z w128 a (omega (arith, c.sum_in.type_inv)) in
    let second : to_z w128 (of_z w128 b) ≡ b = to_z-of_z w128 b (omega (arith, c.sum_of.type_inv)) in
    let kept : to_z w128 (of_z w128 all) ≡ all = search rules in
    let so : all ≡ a +ℤ b = c.in_ok-sum.ensures ∙ ap (λ (m : ℤ). m +ℤ to_z w128 (of_z w128 b)) first ∙ ap (λ (m : ℤ). a +ℤ m) second in
    ap Huge (kept ∙ so ∙ ap (λ (m : ℤ). m +ℤ b) (c.sum_in.ensures ∙ ap total_in is) ∙ sym (c.sum_of.ensures before))
    ∙ sym (summed_numbers before c.args.numbers.now (omega (arith, eqb-false (length c.args.numbers.now) 0 (sym c.is_empty.ensures ∙ c.if-is_empty.false))))
