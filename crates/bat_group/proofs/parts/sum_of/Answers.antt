use Rattle.std.proofs.Common.{◌≡◌, ◌+◌, ◌*◌, ◌^◌, ◌<◌, ◌++◌, [], ◌∷◌, length, take, map, pos, neg_ℤ, ℤ, ◌≤ℤ◌, ◌+ℤ◌, FitsSigned, to_z, of_z, refl, sym, ap, subst, ◌∙◌, arith}
use Rattle.std.specs.Int.{w128}
use Rattle.std.proofs.lemmas.Int.{ints, to_z-of_z}
use Rattle.std.proofs.lemmas.List.{length-map, take_all}
use Rattle.cell_core.specs.declared.cell.Cell.TheVariants.{Int}
use Rattle.cell_core.specs.Groups.{summed}
use Rattle.cell_calc.specs.Aggregates.{total_in}
use Rattle.bat_group.proofs.PartLemmas.{sum_next, behind_more}
use Rattle.bat_group.proofs.parts.sum_of.Goals as goal

pub loop-i-preserved : goal.loop-i-preserved
loop-i-preserved c =
    let cells = map Int c.args.numbers.now in
    let few : c.loop-i.i < length cells = omega (arith, length-map c.args.numbers.now Int) in
    let n = c.wide_at-sum.result in
    let s : ℤ = to_z w128 c.loop-i.sum-bits in
    let seen : to_z w128 (of_z w128 n) ≡ n = to_z-of_z w128 n (omega (arith, c.wide_at-sum.type_inv)) in
    let fits : FitsSigned w128 (s +ℤ n) = omega (arith, ints, c.loop-i.invariant.low, c.loop-i.invariant.high, c.wide_at-sum.ensures.low, c.wide_at-sum.ensures.high) in
    let is : to_z w128 (of_z w128 (s +ℤ to_z w128 (of_z w128 n))) ≡ s +ℤ n = ap (λ (m : ℤ). to_z w128 (of_z w128 (s +ℤ m))) seen ∙ to_z-of_z w128 (s +ℤ n) fits in
    record {
      low = subst (λ (m : ℤ). neg_ℤ (pos ((c.loop-i.i + 1) * 2 ^ 63)) ≤ℤ m) (sym is) (omega (arith, ints, c.loop-i.invariant.low, c.wide_at-sum.ensures.low));
      high = subst (λ (m : ℤ). m ≤ℤ pos ((c.loop-i.i + 1) * 2 ^ 63)) (sym is) (omega (arith, ints, c.loop-i.invariant.high, c.wide_at-sum.ensures.high));
      value = λ before.
          let so_far : total_in (summed (before ++ take c.loop-i.i cells)) ≡ total_in (summed before) +ℤ s = c.loop-i.invariant.value before in
          ap (λ l. total_in (summed l)) (behind_more before cells c.loop-i.i few) ∙ ap (λ x. total_in (summed ((before ++ take c.loop-i.i cells) ++ x ∷ []))) (sym c.wide_at-sum.ensures.cell)
          ∙ sum_next (before ++ take c.loop-i.i cells) (Int n) refl ∙ omega (arith, ints, so_far, is);
    }

pub returns : goal.returns
returns c = λ before.
    let cells = map Int c.args.numbers.now in
    let all : take c.loop-i.i cells ≡ cells = take_all c.loop-i.i cells (omega (arith, length-map c.args.numbers.now Int)) in
    ap (λ l. total_in (summed (before ++ l))) (sym all) ∙ c.loop-i.invariant.value before
