use Rattle.std.proofs.Common.{◌≡◌, ◌<◌, ◌++◌, [], ◌∷◌, cond, length, map, to_z, of_z, w64, ℤ, refl, ap, ◌∙◌, arith}
use Rattle.std.specs.Ordering.{is_gt}
use Rattle.std.proofs.lemmas.Int.{to_z-of_z}
use Rattle.std.proofs.lemmas.List.{length-map}
use Rattle.cell_core.specs.declared.cell.Cell.TheVariants.{Int}
use Rattle.cell_core.specs.Order.{cell_cmp}
use Rattle.cell_core.specs.Groups.{greatest}
use Rattle.bat_group.proofs.PartLemmas.{greatest_next}
use Rattle.bat_group.proofs.parts.greatest_of.Goals as goal

pub loop-i-preserved : goal.loop-i-preserved
loop-i-preserved c = λ before.
    let cells = map Int c.args.numbers.now in
    let few : c.loop-i.i < length cells = omega (arith, length-map c.args.numbers.now Int) in
    let best : ℤ = to_z w64 c.loop-i.best-bits in
    let seen : to_z w64 (of_z w64 c.number_at.result) ≡ c.number_at.result = to_z-of_z w64 c.number_at.result (omega (arith, c.number_at.type_inv)) in
    let kept : to_z w64 (of_z w64 c.higher-best.result) ≡ c.higher-best.result = to_z-of_z w64 c.higher-best.result (omega (arith, c.higher-best.type_inv)) in
    let is : Int c.higher-best.result ≡ cond (is_gt (cell_cmp (Int c.number_at.result) (Int best))) (Int c.number_at.result) (Int best) =
    c.higher-best.ensures ∙ ap (λ n. cond (is_gt (cell_cmp (Int n) (Int best))) (Int n) (Int best)) seen in
    ap (λ n. greatest (before ++ Int n ∷ [])) kept
    ∙ greatest_next before cells c.loop-i.i (Int best) (Int c.number_at.result) (Int c.higher-best.result) few refl refl c.number_at.ensures is (c.loop-i.invariant before)
