use Rattle.std.proofs.Common.{◌≡◌, cond, ℤ, to_z, of_z, w64, refl, sym, ap, ◌∙◌, arith, rules}
use Rattle.std.specs.Ordering.{is_lt}
use Rattle.std.proofs.lemmas.Int.{to_z-of_z}
use Rattle.cell_core.specs.declared.cell.Cell.TheVariants.{Int}
use Rattle.cell_core.specs.Order.{cell_cmp}
use Rattle.bat_group.proofs.PartLemmas.{least_with}
use Rattle.bat_group.proofs.parts.lower_to.Goals as goal

pub returns-in-Int : goal.returns-in-Int
returns-in-Int c = λ before is.
    let s = c.in-Int.so_far in
    let x = c.args.number in
    let kept : to_z w64 (of_z w64 c.lower.result) ≡ c.lower.result = to_z-of_z w64 c.lower.result (omega (arith, c.lower.type_inv)) in
    let number : to_z w64 (of_z w64 x) ≡ x = to_z-of_z w64 x c.ranges.number in
    let so_far : to_z w64 (of_z w64 s) ≡ s = search rules in
    let so : Int c.lower.result ≡ cond (is_lt (cell_cmp (Int x) (Int s))) (Int x) (Int s) =
    c.lower.ensures ∙ ap (λ (n : ℤ). cond (is_lt (cell_cmp (Int n) (Int (to_z w64 (of_z w64 s))))) (Int n) (Int (to_z w64 (of_z w64 s)))) number
    ∙ ap (λ (n : ℤ). cond (is_lt (cell_cmp (Int x) (Int n))) (Int x) (Int n)) so_far in
    ap Int kept ∙ least_with before (Int s) (Int x) (Int c.lower.result) refl refl (sym c.in-Int.is ∙ is) so
