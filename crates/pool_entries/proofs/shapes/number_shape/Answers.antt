use Rattle.std.proofs.Common.{◌≡◌, ◌+◌, None, List, ap, sym, ◌∙◌, arith, length}
use Rattle.std.specs.Prelude.{ℕ}
use Rattle.std.specs.Option.{option_map_or}
use Rattle.pool_policy.specs.Admits.{number_from}
use Rattle.pool_entries.proofs.Numbers.{number_last}
use Rattle.pool_entries.proofs.shapes.number_shape.Goals as goal

pub returns-in_ok-push-in-None-clause-number : goal.returns-in_ok-push-in-None-clause-number
returns-in_ok-push-in-None-clause-number c =
    let none : None ≡ number_from 1 c.args.shape c.args.shapes.now.items = c.in-None.ensures.number ∙ ap (number_from 1 c.args.shape) c.as_slice.ensures.value in
    let count = ap (λ (cs : List ℕ). length cs) c.in_ok-reserve-in-None.ensures.each in
    let is : c.add.result ≡ 1 + length c.args.shapes.now.items = omega (arith, c.add.ensures.number, count, c.requires.same) in
    is ∙ ap (λ o. option_map_or (λ n. n) o 0) (sym (ap (number_from 1 c.args.shape) c.in_ok-push-in-None.ensures.items ∙ number_last 1 c.args.shape c.args.shapes.now.items none))
