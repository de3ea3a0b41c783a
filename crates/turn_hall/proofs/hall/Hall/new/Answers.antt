-- A new hall keeps the rule.
use Rattle.std.proofs.Common.{◌≡◌, List, [], ◌∷◌, sym, subst, arith}
use Rattle.std.proofs.lemmas.Grind.{common_steps}
use Rattle.std.specs.Prelude.{Option, Some}
use Rattle.atomic_table.specs.Table.{opening}
use Rattle.turn_hall.specs.Rule.{IsOrderly}
use Rattle.turn_hall.specs.Views.{first_view}
use Rattle.turn_hall.proofs.Lifecycle.{opens}
use Rattle.turn_hall.proofs.hall.Hall.new.Goals as goal

pub new-requires : goal.new-requires
new-requires g c =
    let one : c.push.new.self.items ≡ Some c.args.value ∷ [] = grind (arith, common_steps) in
    subst (λ (xs : List (Option g.row.V.Denot)). IsOrderly g.V.Logged.entries g.V.Logged.author (opening (0 ∷ 0 ∷ 0 ∷ []) xs first_view))
    (sym one) (opens g.V.Logged.entries g.V.Logged.author c.args.value c.requires)
