use Rattle.std.proofs.Common.{◌≡◌, ◌∷◌, [], ◌++◌, ap, ◌∙◌}
use Rattle.std.specs.List.{zip}
use Rattle.bat_core.proofs.PairLemmas.{zip_push}
use Rattle.bat_core.proofs.builder.BatBuilder.append.Goals as goal

pub returns-in-Ok-clause-ok : goal.returns-in-Ok-clause-ok
returns-in-Ok-clause-ok c =
    let heads : c.push_both.new.heads ≡ c.self.inside.heads ++ c.args.head ∷ [] = rw c.in-Ok.is at c.push_both.ensures.heads in
    let tails : c.push_both.new.tails ≡ c.self.inside.tails ++ c.args.tail ∷ [] = rw c.in-Ok.is at c.push_both.ensures.tails in
    ap (λ l. zip l c.push_both.new.tails) heads
    ∙ ap (λ l. zip (c.self.inside.heads ++ c.args.head ∷ []) l) tails
    ∙ zip_push c.self.inside.heads c.self.inside.tails c.args.head c.args.tail c.self.invariant
    ∙ ap (λ pairs. pairs ++ (c.args.head, c.args.tail) ∷ []) c.self.view_is
