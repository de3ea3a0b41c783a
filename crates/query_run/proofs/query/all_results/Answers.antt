use Rattle.std.proofs.Common.{◌≡◌, ◌++◌, ◌∷◌, None, ap, sym, ◌∙◌}
use Rattle.query_run.proofs.WalkLemmas.{none_missing}
use Rattle.query_run.proofs.query.all_results.Goals as goal

pub unreachable-requires : goal.unreachable-requires
unreachable-requires c =
    let here : c.results.yielded ++ None ∷ c.next.new.self.rest.items ≡ c.args.results.items =
    ap (λ l. c.results.yielded ++ l) (ap (λ f. f ∷ c.next.new.self.rest.items) (sym c.in-None-found.is) ∙ sym c.in-Some.ensures.steps.0) ∙ c.results.invariant.rest in
    none_missing c.results.yielded c.next.new.self.rest.items c.args.results.items here c.requires
