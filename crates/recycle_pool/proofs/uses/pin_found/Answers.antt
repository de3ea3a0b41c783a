use Rattle.std.proofs.Common.{◌≡◌, List, ℕ, [], ◌∷◌, ap, sym, ◌∙◌}
use Rattle.pool_policy.specs.Looks.{at_ids, ids_pinned, pinned}
use Rattle.pool_entries.proofs.Owed.{none_changed}
use Rattle.recycle_pool.specs.Answers.{told}
use Rattle.recycle_pool.proofs.uses.pin_found.Goals as goal

pub returns-in-None-clause-entries : goal.returns-in-None-clause-entries
returns-in-None-clause-entries c parts =
    let none : ids_pinned (told c.args.found.now parts) ≡ [] = rw c.in-None.is at c.exact_id.ensures parts in
    none_changed (pinned c.args.who) c.args.entries.now.items ∙ ap (λ (ids : List ℕ). at_ids ids (pinned c.args.who) c.args.entries.now.items) (sym none)

pub returns-in-Some-clause-entries : goal.returns-in-Some-clause-entries
returns-in-Some-clause-entries c parts =
    let one : ids_pinned (told c.args.found.now parts) ≡ c.in-Some.id ∷ [] = rw c.in-Some.is at c.exact_id.ensures parts in
    c.pin_id.ensures.entries ∙ ap (λ (ids : List ℕ). at_ids ids (pinned c.args.who) c.args.entries.now.items) (sym one)
