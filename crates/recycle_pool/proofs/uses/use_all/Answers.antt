use Rattle.std.proofs.Common.{◌≡◌, ℕ, List, [], ap, sym, ◌∙◌}
use Rattle.pool_policy.specs.Looks.{at_ids, ids_used, used}
use Rattle.pool_entries.proofs.Owed.{none_changed}
use Rattle.recycle_pool.specs.Answers.{told}
use Rattle.recycle_pool.proofs.uses.use_all.Goals as goal

pub returns-in-Miss-clause-entries : goal.returns-in-Miss-clause-entries
returns-in-Miss-clause-entries c =
    let none : [] ≡ ids_used (told c.args.found.now c.args.parts.now) = ap (λ f. ids_used (told f c.args.parts.now)) (sym c.in-Miss.is) in
    none_changed (used c.args.who c.args.now) c.args.entries.now.items ∙ ap (λ (ids : List ℕ). at_ids ids (used c.args.who c.args.now) c.args.entries.now.items) none
