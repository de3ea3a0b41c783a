use Rattle.std.proofs.Common.{rules}
use Rattle.std.proofs.lemmas.List.Sorted.{answers_always}
use Rattle.evict_admit.specs.declared.names.Name.{Name}
use Rattle.evict_admit.proofs.Named.{found, not_found}
use Rattle.evict_admit.proofs.names.search.Goals as goal

pub returns-in-Ok-clause-some : goal.returns-in-Ok-clause-some
returns-in-Ok-clause-some c =
    (c.in-Ok.i, c.in-Ok.ensures.bound, found c.args.names.now c.in-Ok.i c.args.id _ _ c.in-Ok.ensures.bound (c.in-Ok.ensures.position (λ (name : Name). name.id) (answers_always _ _ _ (λ f a r g h. search rules))))

pub returns-in-Err-clause-none : goal.returns-in-Err-clause-none
returns-in-Err-clause-none c = not_found c.args.names.now c.in-Err.field-0 c.args.id c.requires (c.in-Err.ensures.position (λ (name : Name). name.id) (answers_always _ _ _ (λ f a r g h. search rules)))
