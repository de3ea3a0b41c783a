use Rattle.std.proofs.Common.{◌∙◌, ap}
use Rattle.evict_admit.specs.declared.names.Name.{Name}
use Rattle.evict_admit.proofs.Named.{unnamed}
use Rattle.evict_admit.proofs.names.Known.find.Goals as goal

pub returns-clause-none : goal.returns-clause-none
returns-clause-none c = unnamed c.search.result _ _ (λ h p low same. let at = c.requires.named.each p low in h at.0 _ at.1 (ap (λ (n : Name). n.id) at.2 ∙ same)) c.search.ensures.none
