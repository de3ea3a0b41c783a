use Rattle.recycle_pool.proofs.Started.{found_none}
use Rattle.recycle_pool.proofs.entries.Entries.new.Goals as goal

pub returns-clause-found : goal.returns-clause-found
returns-clause-found c = found_none _ _ _ _ c.in_ok-all.ensures.items c.in_ok-keys.ensures.named c.in_ok-children.ensures.pairs c.in_ok-parents.ensures.kin
