use Rattle.evict_admit.proofs.Orders.{product_small}
use Rattle.evict_admit.proofs.leading.goes_first.Goals as goal

pub goes_before-requires-clause-left : goal.goes_before-requires-clause-left
goes_before-requires-clause-left c = product_small c.requires.0 _ _ c.requires.1 (c.requires.2 _ c.in-Some.is)

pub goes_before-requires-clause-right : goal.goes_before-requires-clause-right
goes_before-requires-clause-right c = product_small c.requires.0 _ _ (c.requires.2 _ c.in-Some.is) c.requires.1
