use Rattle.recycle_pool.proofs.keys.Keys.add.Goals as goal

pub returns-clause-named : goal.returns-clause-named
returns-clause-named c = c.put.ensures.named c.make_place.ensures.named
