-- An empty pool is as the policy says.
use Rattle.std.proofs.Common.{refl}
use Rattle.recycle_pool.proofs.Started.{shown_empty, started}
use Rattle.recycle_pool.proofs.pool.Pool.new.Goals as goal

pub invariant_of-result : goal.invariant_of-result
invariant_of-result c =
    started _ c.in_ok-entries.ensures.none refl refl c.new-3.ensures.items c.in_ok-entries.ensures.each c.in_ok-entries.ensures.start c.requires.places c.requires.budget c.in_ok-entries.ensures.room
    (record { touched = c.in_ok-lists.ensures.touched; gone = c.in_ok-lists.ensures.gone; rows = c.in_ok-lists.ensures.rows }) c.in_ok-entries.ensures.found c.in_ok-entries.ensures.bytes

pub returns : goal.returns
returns c = shown_empty _ _ _ _ c.in_ok-entries.ensures.none c.new-3.ensures.items c.in_ok-entries.ensures.each
