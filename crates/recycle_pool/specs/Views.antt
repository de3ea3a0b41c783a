-- What a pool shows, and what it keeps beside that.
use Rattle.std.specs.Prelude.{◌≡◌, ◌+◌, ◌*◌, ◌≤◌, ◌<◌, ◌^◌, length}
use Rattle.pool_policy.specs.Pool.{PoolState, pool_bytes}
use Rattle.pool_policy.specs.Keeps.{IsPool}
use Rattle.recycle_pool.specs.declared.pool.Pool.TheInside.{Inside}
use Rattle.recycle_pool.specs.Placed.{AreFound, HavePlaces, HaveRoom}

abbrev pub pool_shown : Inside → PoolState
pool_shown p = record { options = p.options; entries = p.entries.all.items; next = p.next; moment = p.moment; shapes = p.shapes.items; credit = p.entries.ledger.each }

-- it is a pool, each shape starts with the credit of the options, all places are taken at the start, each entry is found, the bytes are counted, and there are few ids and shapes for its moment
pub record IsKept (p : Inside) : Type 0 where
  pub pool : IsPool (pool_shown p)
  pub few : p.options.places ≤ 1024
  pub budget : p.options.budget ≤ 2 ^ 40
  pub start : p.entries.ledger.start ≡ p.options.credits
  pub moment : p.moment < 2 ^ 30
  pub next : p.next ≤ 1024 * p.moment + 1
  pub shapes : length p.shapes.items ≤ p.moment
  pub room : HavePlaces p.options.places p.entries
  pub lists : HaveRoom p.options.places p.lists
  pub found : AreFound p.entries
  pub bytes : p.entries.bytes ≡ pool_bytes p.entries.all.items
