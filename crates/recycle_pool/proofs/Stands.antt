-- What is kept beside the state of a pool.
use Rattle.std.proofs.Common.{◌≡◌, ◌+◌, ◌*◌, ◌^◌, ◌≤◌, ◌<◌, ap, sym, ◌∙◌, subst, arith, length}
use Rattle.pool_policy.specs.declared.options.PoolOptions.{PoolOptions}
use Rattle.pool_policy.specs.Pool.{pool_bytes}
use Rattle.pool_policy.specs.Keeps.{IsPool}
use Rattle.recycle_pool.specs.declared.pool.Pool.TheInside.{Inside}
use Rattle.recycle_pool.specs.Placed.{AreFound, HavePlaces, HaveRoom}
use Rattle.recycle_pool.specs.Views.{pool_shown, IsKept}

-- a step that leaves a pool, with no less room, and adds few ids and shapes
pub kept_on : (old new : Inside) → IsKept old → IsPool (pool_shown new) → new.options ≡ old.options → new.entries.ledger.start ≡ old.entries.ledger.start → new.moment < 2 ^ 30
    → new.next ≤ 1024 * new.moment + 1 → length new.shapes.items ≤ new.moment → HavePlaces old.options.places new.entries → HaveRoom old.options.places new.lists
    → AreFound new.entries → new.entries.bytes ≡ pool_bytes new.entries.all.items → IsKept new
kept_on old new known pool options start moment next shapes room lists found bytes =
    let places = ap (λ (o : PoolOptions). o.places) options in
    let budget = ap (λ (o : PoolOptions). o.budget) options in record {
      pool = pool;
      few = omega (arith, places, known.few);
      budget = omega (arith, budget, known.budget);
      start = start ∙ known.start ∙ ap (λ (o : PoolOptions). o.credits) (sym options);
      moment = moment;
      next = next;
      shapes = shapes;
      room = subst (λ (o : PoolOptions). HavePlaces o.places new.entries) (sym options) room;
      lists = subst (λ (o : PoolOptions). HaveRoom o.places new.lists) (sym options) lists;
      found = found;
      bytes = bytes;
    }
