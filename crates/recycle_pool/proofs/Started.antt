-- What an empty pool is known by.
use Rattle.std.proofs.Common.{◌≡◌, ℕ, ◌^◌, ◌≤◌, List, [], ap, sym, ◌∙◌, subst, arith, length, map}
use Rattle.lineage_key.specs.declared.shape.Shape.{Shape}
use Rattle.pool_index.specs.Beside.{ParentsView}
use Rattle.pool_index.specs.Under.{ChildrenView, under}
use Rattle.pool_policy.specs.declared.entry.PoolEntry.{PoolEntry}
use Rattle.pool_policy.specs.declared.options.PoolOptions.{PoolOptions}
use Rattle.pool_policy.specs.Pool.{PoolState, empty_pool, pool_bytes}
use Rattle.pool_policy.specs.Keeps.{IsPool}
use Rattle.pool_policy.proofs.Empty.{empty_is}
use Rattle.recycle_pool.specs.declared.keys.Keys.{Keys}
use Rattle.recycle_pool.specs.declared.pool.Pool.TheInside.{Inside}
use Rattle.recycle_pool.specs.Indexed.{kin_of, pair_of}
use Rattle.recycle_pool.specs.Named.{IsNamed}
use Rattle.recycle_pool.specs.Placed.{AreFound, AreFoundBy, HavePlaces, HaveRoom}
use Rattle.recycle_pool.specs.Views.{IsKept}

pub shown_empty : (options : PoolOptions) (entries : List PoolEntry) (shapes : List Shape) (each : List ℕ) → entries ≡ [] → shapes ≡ [] → each ≡ []
    → (let pool : PoolState = record { options = options; entries = entries; next = 1; moment = 0; shapes = shapes; credit = each } in pool) ≡ empty_pool options
shown_empty options entries shapes each none no_shape no_credit = λ i. record (empty_pool options) { entries = none i; shapes = no_shape i; credit = no_credit i }

-- no entries are found where nothing is kept
pub found_none : (keys : Keys) (children : ChildrenView) (parents : ParentsView) (all : List PoolEntry) → all ≡ [] → IsNamed keys [] → children.pairs ≡ [] → parents.kin ≡ [] → AreFoundBy keys children parents all
found_none keys children parents all none named pairs kin = record {
  named = subst (IsNamed keys) (sym none) named;
  indexed = λ parent. ap (under parent) pairs ∙ ap (λ (es : List PoolEntry). under parent (map pair_of es)) (sym none);
  beside = kin ∙ ap (map kin_of) (sym none);
}

pub started : (p : Inside) → p.entries.all.items ≡ [] → p.next ≡ 1 → p.moment ≡ 0 → p.shapes.items ≡ [] → p.entries.ledger.each ≡ [] → p.entries.ledger.start ≡ p.options.credits → p.options.places ≤ 1024 → p.options.budget ≤ 2 ^ 40
    → HavePlaces p.options.places p.entries → HaveRoom p.options.places p.lists → AreFound p.entries → p.entries.bytes ≡ 0 → IsKept p
started p items next moment shapes each start few budget room lists found bytes =
    let count = ap (λ (ss : List Shape). length ss) shapes in record {
      pool = subst IsPool (λ i. record (empty_pool p.options) { entries = sym items i; next = sym next i; moment = sym moment i; shapes = sym shapes i; credit = sym each i }) (empty_is p.options);
      few = few;
      budget = budget;
      start = start;
      moment = omega (arith, moment);
      next = omega (arith, next, moment);
      shapes = omega (arith, count);
      room = room;
      lists = lists;
      found = found;
      bytes = bytes ∙ ap pool_bytes (sym items);
    }
