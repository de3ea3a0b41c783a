use Rattle.std.proofs.Common.{◌<◌, ap, refl, arith}
use Rattle.pool_policy.specs.Pool.{PoolState}
use Rattle.pool_policy.proofs.NewEntry.{moment_keeps}
use Rattle.recycle_pool.specs.Views.{pool_shown}
use Rattle.recycle_pool.proofs.Looked.{rising}
use Rattle.recycle_pool.proofs.Stands.{kept_on}
use Rattle.recycle_pool.proofs.pool.Pool.refuse.Goals as goal

pub first_missing-requires : goal.first_missing-requires
first_missing-requires c = rising c.self.inside c.as_slice.result.now c.self.invariant c.as_slice.ensures.value

pub invariant_of-self : goal.invariant_of-self
invariant_of-self c =
    let later : c.self.inside.moment < c.args.now = let m = ap (λ (p : PoolState). p.moment) c.self.view_is in omega (arith, m, c.requires.later) in
    kept_on c.self.inside _ c.self.invariant (moment_keeps c.args.now (pool_shown c.self.inside) later c.self.invariant.pool) refl refl c.requires.early (omega (arith, later, c.self.invariant.next)) (omega (arith, later, c.self.invariant.shapes)) c.self.invariant.room c.self.invariant.lists c.self.invariant.found c.self.invariant.bytes

pub invariant_of-self-in-Some : goal.invariant_of-self-in-Some
invariant_of-self-in-Some c =
    let later : c.self.inside.moment < c.args.now = let m = ap (λ (p : PoolState). p.moment) c.self.view_is in omega (arith, m, c.requires.later) in
    kept_on c.self.inside _ c.self.invariant (moment_keeps c.args.now (pool_shown c.self.inside) later c.self.invariant.pool) refl refl c.requires.early (omega (arith, later, c.self.invariant.next)) (omega (arith, later, c.self.invariant.shapes)) c.self.invariant.room c.self.invariant.lists c.self.invariant.found c.self.invariant.bytes
