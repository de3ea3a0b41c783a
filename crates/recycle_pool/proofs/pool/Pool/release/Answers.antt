use Rattle.std.proofs.Common.{ap, ◌∙◌, refl, sym, subst, arith}
use Rattle.std.specs.Prelude.{List}
use Rattle.std.specs.Vec.{vec_capacity}
use Rattle.pool_policy.specs.declared.entry.PoolEntry.{PoolEntry}
use Rattle.pool_policy.specs.Pool.{PoolState}
use Rattle.pool_policy.specs.Admits.{unpinned}
use Rattle.pool_policy.specs.Keeps.{IsPool, faces}
use Rattle.pool_policy.proofs.Faces.{map_faces}
use Rattle.pool_policy.proofs.Kept.{release_keeps}
use Rattle.recycle_pool.specs.Views.{pool_shown}
use Rattle.recycle_pool.proofs.Placing.{found_faces, wide_more}
use Rattle.recycle_pool.proofs.Totals.{bytes_on}
use Rattle.recycle_pool.proofs.Stands.{kept_on}
use Rattle.recycle_pool.proofs.pool.Pool.release.Goals as goal

pub invariant_of-self : goal.invariant_of-self
invariant_of-self c =
    let old : PoolState = pool_shown c.self.inside in
    let same = ap faces c.unpin_all.ensures.entries ∙ map_faces (unpinned c.args.session) (λ e. refl) c.self.inside.entries.all.items in
    kept_on c.self.inside _ c.self.invariant (subst (λ (es : List PoolEntry). IsPool (record old { entries = es })) (sym c.unpin_all.ensures.entries) (release_keeps c.args.session old c.self.invariant.pool))
    refl refl c.self.invariant.moment c.self.invariant.next c.self.invariant.shapes
    (wide_more c.self.inside.options.places (vec_capacity c.self.inside.entries.all) _ _ _ (vec_capacity c.unpin_all.new.entries) (omega (arith, c.unpin_all.ensures.room)) c.self.invariant.room) c.self.invariant.lists
    (found_faces c.self.inside.entries.keys c.self.inside.entries.children c.self.inside.entries.parents c.self.inside.entries.all.items c.unpin_all.new.entries.items same c.self.invariant.found)
    (bytes_on c.self.inside.entries.bytes c.self.inside.entries.all.items c.unpin_all.new.entries.items same c.self.invariant.bytes)
