use Rattle.std.proofs.Common.{◌<◌, [], ◌∷◌, List, ap, sym, ◌∙◌, refl, arith, subst}
use Rattle.std.specs.Vec.{vec_capacity}
use Rattle.pool_policy.specs.declared.entry.PoolEntry.{PoolEntry}
use Rattle.pool_policy.specs.Pool.{PoolState}
use Rattle.pool_policy.specs.Admits.{admit_of}
use Rattle.pool_policy.specs.Keeps.{IsPool, faces}
use Rattle.pool_policy.proofs.AdmitGiven.{pinned_faces}
use Rattle.pool_policy.proofs.NewEntry.{moment_keeps}
use Rattle.pool_policy.proofs.Kept.{pins_keep}
use Rattle.recycle_pool.specs.Answers.{offer_in}
use Rattle.recycle_pool.specs.Named.{IsNamed}
use Rattle.recycle_pool.specs.Views.{pool_shown}
use Rattle.recycle_pool.proofs.Answered.{there_shown}
use Rattle.recycle_pool.proofs.Looked.{rising}
use Rattle.recycle_pool.proofs.Placing.{found_faces, wide_more}
use Rattle.recycle_pool.proofs.Totals.{bytes_on}
use Rattle.recycle_pool.proofs.Stands.{kept_on}
use Rattle.recycle_pool.proofs.pool.Pool.answer_known.Goals as goal

pub place-requires-clause-named : goal.place-requires-clause-named
place-requires-clause-named c = subst (IsNamed c.self.inside.entries.keys) (sym c.as_slice.ensures.value) c.self.invariant.found.named

pub place-requires-clause-rising : goal.place-requires-clause-rising
place-requires-clause-rising c = rising c.self.inside c.as_slice.result.now c.self.invariant c.as_slice.ensures.value

pub pin_id-requires-clause-rising : goal.pin_id-requires-clause-rising
pin_id-requires-clause-rising c = rising c.self.inside c.self.inside.entries.all.items c.self.invariant refl

pub invariant_of-self : goal.invariant_of-self
invariant_of-self c =
    let later : c.self.inside.moment < c.args.now = let m = ap (λ (p : PoolState). p.moment) c.self.view_is in omega (arith, m, c.requires.later) in
    let at : PoolState = record (pool_shown c.self.inside) { moment = c.args.now } in
    let same = ap faces c.pin_id.ensures.entries ∙ pinned_faces c.args.who (c.index.result.now.id ∷ []) c.self.inside.entries.all.items in
    let kept = pins_keep c.args.who (c.index.result.now.id ∷ []) at (moment_keeps c.args.now (pool_shown c.self.inside) later c.self.invariant.pool) in
    kept_on c.self.inside _ c.self.invariant (subst (λ (es : List PoolEntry). IsPool (record at { entries = es })) (sym c.pin_id.ensures.entries) kept)
    refl refl c.requires.early (omega (arith, later, c.self.invariant.next)) (omega (arith, later, c.self.invariant.shapes))
    (wide_more c.self.inside.options.places (vec_capacity c.self.inside.entries.all) _ _ _ (vec_capacity c.pin_id.new.entries) (omega (arith, c.pin_id.ensures.room)) c.self.invariant.room) c.self.invariant.lists
    (found_faces c.self.inside.entries.keys c.self.inside.entries.children c.self.inside.entries.parents c.self.inside.entries.all.items c.pin_id.new.entries.items same c.self.invariant.found)
    (bytes_on c.self.inside.entries.bytes c.self.inside.entries.all.items c.pin_id.new.entries.items same c.self.invariant.bytes)

pub returns-in-Some-clause-some : goal.returns-in-Some-clause-some
returns-in-Some-clause-some c =
    there_shown c.args.who c.args.now (offer_in c.args.offered.now) (pool_shown c.self.inside) c.as_slice.result.now c.in-Some.place c.index.result.now c.pin_id.new.entries.items c.as_slice.ensures.value c.in-Some.ensures.found c.in-Some.ensures.within c.index.ensures c.pin_id.ensures.entries
    ∙ ap (admit_of c.args.who c.args.now (offer_in c.args.offered.now)) c.self.view_is
