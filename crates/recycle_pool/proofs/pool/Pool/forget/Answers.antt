-- What is forgotten leaves as the policy says.
use Rattle.std.proofs.Common.{List, ap, ◌∙◌, refl, arith, length}
use Rattle.pool_policy.specs.declared.entry.PoolEntry.{PoolEntry}
use Rattle.pool_policy.specs.Pool.{pool_bytes}
use Rattle.pool_policy.specs.Writes.{forget_of, touched_ids}
use Rattle.recycle_pool.proofs.Looked.{owed}
use Rattle.recycle_pool.proofs.Carrying.{forgotten, forgotten_keeps}
use Rattle.recycle_pool.proofs.Stands.{kept_on}
use Rattle.recycle_pool.proofs.pool.Pool.forget.Goals as goal

pub note_touched-requires : goal.note_touched-requires
note_touched-requires c = let l = ap (λ (es : List PoolEntry). length es) c.as_slice.ensures.value in omega (arith, l, c.self.invariant.pool.places, c.self.invariant.lists.touched)

pub give_up-requires-clause-found : goal.give_up-requires-clause-found
give_up-requires-clause-found c = c.self.invariant.found

pub give_up-requires-clause-owed : goal.give_up-requires-clause-owed
give_up-requires-clause-owed c = owed c.self.inside c.self.inside.entries.all.items c.self.invariant refl

pub total_bytes-self-inside-requires : goal.total_bytes-self-inside-requires
total_bytes-self-inside-requires c =
    let touched = c.as_slice-2.ensures.value ∙ c.note_touched.ensures.ids ∙ ap (λ (es : List PoolEntry). touched_ids c.args.table.now c.args.columns.now es) c.as_slice.ensures.value in
    let done = forgotten c.self.inside c.args.table.now c.args.columns.now c.as_slice-2.result.now c.give_up.new.self.all.items c.give_up.new.self.ledger.each touched c.give_up.ensures.entries c.give_up.ensures.each in
    let kept = forgotten_keeps c.self.inside c.args.table.now c.args.columns.now _ c.self.invariant done in
    let same = ap pool_bytes c.as_slice-3.ensures.value in
    omega (arith, same, kept.bytes, c.self.invariant.budget)

pub invariant_of-self : goal.invariant_of-self
invariant_of-self c =
    let touched = c.as_slice-2.ensures.value ∙ c.note_touched.ensures.ids ∙ ap (λ (es : List PoolEntry). touched_ids c.args.table.now c.args.columns.now es) c.as_slice.ensures.value in
    let done = forgotten c.self.inside c.args.table.now c.args.columns.now c.as_slice-2.result.now c.give_up.new.self.all.items c.give_up.new.self.ledger.each touched c.give_up.ensures.entries c.give_up.ensures.each in
    kept_on c.self.inside _ c.self.invariant (forgotten_keeps c.self.inside c.args.table.now c.args.columns.now _ c.self.invariant done)
    refl c.give_up.ensures.start c.self.invariant.moment c.self.invariant.next c.self.invariant.shapes (c.give_up.ensures.room c.self.inside.options.places c.self.invariant.room)
    (record { touched = omega (arith, c.self.invariant.lists.touched, c.note_touched.ensures.room); gone = c.self.invariant.lists.gone; rows = c.self.invariant.lists.rows })
    c.give_up.ensures.found (c.total_bytes-self-inside.ensures ∙ ap pool_bytes c.as_slice-3.ensures.value)

pub returns : goal.returns
returns c =
    let touched = c.as_slice-2.ensures.value ∙ c.note_touched.ensures.ids ∙ ap (λ (es : List PoolEntry). touched_ids c.args.table.now c.args.columns.now es) c.as_slice.ensures.value in
    forgotten c.self.inside c.args.table.now c.args.columns.now c.as_slice-2.result.now c.give_up.new.self.all.items c.give_up.new.self.ledger.each touched c.give_up.ensures.entries c.give_up.ensures.each
    ∙ ap (forget_of c.args.table.now c.args.columns.now) c.self.view_is
