-- A write leaves what the policy says.
use Rattle.std.proofs.Common.{◌≡◌, ◌+◌, ◌-◌, ◌<◌, List, ℕ, [], ap, sym, ◌∙◌, subst, refl, arith, length, vec_len}
use Rattle.std.proofs.lemmas.List.{length-map}
use Rattle.pool_policy.specs.declared.entry.PoolEntry.{PoolEntry}
use Rattle.pool_policy.specs.Pool.{PoolState, pool_bytes, score_at}
use Rattle.pool_policy.specs.Admits.{left_without, rows_of}
use Rattle.pool_policy.specs.Writes.{Return, touched_ids, write_of}
use Rattle.pool_policy.specs.WriteLaws.{IsWrite}
use Rattle.pool_policy.specs.Scorers.{rule_of}
use Rattle.evict_admit.specs.Runs.{given_up}
use Rattle.recycle_pool.specs.Carries.{IsCarried}
use Rattle.recycle_pool.specs.Views.{pool_shown}
use Rattle.recycle_pool.proofs.Looked.{owed}
use Rattle.recycle_pool.proofs.Carrying.{backs, credit_is, entries_are, few_after, few_backs, ids_back, owed_after, places_shown, touched, weighable, written_is, written_keeps}
use Rattle.recycle_pool.proofs.Placing.{room_within, wide_within}
use Rattle.recycle_pool.proofs.Stands.{kept_on}
use Rattle.recycle_pool.proofs.pool.Pool.put_carried.Goals as goal

pub note_touched-requires : goal.note_touched-requires
note_touched-requires g c = let l = ap (λ (es : List PoolEntry). length es) c.as_slice.ensures.value in omega (arith, l, c.self.invariant.pool.places, c.self.invariant.lists.touched)

pub bring_back-requires-clause-owed : goal.bring_back-requires-clause-owed
bring_back-requires-clause-owed g c = owed c.self.inside c.self.inside.entries.all.items c.self.invariant refl

pub bring_back-requires-clause-places : goal.bring_back-requires-clause-places
bring_back-requires-clause-places g c =
    let fits : IsWrite c.args.touched.now c.args.now (pool_shown c.self.inside) = subst (IsWrite c.args.touched.now c.args.now) (sym c.self.view_is) c.requires.write in
    let later : c.self.inside.moment < c.args.now = let m = ap (λ (p : PoolState). p.moment) c.self.view_is in omega (arith, m, c.requires.later) in
    let carried : IsCarried c.args.touched.now c.args.now (pool_shown c.self.inside) c.args.carried = subst (λ (p : PoolState). IsCarried c.args.touched.now c.args.now p c.args.carried) (sym c.self.view_is) c.requires.carried in
    let shown : c.as_slice-3.result.now ≡ touched c.self.inside c.args.touched.now c.args.now = c.as_slice-3.ensures.value ∙ c.note_touched.ensures.ids ∙ (λ i. touched_ids c.args.touched.now.table (c.as_slice-2.ensures i) (c.as_slice.ensures.value i)) in
    let places = places_shown c.self.inside c.args.touched.now c.args.now c.self.invariant later c.requires.early fits c.as_slice-3.result.now c.args.carried.entries.items (vec_len c.args.carried.entries) shown carried.entries (omega (arith, c.args.carried.entries.ok.0)) in
    wide_within _ c.self.inside.options.places _ _ _ _ places c.self.invariant.room

pub overflow_add-self : goal.overflow_add-self
overflow_add-self g c =
    let fits : IsWrite c.args.touched.now c.args.now (pool_shown c.self.inside) = subst (IsWrite c.args.touched.now c.args.now) (sym c.self.view_is) c.requires.write in
    let later : c.self.inside.moment < c.args.now = let m = ap (λ (p : PoolState). p.moment) c.self.view_is in omega (arith, m, c.requires.later) in
    let carried : IsCarried c.args.touched.now c.args.now (pool_shown c.self.inside) c.args.carried = subst (λ (p : PoolState). IsCarried c.args.touched.now c.args.now p c.args.carried) (sym c.self.view_is) c.requires.carried in
    let many = ap (λ (ids : List ℕ). length ids) carried.ids ∙ length-map (backs c.self.inside c.args.touched.now c.args.now) (λ (r : Return). r.old.id) in
    let back : c.len-back.result ≡ length (backs c.self.inside c.args.touched.now c.args.now) = omega (arith, c.len-back.ensures, c.args.carried.ids.ok.0, many) in
    let few = few_backs c.self.inside c.args.touched.now c.args.now c.self.invariant later c.requires.early fits in
    omega (arith, back, few, c.self.invariant.next, c.self.invariant.moment)

pub plan_last-requires-clause-scorer : goal.plan_last-requires-clause-scorer
plan_last-requires-clause-scorer g c = c.requires.scorer ∙ ap (λ (p : PoolState). rule_of p.options) (sym c.self.view_is)

pub plan_last-requires-clause-plan : goal.plan_last-requires-clause-plan
plan_last-requires-clause-plan g c =
    let fits : IsWrite c.args.touched.now c.args.now (pool_shown c.self.inside) = subst (IsWrite c.args.touched.now c.args.now) (sym c.self.view_is) c.requires.write in
    let later : c.self.inside.moment < c.args.now = let m = ap (λ (p : PoolState). p.moment) c.self.view_is in omega (arith, m, c.requires.later) in
    let carried : IsCarried c.args.touched.now c.args.now (pool_shown c.self.inside) c.args.carried = subst (λ (p : PoolState). IsCarried c.args.touched.now c.args.now p c.args.carried) (sym c.self.view_is) c.requires.carried in
    let shown : c.as_slice-3.result.now ≡ touched c.self.inside c.args.touched.now c.args.now = c.as_slice-3.ensures.value ∙ c.note_touched.ensures.ids ∙ (λ i. touched_ids c.args.touched.now.table (c.as_slice-2.ensures i) (c.as_slice.ensures.value i)) in
    let mid = entries_are c.self.inside c.args.touched.now c.args.now c.as_slice-3.result.now (left_without c.as_slice-3.result.now c.self.inside.entries.all.items) c.args.carried.entries.items c.bring_back.new.self.all.items shown refl carried.entries c.bring_back.ensures.entries in
    weighable c.self.inside c.args.touched.now c.args.now c.self.invariant later c.requires.early fits c.bring_back.new.self.all.items mid

pub plan_last-requires-clause-room : goal.plan_last-requires-clause-room
plan_last-requires-clause-room g c =
    let fits : IsWrite c.args.touched.now c.args.now (pool_shown c.self.inside) = subst (IsWrite c.args.touched.now c.args.now) (sym c.self.view_is) c.requires.write in
    let later : c.self.inside.moment < c.args.now = let m = ap (λ (p : PoolState). p.moment) c.self.view_is in omega (arith, m, c.requires.later) in
    let carried : IsCarried c.args.touched.now c.args.now (pool_shown c.self.inside) c.args.carried = subst (λ (p : PoolState). IsCarried c.args.touched.now c.args.now p c.args.carried) (sym c.self.view_is) c.requires.carried in
    let shown : c.as_slice-3.result.now ≡ touched c.self.inside c.args.touched.now c.args.now = c.as_slice-3.ensures.value ∙ c.note_touched.ensures.ids ∙ (λ i. touched_ids c.args.touched.now.table (c.as_slice-2.ensures i) (c.as_slice.ensures.value i)) in
    let mid = entries_are c.self.inside c.args.touched.now c.args.now c.as_slice-3.result.now (left_without c.as_slice-3.result.now c.self.inside.entries.all.items) c.args.carried.entries.items c.bring_back.new.self.all.items shown refl carried.entries c.bring_back.ensures.entries in
    let same = ap (λ (es : List PoolEntry). length es) mid in
    let few = few_after c.self.inside c.args.touched.now c.args.now c.self.invariant later c.requires.early fits in
    room_within _ c.self.inside.options.places _ (omega (arith, same, few))
    (record { touched = omega (arith, c.self.invariant.lists.touched, c.note_touched.ensures.room); gone = c.self.invariant.lists.gone; rows = c.self.invariant.lists.rows })

pub give_up-requires-clause-found : goal.give_up-requires-clause-found
give_up-requires-clause-found g c = c.bring_back.ensures.found

pub give_up-requires-clause-owed : goal.give_up-requires-clause-owed
give_up-requires-clause-owed g c =
    let fits : IsWrite c.args.touched.now c.args.now (pool_shown c.self.inside) = subst (IsWrite c.args.touched.now c.args.now) (sym c.self.view_is) c.requires.write in
    let later : c.self.inside.moment < c.args.now = let m = ap (λ (p : PoolState). p.moment) c.self.view_is in omega (arith, m, c.requires.later) in
    let carried : IsCarried c.args.touched.now c.args.now (pool_shown c.self.inside) c.args.carried = subst (λ (p : PoolState). IsCarried c.args.touched.now c.args.now p c.args.carried) (sym c.self.view_is) c.requires.carried in
    let shown : c.as_slice-3.result.now ≡ touched c.self.inside c.args.touched.now c.args.now = c.as_slice-3.ensures.value ∙ c.note_touched.ensures.ids ∙ (λ i. touched_ids c.args.touched.now.table (c.as_slice-2.ensures i) (c.as_slice.ensures.value i)) in
    let mid = entries_are c.self.inside c.args.touched.now c.args.now c.as_slice-3.result.now (left_without c.as_slice-3.result.now c.self.inside.entries.all.items) c.args.carried.entries.items c.bring_back.new.self.all.items shown refl carried.entries c.bring_back.ensures.entries in
    let paid = credit_is c.self.inside c.args.touched.now c.args.now c.as_slice-3.result.now c.args.carried.ids.items c.bring_back.new.self.ledger.each shown carried.ids c.bring_back.ensures.each in
    owed_after c.self.inside c.args.touched.now c.args.now c.self.invariant later c.requires.early fits c.bring_back.new.self.ledger c.bring_back.new.self.all.items c.bring_back.ensures.start paid mid

pub total_bytes-self-inside-requires : goal.total_bytes-self-inside-requires
total_bytes-self-inside-requires g c =
    let fits : IsWrite c.args.touched.now c.args.now (pool_shown c.self.inside) = subst (IsWrite c.args.touched.now c.args.now) (sym c.self.view_is) c.requires.write in
    let later : c.self.inside.moment < c.args.now = let m = ap (λ (p : PoolState). p.moment) c.self.view_is in omega (arith, m, c.requires.later) in
    let carried : IsCarried c.args.touched.now c.args.now (pool_shown c.self.inside) c.args.carried = subst (λ (p : PoolState). IsCarried c.args.touched.now c.args.now p c.args.carried) (sym c.self.view_is) c.requires.carried in
    let shown : c.as_slice-3.result.now ≡ touched c.self.inside c.args.touched.now c.args.now = c.as_slice-3.ensures.value ∙ c.note_touched.ensures.ids ∙ (λ i. touched_ids c.args.touched.now.table (c.as_slice-2.ensures i) (c.as_slice.ensures.value i)) in
    let mid = entries_are c.self.inside c.args.touched.now c.args.now c.as_slice-3.result.now (left_without c.as_slice-3.result.now c.self.inside.entries.all.items) c.args.carried.entries.items c.bring_back.new.self.all.items shown refl carried.entries c.bring_back.ensures.entries in
    let paid = credit_is c.self.inside c.args.touched.now c.args.now c.as_slice-3.result.now c.args.carried.ids.items c.bring_back.new.self.ledger.each shown carried.ids c.bring_back.ensures.each in
    let many = ap (λ (ids : List ℕ). length ids) carried.ids ∙ length-map (backs c.self.inside c.args.touched.now c.args.now) (λ (r : Return). r.old.id) in
    let back : c.len-back.result ≡ length (backs c.self.inside c.args.touched.now c.args.now) = omega (arith, c.len-back.ensures, c.args.carried.ids.ok.0, many) in
    let gone = c.as_slice-4.ensures.value ∙ c.plan_last.ensures.gone ∙ ap (λ (es : List PoolEntry). (given_up (score_at c.self.inside.options c.args.now) (rows_of [] es) (pool_bytes es - c.self.inside.options.budget) 0).0) mid in
    let done = written_is c.self.inside c.args.touched.now c.args.now c.bring_back.new.self.all.items c.give_up.new.self.all.items c.bring_back.new.self.ledger.each c.give_up.new.self.ledger.each c.as_slice-4.result.now (c.self.inside.next + c.len-back.result) mid paid (ap (λ n. c.self.inside.next + n) back) gone c.give_up.ensures.entries c.give_up.ensures.each in
    let kept = written_keeps c.self.inside c.args.touched.now c.args.now c.self.invariant later c.requires.early fits _ done in
    let same = ap pool_bytes c.as_slice-5.ensures.value in
    omega (arith, same, kept.bytes, c.self.invariant.budget)

pub invariant_of-self : goal.invariant_of-self
invariant_of-self g c =
    let fits : IsWrite c.args.touched.now c.args.now (pool_shown c.self.inside) = subst (IsWrite c.args.touched.now c.args.now) (sym c.self.view_is) c.requires.write in
    let later : c.self.inside.moment < c.args.now = let m = ap (λ (p : PoolState). p.moment) c.self.view_is in omega (arith, m, c.requires.later) in
    let carried : IsCarried c.args.touched.now c.args.now (pool_shown c.self.inside) c.args.carried = subst (λ (p : PoolState). IsCarried c.args.touched.now c.args.now p c.args.carried) (sym c.self.view_is) c.requires.carried in
    let shown : c.as_slice-3.result.now ≡ touched c.self.inside c.args.touched.now c.args.now = c.as_slice-3.ensures.value ∙ c.note_touched.ensures.ids ∙ (λ i. touched_ids c.args.touched.now.table (c.as_slice-2.ensures i) (c.as_slice.ensures.value i)) in
    let mid = entries_are c.self.inside c.args.touched.now c.args.now c.as_slice-3.result.now (left_without c.as_slice-3.result.now c.self.inside.entries.all.items) c.args.carried.entries.items c.bring_back.new.self.all.items shown refl carried.entries c.bring_back.ensures.entries in
    let paid = credit_is c.self.inside c.args.touched.now c.args.now c.as_slice-3.result.now c.args.carried.ids.items c.bring_back.new.self.ledger.each shown carried.ids c.bring_back.ensures.each in
    let many = ap (λ (ids : List ℕ). length ids) carried.ids ∙ length-map (backs c.self.inside c.args.touched.now c.args.now) (λ (r : Return). r.old.id) in
    let back : c.len-back.result ≡ length (backs c.self.inside c.args.touched.now c.args.now) = omega (arith, c.len-back.ensures, c.args.carried.ids.ok.0, many) in
    let gone = c.as_slice-4.ensures.value ∙ c.plan_last.ensures.gone ∙ ap (λ (es : List PoolEntry). (given_up (score_at c.self.inside.options c.args.now) (rows_of [] es) (pool_bytes es - c.self.inside.options.budget) 0).0) mid in
    let done = written_is c.self.inside c.args.touched.now c.args.now c.bring_back.new.self.all.items c.give_up.new.self.all.items c.bring_back.new.self.ledger.each c.give_up.new.self.ledger.each c.as_slice-4.result.now (c.self.inside.next + c.len-back.result) mid paid (ap (λ n. c.self.inside.next + n) back) gone c.give_up.ensures.entries c.give_up.ensures.each in
    let few = few_backs c.self.inside c.args.touched.now c.args.now c.self.invariant later c.requires.early fits in
    kept_on c.self.inside _ c.self.invariant (written_keeps c.self.inside c.args.touched.now c.args.now c.self.invariant later c.requires.early fits _ done)
    refl (c.give_up.ensures.start ∙ c.bring_back.ensures.start) c.requires.early (ids_back c.self.inside.next c.len-back.result _ c.self.inside.moment c.args.now c.self.invariant.next later back few) (omega (arith, later, c.self.invariant.shapes))
    (c.give_up.ensures.room c.self.inside.options.places (c.bring_back.ensures.room c.self.inside.options.places c.self.invariant.room))
    (c.plan_last.ensures.room c.self.inside.options.places
    (record { touched = omega (arith, c.self.invariant.lists.touched, c.note_touched.ensures.room); gone = c.self.invariant.lists.gone; rows = c.self.invariant.lists.rows }))
    c.give_up.ensures.found (c.total_bytes-self-inside.ensures ∙ ap pool_bytes c.as_slice-5.ensures.value)

pub returns-clause-options : goal.returns-clause-options
returns-clause-options g c = ap (λ (p : PoolState). p.options) c.self.view_is

pub returns-clause-moment : goal.returns-clause-moment
returns-clause-moment g c = refl

pub returns-clause-pool : goal.returns-clause-pool
returns-clause-pool g c =
    let carried : IsCarried c.args.touched.now c.args.now (pool_shown c.self.inside) c.args.carried = subst (λ (p : PoolState). IsCarried c.args.touched.now c.args.now p c.args.carried) (sym c.self.view_is) c.requires.carried in
    let shown : c.as_slice-3.result.now ≡ touched c.self.inside c.args.touched.now c.args.now = c.as_slice-3.ensures.value ∙ c.note_touched.ensures.ids ∙ (λ i. touched_ids c.args.touched.now.table (c.as_slice-2.ensures i) (c.as_slice.ensures.value i)) in
    let mid = entries_are c.self.inside c.args.touched.now c.args.now c.as_slice-3.result.now (left_without c.as_slice-3.result.now c.self.inside.entries.all.items) c.args.carried.entries.items c.bring_back.new.self.all.items shown refl carried.entries c.bring_back.ensures.entries in
    let paid = credit_is c.self.inside c.args.touched.now c.args.now c.as_slice-3.result.now c.args.carried.ids.items c.bring_back.new.self.ledger.each shown carried.ids c.bring_back.ensures.each in
    let many = ap (λ (ids : List ℕ). length ids) carried.ids ∙ length-map (backs c.self.inside c.args.touched.now c.args.now) (λ (r : Return). r.old.id) in
    let back : c.len-back.result ≡ length (backs c.self.inside c.args.touched.now c.args.now) = omega (arith, c.len-back.ensures, c.args.carried.ids.ok.0, many) in
    let gone = c.as_slice-4.ensures.value ∙ c.plan_last.ensures.gone ∙ ap (λ (es : List PoolEntry). (given_up (score_at c.self.inside.options c.args.now) (rows_of [] es) (pool_bytes es - c.self.inside.options.budget) 0).0) mid in
    let done = written_is c.self.inside c.args.touched.now c.args.now c.bring_back.new.self.all.items c.give_up.new.self.all.items c.bring_back.new.self.ledger.each c.give_up.new.self.ledger.each c.as_slice-4.result.now (c.self.inside.next + c.len-back.result) mid paid (ap (λ n. c.self.inside.next + n) back) gone c.give_up.ensures.entries c.give_up.ensures.each in
    done ∙ ap (λ (p : PoolState). (write_of c.args.touched.now c.args.now p).pool) c.self.view_is

pub returns-clause-dropped : goal.returns-clause-dropped
returns-clause-dropped g c =
    let carried : IsCarried c.args.touched.now c.args.now (pool_shown c.self.inside) c.args.carried = subst (λ (p : PoolState). IsCarried c.args.touched.now c.args.now p c.args.carried) (sym c.self.view_is) c.requires.carried in
    let shown : c.as_slice-3.result.now ≡ touched c.self.inside c.args.touched.now c.args.now = c.as_slice-3.ensures.value ∙ c.note_touched.ensures.ids ∙ (λ i. touched_ids c.args.touched.now.table (c.as_slice-2.ensures i) (c.as_slice.ensures.value i)) in
    let many = ap (λ (ids : List ℕ). length ids) carried.ids ∙ length-map (backs c.self.inside c.args.touched.now c.args.now) (λ (r : Return). r.old.id) in
    let back : c.len-back.result ≡ length (backs c.self.inside c.args.touched.now c.args.now) = omega (arith, c.len-back.ensures, c.args.carried.ids.ok.0, many) in
    let count = ap (λ (ids : List ℕ). length ids) (sym c.as_slice-3.ensures.value ∙ shown) in
    let all : c.len.result ≡ length (touched c.self.inside c.args.touched.now c.args.now) = omega (arith, c.len.ensures, c.note_touched.new.touched.ok.0, count) in
    let left : c.saturating_sub-dropped.result ≡ length (touched c.self.inside c.args.touched.now c.args.now) - length (backs c.self.inside c.args.touched.now c.args.now) = omega (arith, all, back) in
    left ∙ ap (λ (p : PoolState). (write_of c.args.touched.now c.args.now p).dropped) c.self.view_is

pub returns-clause-evicted : goal.returns-clause-evicted
returns-clause-evicted g c =
    let carried : IsCarried c.args.touched.now c.args.now (pool_shown c.self.inside) c.args.carried = subst (λ (p : PoolState). IsCarried c.args.touched.now c.args.now p c.args.carried) (sym c.self.view_is) c.requires.carried in
    let shown : c.as_slice-3.result.now ≡ touched c.self.inside c.args.touched.now c.args.now = c.as_slice-3.ensures.value ∙ c.note_touched.ensures.ids ∙ (λ i. touched_ids c.args.touched.now.table (c.as_slice-2.ensures i) (c.as_slice.ensures.value i)) in
    let mid = entries_are c.self.inside c.args.touched.now c.args.now c.as_slice-3.result.now (left_without c.as_slice-3.result.now c.self.inside.entries.all.items) c.args.carried.entries.items c.bring_back.new.self.all.items shown refl carried.entries c.bring_back.ensures.entries in
    let gone = c.plan_last.ensures.gone ∙ ap (λ (es : List PoolEntry). (given_up (score_at c.self.inside.options c.args.now) (rows_of [] es) (pool_bytes es - c.self.inside.options.budget) 0).0) mid in
    let count : c.len-2.result ≡ length c.plan_last.new.lists.gone.items = omega (arith, c.len-2.ensures, c.plan_last.new.lists.gone.ok.0) in
    count ∙ ap (λ (ids : List ℕ). length ids) gone ∙ ap (λ (p : PoolState). (write_of c.args.touched.now c.args.now p).evicted) c.self.view_is
