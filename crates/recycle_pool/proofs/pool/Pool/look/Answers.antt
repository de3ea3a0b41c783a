-- A look leaves what the policy says.
use Rattle.std.proofs.Common.{◌<◌, List, ap, sym, ◌∙◌, subst, refl, arith}
use Rattle.std.specs.Prelude.{filter, ◌&&◌}
use Rattle.std.specs.Vec.{vec_capacity}
use Rattle.evict_admit.specs.Runs.{is_one_of}
use Rattle.pool_policy.specs.declared.entry.PoolEntry.{PoolEntry}
use Rattle.pool_policy.specs.Pool.{PoolState}
use Rattle.pool_policy.specs.Looks.{Finding, after_look, found_of, ids_pinned, ids_used, paid_back, pays_back}
use Rattle.pool_policy.specs.Keeps.{IsPool, faces}
use Rattle.pool_policy.proofs.AdmitGiven.{pinned_faces, used_faces}
use Rattle.pool_policy.proofs.Kept.{look_keeps}
use Rattle.pool_entries.proofs.Ids.{rising_on}
use Rattle.recycle_pool.specs.Answers.{HandsOut, told}
use Rattle.recycle_pool.specs.Views.{pool_shown}
use Rattle.recycle_pool.proofs.Looked.{lookable, looked, owed, rising, usable}
use Rattle.recycle_pool.proofs.Placing.{found_faces, wide_more}
use Rattle.recycle_pool.proofs.Totals.{bytes_on}
use Rattle.recycle_pool.proofs.Stands.{kept_on}
use Rattle.recycle_pool.proofs.pool.Pool.look.Goals as goal

pub find_whole-requires-clause-known : goal.find_whole-requires-clause-known
find_whole-requires-clause-known c = c.self.invariant.found

pub find_whole-requires-clause-lookable : goal.find_whole-requires-clause-lookable
find_whole-requires-clause-lookable c = lookable c.self.inside c.self.inside.entries.all.items c.self.invariant refl

pub pay_uses-requires-clause-rising : goal.pay_uses-requires-clause-rising
pay_uses-requires-clause-rising c = rising c.self.inside c.as_slice.result.now c.self.invariant c.as_slice.ensures.value

pub pay_uses-requires-clause-owed : goal.pay_uses-requires-clause-owed
pay_uses-requires-clause-owed c = owed c.self.inside c.as_slice.result.now c.self.invariant c.as_slice.ensures.value

pub use_all-requires-clause-rising : goal.use_all-requires-clause-rising
use_all-requires-clause-rising c = rising c.self.inside c.self.inside.entries.all.items c.self.invariant refl

pub use_all-requires-clause-usable : goal.use_all-requires-clause-usable
use_all-requires-clause-usable c = usable c.self.inside c.self.invariant

pub pin_found-requires-clause-rising : goal.pin_found-requires-clause-rising
pin_found-requires-clause-rising c =
    let found : Finding = told c.in_ok-found.found c.as_slice-used.result.now in
    rising_on c.self.inside.entries.all.items c.use_all.new.entries.items (ap faces c.use_all.ensures.entries ∙ used_faces c.args.who c.args.now (ids_used found) c.self.inside.entries.all.items) (rising c.self.inside c.self.inside.entries.all.items c.self.invariant refl)

pub invariant_of-self : goal.invariant_of-self
invariant_of-self c =
    let found : Finding = told c.in_ok-found.found c.as_slice-used.result.now in
    let is = ap (told c.in_ok-found.found) c.as_slice-used.ensures.value ∙ c.in_ok-found.ensures.found in
    let paid = c.pay_uses.ensures.each ∙ ap (λ (es : List PoolEntry). paid_back c.self.inside.entries.ledger.each (filter (λ (e : PoolEntry). is_one_of (ids_used found) e.id && pays_back c.args.who e) es)) c.as_slice.ensures.value in
    let done = looked c.args.who c.args.now c.args.key.now (pool_shown c.self.inside) found c.use_all.new.entries.items c.pin_found.new.entries.items c.pay_uses.new.ledger.each is c.use_all.ensures.entries (c.pin_found.ensures.entries c.as_slice-used.result.now) paid in
    let same = ap faces (c.pin_found.ensures.entries c.as_slice-used.result.now) ∙ pinned_faces c.args.who (ids_pinned found) c.use_all.new.entries.items ∙ ap faces c.use_all.ensures.entries ∙ used_faces c.args.who c.args.now (ids_used found) c.self.inside.entries.all.items in
    let later : c.self.inside.moment < c.args.now = let m = ap (λ (p : PoolState). p.moment) c.self.view_is in omega (arith, m, c.requires.later) in
    kept_on c.self.inside _ c.self.invariant (subst IsPool (sym done) (look_keeps c.args.who c.args.now c.args.key.now (pool_shown c.self.inside) later c.self.invariant.pool))
    refl c.pay_uses.ensures.start c.requires.early (omega (arith, later, c.self.invariant.next)) (omega (arith, later, c.self.invariant.shapes))
    (wide_more c.self.inside.options.places (vec_capacity c.self.inside.entries.all) _ _ _ (vec_capacity c.pin_found.new.entries) (omega (arith, c.use_all.ensures.room, c.pin_found.ensures.room)) c.self.invariant.room) c.self.invariant.lists
    (found_faces c.self.inside.entries.keys c.self.inside.entries.children c.self.inside.entries.parents c.self.inside.entries.all.items c.pin_found.new.entries.items same c.self.invariant.found)
    (bytes_on c.self.inside.entries.bytes c.self.inside.entries.all.items c.pin_found.new.entries.items same c.self.invariant.bytes)

pub returns-clause-pool : goal.returns-clause-pool
returns-clause-pool c =
    let found : Finding = told c.in_ok-found.found c.as_slice-used.result.now in
    let is = ap (told c.in_ok-found.found) c.as_slice-used.ensures.value ∙ c.in_ok-found.ensures.found in
    let paid = c.pay_uses.ensures.each ∙ ap (λ (es : List PoolEntry). paid_back c.self.inside.entries.ledger.each (filter (λ (e : PoolEntry). is_one_of (ids_used found) e.id && pays_back c.args.who e) es)) c.as_slice.ensures.value in
    looked c.args.who c.args.now c.args.key.now (pool_shown c.self.inside) found c.use_all.new.entries.items c.pin_found.new.entries.items c.pay_uses.new.ledger.each is c.use_all.ensures.entries (c.pin_found.ensures.entries c.as_slice-used.result.now) paid
    ∙ ap (after_look c.args.who c.args.now c.args.key.now) c.self.view_is

pub returns-clause-found : goal.returns-clause-found
returns-clause-found c =
    c.in_ok-found.ensures.found ∙ ap (λ (p : PoolState). found_of p.entries c.args.key.now) c.self.view_is

pub returns-clause-values : goal.returns-clause-values
returns-clause-values c =
    subst (λ (es : List PoolEntry). HandsOut es c.in_ok-found.found c.find_whole.new.parts.items) (ap (λ (p : PoolState). p.entries) c.self.view_is) c.in_ok-found.ensures.values

pub returns-clause-options : goal.returns-clause-options
returns-clause-options c = ap (λ (p : PoolState). p.options) c.self.view_is

pub returns-clause-moment : goal.returns-clause-moment
returns-clause-moment c = refl

pub pin_found-requires-clause-session : goal.pin_found-requires-clause-session
pin_found-requires-clause-session c = c.requires.session
