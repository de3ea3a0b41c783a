-- An admission of what is new leaves what the policy says.
use Rattle.std.proofs.Common.{◌≡◌, ◌+◌, ◌-◌, ◌<◌, ◌++◌, [], ◌∷◌, List, length, ap, sym, ◌∙◌, subst, refl, arith}
use Rattle.std.specs.Prelude.{ℕ, ◌==◌, ◌&&◌, filter}
use Rattle.evict_admit.specs.Runs.{is_one_of}
use Rattle.pool_policy.specs.declared.entry.PoolEntry.{PoolEntry}
use Rattle.pool_policy.specs.Pool.{PoolState, has_credits}
use Rattle.pool_policy.specs.Keyed.{shape_in}
use Rattle.pool_policy.specs.Looks.{paid_back}
use Rattle.pool_policy.specs.Admits.{Offer, admit_of, credit_of, left_without, one_less, pays_at_end}
use Rattle.pool_policy.specs.Keeps.{IsOffer}
use Rattle.pool_policy.proofs.Leaving.{bytes_left}
use Rattle.pool_policy.specs.Scorers.{rule_of}
use Rattle.recycle_pool.specs.Answers.{offer_in}
use Rattle.recycle_pool.specs.Usable.{IsNew}
use Rattle.recycle_pool.specs.Views.{pool_shown}
use Rattle.recycle_pool.proofs.Admissions.{few_shapes, ids_on, one_id_more, plannable, run_from, shaped_from}
use Rattle.recycle_pool.proofs.Answered.{no_credit_is, no_room_is, owed_shaped, place_left, said_keeps, spent_is, taken_is}
use Rattle.recycle_pool.proofs.Looked.{rising}
use Rattle.recycle_pool.proofs.Placing.{room_within, wide_within}
use Rattle.recycle_pool.proofs.Totals.{bytes_more}
use Rattle.recycle_pool.proofs.Stands.{kept_on}
use Rattle.recycle_pool.proofs.pool.Pool.admit_new.Goals as goal

pub give_number-requires-clause-rising : goal.give_number-requires-clause-rising
give_number-requires-clause-rising g c = rising c.self.inside c.as_slice.result.now c.self.invariant c.as_slice.ensures.value

pub invariant_of-self-then-is_spent : goal.invariant_of-self-then-is_spent
invariant_of-self-then-is_spent g c =
    let pool : PoolState = pool_shown c.self.inside in
    let offer : Offer = offer_in c.args.offered in
    let shown : c.as_slice.result.now ≡ c.self.inside.entries.all.items = c.as_slice.ensures.value in
    let new : IsNew offer pool = subst (IsNew offer) (sym c.self.view_is) c.requires.new in
    let shaped = shaped_from c.args.who c.args.now offer c.self.inside c.as_slice.result.now c.in_ok-shape.shape c.give_number.new.shapes.items c.give_number.new.ledger.each c.self.invariant shown new c.in_ok-shape.ensures.shapes c.in_ok-shape.ensures.each c.in_ok-shape.ensures.number in
    let test = spent_is (has_credits c.self.inside.options) c.is_spent.result c.in_ok-shape.shape c.give_number.new.ledger.each c.in_ok-shape.ensures.marked c.in_ok-shape.ensures.none c.is_spent.ensures.spent c.is_spent.ensures.none in
    let later : c.self.inside.moment < c.args.now = let m = ap (λ (p : PoolState). p.moment) c.self.view_is in omega (arith, m, c.requires.later) in
    let fits = subst (λ (p : PoolState). IsOffer p offer) (sym c.self.view_is) c.requires.fits in
    let done = no_credit_is c.args.who c.args.now offer pool c.self.inside.entries.ledger.start c.in_ok-shape.shape c.give_number.new.shapes.items c.give_number.new.ledger.each shaped c.is_spent.result test c.if-is_spent.true in
    kept_on c.self.inside _ c.self.invariant (said_keeps c.args.who c.args.now offer pool _ _ done later c.self.invariant.pool fits) refl c.give_number.ensures.start c.requires.early (ids_on c.self.inside.next c.self.inside.moment c.args.now c.self.invariant.next later) (few_shapes c.self.inside c.args.now (shape_in c.as_slice.result.now c.args.offered.key) (has_credits c.self.inside.options) c.give_number.new.shapes.items c.self.invariant later c.in_ok-shape.ensures.shapes) c.self.invariant.room c.self.invariant.lists c.self.invariant.found c.self.invariant.bytes

pub returns-then-is_spent-clause-done : goal.returns-then-is_spent-clause-done
returns-then-is_spent-clause-done g c =
    let pool : PoolState = pool_shown c.self.inside in
    let offer : Offer = offer_in c.args.offered in
    let shown : c.as_slice.result.now ≡ c.self.inside.entries.all.items = c.as_slice.ensures.value in
    let new : IsNew offer pool = subst (IsNew offer) (sym c.self.view_is) c.requires.new in
    let shaped = shaped_from c.args.who c.args.now offer c.self.inside c.as_slice.result.now c.in_ok-shape.shape c.give_number.new.shapes.items c.give_number.new.ledger.each c.self.invariant shown new c.in_ok-shape.ensures.shapes c.in_ok-shape.ensures.each c.in_ok-shape.ensures.number in
    let test = spent_is (has_credits c.self.inside.options) c.is_spent.result c.in_ok-shape.shape c.give_number.new.ledger.each c.in_ok-shape.ensures.marked c.in_ok-shape.ensures.none c.is_spent.ensures.spent c.is_spent.ensures.none in
    no_credit_is c.args.who c.args.now offer pool c.self.inside.entries.ledger.start c.in_ok-shape.shape c.give_number.new.shapes.items c.give_number.new.ledger.each shaped c.is_spent.result test c.if-is_spent.true ∙ ap (admit_of c.args.who c.args.now (offer_in c.args.offered)) c.self.view_is

pub make_room-enough-requires-clause-plan : goal.make_room-enough-requires-clause-plan
make_room-enough-requires-clause-plan g c = plannable c.args.now c.self.inside c.self.invariant c.requires.early

pub make_room-enough-requires-clause-room : goal.make_room-enough-requires-clause-room
make_room-enough-requires-clause-room g c = room_within _ c.self.inside.options.places _ c.self.invariant.pool.places c.self.invariant.lists

pub make_room-enough-requires-clause-beside : goal.make_room-enough-requires-clause-beside
make_room-enough-requires-clause-beside g c = c.self.invariant.found.beside

pub make_room-enough-requires-clause-counted : goal.make_room-enough-requires-clause-counted
make_room-enough-requires-clause-counted g c = c.self.invariant.bytes

pub make_room-enough-requires-clause-small : goal.make_room-enough-requires-clause-small
make_room-enough-requires-clause-small g c = omega (arith, c.self.invariant.bytes, c.self.invariant.pool.bytes, c.self.invariant.budget)

pub invariant_of-self-then-not-enough : goal.invariant_of-self-then-not-enough
invariant_of-self-then-not-enough g c =
    let pool : PoolState = pool_shown c.self.inside in
    let offer : Offer = offer_in c.args.offered in
    let shown : c.as_slice.result.now ≡ c.self.inside.entries.all.items = c.as_slice.ensures.value in
    let new : IsNew offer pool = subst (IsNew offer) (sym c.self.view_is) c.requires.new in
    let shaped = shaped_from c.args.who c.args.now offer c.self.inside c.as_slice.result.now c.in_ok-shape.shape c.give_number.new.shapes.items c.give_number.new.ledger.each c.self.invariant shown new c.in_ok-shape.ensures.shapes c.in_ok-shape.ensures.each c.in_ok-shape.ensures.number in
    let test = spent_is (has_credits c.self.inside.options) c.is_spent.result c.in_ok-shape.shape c.give_number.new.ledger.each c.in_ok-shape.ensures.marked c.in_ok-shape.ensures.none c.is_spent.ensures.spent c.is_spent.ensures.none in
    let later : c.self.inside.moment < c.args.now = let m = ap (λ (p : PoolState). p.moment) c.self.view_is in omega (arith, m, c.requires.later) in
    let fits = subst (λ (p : PoolState). IsOffer p offer) (sym c.self.view_is) c.requires.fits in
    let run = run_from c.args.now c.self.inside offer c.bytes_of-bytes.result (c.make_room-enough.new.lists.gone.items, c.make_room-enough.result.0) c.self.invariant c.bytes_of-bytes.ensures.bytes c.make_room-enough.ensures.plan in
    let left = c.make_room-enough.ensures.left in
    let done = no_room_is c.args.who c.args.now offer pool c.self.inside.entries.ledger.start c.in_ok-shape.shape c.give_number.new.shapes.items c.give_number.new.ledger.each shaped c.is_spent.result c.make_room-enough.result.0 test c.if-is_spent.false c.make_room-enough.new.lists.gone.items c.make_room-enough.result.1 c.if-not-enough.true run left in
    kept_on c.self.inside _ c.self.invariant (said_keeps c.args.who c.args.now offer pool _ _ done later c.self.invariant.pool fits) refl c.give_number.ensures.start c.requires.early (ids_on c.self.inside.next c.self.inside.moment c.args.now c.self.invariant.next later) (few_shapes c.self.inside c.args.now (shape_in c.as_slice.result.now c.args.offered.key) (has_credits c.self.inside.options) c.give_number.new.shapes.items c.self.invariant later c.in_ok-shape.ensures.shapes) c.self.invariant.room (c.make_room-enough.ensures.room c.self.inside.options.places c.self.invariant.lists) c.self.invariant.found c.self.invariant.bytes

pub returns-then-not-enough-clause-done : goal.returns-then-not-enough-clause-done
returns-then-not-enough-clause-done g c =
    let pool : PoolState = pool_shown c.self.inside in
    let offer : Offer = offer_in c.args.offered in
    let shown : c.as_slice.result.now ≡ c.self.inside.entries.all.items = c.as_slice.ensures.value in
    let new : IsNew offer pool = subst (IsNew offer) (sym c.self.view_is) c.requires.new in
    let shaped = shaped_from c.args.who c.args.now offer c.self.inside c.as_slice.result.now c.in_ok-shape.shape c.give_number.new.shapes.items c.give_number.new.ledger.each c.self.invariant shown new c.in_ok-shape.ensures.shapes c.in_ok-shape.ensures.each c.in_ok-shape.ensures.number in
    let test = spent_is (has_credits c.self.inside.options) c.is_spent.result c.in_ok-shape.shape c.give_number.new.ledger.each c.in_ok-shape.ensures.marked c.in_ok-shape.ensures.none c.is_spent.ensures.spent c.is_spent.ensures.none in
    let run = run_from c.args.now c.self.inside offer c.bytes_of-bytes.result (c.make_room-enough.new.lists.gone.items, c.make_room-enough.result.0) c.self.invariant c.bytes_of-bytes.ensures.bytes c.make_room-enough.ensures.plan in
    let left = c.make_room-enough.ensures.left in
    no_room_is c.args.who c.args.now offer pool c.self.inside.entries.ledger.start c.in_ok-shape.shape c.give_number.new.shapes.items c.give_number.new.ledger.each shaped c.is_spent.result c.make_room-enough.result.0 test c.if-is_spent.false c.make_room-enough.new.lists.gone.items c.make_room-enough.result.1 c.if-not-enough.true run left ∙ ap (admit_of c.args.who c.args.now (offer_in c.args.offered)) c.self.view_is

pub exchange-requires-clause-owed : goal.exchange-requires-clause-owed
exchange-requires-clause-owed g c = owed_shaped (pool_shown c.self.inside) (shape_in c.as_slice.result.now c.args.offered.key) c.self.inside.entries.ledger.start c.give_number.new.ledger c.self.invariant.pool c.self.invariant.start c.give_number.ensures.start c.in_ok-shape.ensures.each

pub exchange-requires-clause-last : goal.exchange-requires-clause-last
exchange-requires-clause-last g c =
    let shape : c.new_entry-entry.result.shape ≡ c.in_ok-shape.shape = ap (λ (e : PoolEntry). e.shape) c.new_entry-entry.ensures in
    omega (arith, shape, c.in_ok-shape.ensures.last)

pub exchange-requires-clause-first : goal.exchange-requires-clause-first
exchange-requires-clause-first g c =
    let shape : c.new_entry-entry.result.shape ≡ c.in_ok-shape.shape = ap (λ (e : PoolEntry). e.shape) c.new_entry-entry.ensures in
    λ some. let had = c.in_ok-shape.ensures.first some in omega (arith, shape, had)

pub exchange-requires-clause-some : goal.exchange-requires-clause-some
exchange-requires-clause-some g c =
    let shape : c.new_entry-entry.result.shape ≡ c.in_ok-shape.shape = ap (λ (e : PoolEntry). e.shape) c.new_entry-entry.ensures in
    λ low. ap (λ n. credit_of n c.give_number.new.ledger.each == 0) shape ∙ sym (c.is_spent.ensures.spent (omega (arith, shape, low))) ∙ c.if-is_spent.false

pub exchange-requires-clause-found : goal.exchange-requires-clause-found
exchange-requires-clause-found g c = c.self.invariant.found

pub exchange-requires-clause-place : goal.exchange-requires-clause-place
exchange-requires-clause-place g c =
    let pool : PoolState = pool_shown c.self.inside in
    let offer : Offer = offer_in c.args.offered in
    let shown : c.as_slice.result.now ≡ c.self.inside.entries.all.items = c.as_slice.ensures.value in
    let new : IsNew offer pool = subst (IsNew offer) (sym c.self.view_is) c.requires.new in
    let shaped = shaped_from c.args.who c.args.now offer c.self.inside c.as_slice.result.now c.in_ok-shape.shape c.give_number.new.shapes.items c.give_number.new.ledger.each c.self.invariant shown new c.in_ok-shape.ensures.shapes c.in_ok-shape.ensures.each c.in_ok-shape.ensures.number in
    let test = spent_is (has_credits c.self.inside.options) c.is_spent.result c.in_ok-shape.shape c.give_number.new.ledger.each c.in_ok-shape.ensures.marked c.in_ok-shape.ensures.none c.is_spent.ensures.spent c.is_spent.ensures.none in
    let later : c.self.inside.moment < c.args.now = let m = ap (λ (p : PoolState). p.moment) c.self.view_is in omega (arith, m, c.requires.later) in
    let fits = subst (λ (p : PoolState). IsOffer p offer) (sym c.self.view_is) c.requires.fits in
    let run = run_from c.args.now c.self.inside offer c.bytes_of-bytes.result (c.make_room-enough.new.lists.gone.items, c.make_room-enough.result.0) c.self.invariant c.bytes_of-bytes.ensures.bytes c.make_room-enough.ensures.plan in
    let done = taken_is c.args.who c.args.now offer pool c.self.inside.entries.ledger.start c.in_ok-shape.shape c.give_number.new.shapes.items c.give_number.new.ledger.each shaped c.is_spent.result c.make_room-enough.result.0 test c.if-is_spent.false c.make_room-enough.new.lists.gone.items c.bytes_of-bytes.result (length c.make_room-enough.new.lists.gone.items) (left_without c.make_room-enough.new.lists.gone.items c.self.inside.entries.all.items) (left_without c.make_room-enough.new.lists.gone.items c.self.inside.entries.all.items ++ c.new_entry-entry.result ∷ []) c.new_entry-entry.result (paid_back c.give_number.new.ledger.each (filter (λ (e : PoolEntry). is_one_of c.make_room-enough.new.lists.gone.items e.id && pays_at_end e) c.self.inside.entries.all.items)) (one_less (paid_back c.give_number.new.ledger.each (filter (λ (e : PoolEntry). is_one_of c.make_room-enough.new.lists.gone.items e.id && pays_at_end e) c.self.inside.entries.all.items)) c.in_ok-shape.shape) c.if-not-enough.false run c.bytes_of-bytes.ensures.bytes refl refl refl c.new_entry-entry.ensures refl refl in
    let left = place_left c.args.who c.args.now offer pool _ (left_without c.make_room-enough.new.lists.gone.items c.self.inside.entries.all.items) c.new_entry-entry.result _ c.self.invariant.pool done later fits refl refl in
    let same = ap (λ (ids : List ℕ). length (left_without ids c.self.inside.entries.all.items)) c.as_slice-2.ensures.value in
    wide_within _ c.self.inside.options.places _ _ _ _ (omega (arith, same, left)) c.self.invariant.room

pub returns-clause-options : goal.returns-clause-options
returns-clause-options g c = ap (λ (p : PoolState). p.options) c.self.view_is

pub returns-clause-moment : goal.returns-clause-moment
returns-clause-moment g c = refl

pub returns-then-not-enough-clause-options : goal.returns-then-not-enough-clause-options
returns-then-not-enough-clause-options g c = ap (λ (p : PoolState). p.options) c.self.view_is

pub returns-then-not-enough-clause-moment : goal.returns-then-not-enough-clause-moment
returns-then-not-enough-clause-moment g c = refl

pub returns-then-is_spent-clause-options : goal.returns-then-is_spent-clause-options
returns-then-is_spent-clause-options g c = ap (λ (p : PoolState). p.options) c.self.view_is

pub returns-then-is_spent-clause-moment : goal.returns-then-is_spent-clause-moment
returns-then-is_spent-clause-moment g c = refl

pub overflow_add-self-2 : goal.overflow_add-self-2
overflow_add-self-2 g c = omega (arith, c.self.invariant.next, c.self.invariant.moment)

pub new_entry-entry-requires-clause-session : goal.new_entry-entry-requires-clause-session
new_entry-entry-requires-clause-session g c = c.requires.session

pub new_entry-entry-requires-clause-bytes : goal.new_entry-entry-requires-clause-bytes
new_entry-entry-requires-clause-bytes g c = c.bytes_of-bytes.ensures.bytes

pub make_room-enough-requires-clause-scorer : goal.make_room-enough-requires-clause-scorer
make_room-enough-requires-clause-scorer g c = c.requires.scorer ∙ ap (λ (p : PoolState). rule_of p.options) (sym c.self.view_is)

pub overflow_add-self : goal.overflow_add-self
overflow_add-self g c =
    let same = c.make_room-enough.ensures.left in
    let less = bytes_left c.make_room-enough.new.lists.gone.items c.self.inside.entries.all.items in
    omega (arith, same, less, c.self.invariant.pool.bytes, c.self.invariant.budget, c.bytes_of-bytes.ensures.small)

pub invariant_of-self-2 : goal.invariant_of-self-2
invariant_of-self-2 g c =
    let pool : PoolState = pool_shown c.self.inside in
    let offer : Offer = offer_in c.args.offered in
    let shown : c.as_slice.result.now ≡ c.self.inside.entries.all.items = c.as_slice.ensures.value in
    let new : IsNew offer pool = subst (IsNew offer) (sym c.self.view_is) c.requires.new in
    let shaped = shaped_from c.args.who c.args.now offer c.self.inside c.as_slice.result.now c.in_ok-shape.shape c.give_number.new.shapes.items c.give_number.new.ledger.each c.self.invariant shown new c.in_ok-shape.ensures.shapes c.in_ok-shape.ensures.each c.in_ok-shape.ensures.number in
    let test = spent_is (has_credits c.self.inside.options) c.is_spent.result c.in_ok-shape.shape c.give_number.new.ledger.each c.in_ok-shape.ensures.marked c.in_ok-shape.ensures.none c.is_spent.ensures.spent c.is_spent.ensures.none in
    let later : c.self.inside.moment < c.args.now = let m = ap (λ (p : PoolState). p.moment) c.self.view_is in omega (arith, m, c.requires.later) in
    let fits = subst (λ (p : PoolState). IsOffer p offer) (sym c.self.view_is) c.requires.fits in
    let run = run_from c.args.now c.self.inside offer c.bytes_of-bytes.result (c.make_room-enough.new.lists.gone.items, c.make_room-enough.result.0) c.self.invariant c.bytes_of-bytes.ensures.bytes c.make_room-enough.ensures.plan in
    let left = c.make_room-enough.ensures.left in
    let shape : c.new_entry-entry.result.shape ≡ c.in_ok-shape.shape = ap (λ (e : PoolEntry). e.shape) c.new_entry-entry.ensures in
    let entries = c.exchange.ensures.entries ∙ ap (λ (ids : List ℕ). left_without ids c.self.inside.entries.all.items ++ c.new_entry-entry.result ∷ []) c.as_slice-2.ensures.value in
    let paid = c.exchange.ensures.each ∙ (λ i. one_less (paid_back c.give_number.new.ledger.each (filter (λ (e : PoolEntry). is_one_of (c.as_slice-2.ensures.value i) e.id && pays_at_end e) c.self.inside.entries.all.items)) (shape i)) in
    let count : c.len-gone.result ≡ length c.make_room-enough.new.lists.gone.items = omega (arith, c.len-gone.ensures, c.make_room-enough.new.lists.gone.ok.0) in
    let done = taken_is c.args.who c.args.now offer pool c.self.inside.entries.ledger.start c.in_ok-shape.shape c.give_number.new.shapes.items c.give_number.new.ledger.each shaped c.is_spent.result c.make_room-enough.result.0 test c.if-is_spent.false c.make_room-enough.new.lists.gone.items c.bytes_of-bytes.result c.len-gone.result (left_without c.make_room-enough.new.lists.gone.items c.self.inside.entries.all.items) c.exchange.new.self.all.items c.new_entry-entry.result (paid_back c.give_number.new.ledger.each (filter (λ (e : PoolEntry). is_one_of c.make_room-enough.new.lists.gone.items e.id && pays_at_end e) c.self.inside.entries.all.items)) c.exchange.new.self.ledger.each c.if-not-enough.false run c.bytes_of-bytes.ensures.bytes count refl entries c.new_entry-entry.ensures refl paid in
    kept_on c.self.inside _ c.self.invariant (said_keeps c.args.who c.args.now offer pool _ _ done later c.self.invariant.pool fits) refl (c.exchange.ensures.start ∙ c.give_number.ensures.start) c.requires.early (one_id_more c.self.inside.next c.self.inside.moment c.args.now c.self.invariant.next later) (few_shapes c.self.inside c.args.now (shape_in c.as_slice.result.now c.args.offered.key) (has_credits c.self.inside.options) c.give_number.new.shapes.items c.self.invariant later c.in_ok-shape.ensures.shapes) (c.exchange.ensures.room c.self.inside.options.places c.self.invariant.room) (c.make_room-enough.ensures.room c.self.inside.options.places c.self.invariant.lists)
    c.exchange.ensures.found
    (bytes_more c.make_room-enough.result.1 c.bytes_of-bytes.result (left_without c.make_room-enough.new.lists.gone.items c.self.inside.entries.all.items) c.exchange.new.self.all.items c.new_entry-entry.result left (c.bytes_of-bytes.ensures.bytes ∙ ap (λ (e : PoolEntry). e.bytes) (sym c.new_entry-entry.ensures)) entries)

pub returns-clause-done : goal.returns-clause-done
returns-clause-done g c =
    let pool : PoolState = pool_shown c.self.inside in
    let offer : Offer = offer_in c.args.offered in
    let shown : c.as_slice.result.now ≡ c.self.inside.entries.all.items = c.as_slice.ensures.value in
    let new : IsNew offer pool = subst (IsNew offer) (sym c.self.view_is) c.requires.new in
    let shaped = shaped_from c.args.who c.args.now offer c.self.inside c.as_slice.result.now c.in_ok-shape.shape c.give_number.new.shapes.items c.give_number.new.ledger.each c.self.invariant shown new c.in_ok-shape.ensures.shapes c.in_ok-shape.ensures.each c.in_ok-shape.ensures.number in
    let test = spent_is (has_credits c.self.inside.options) c.is_spent.result c.in_ok-shape.shape c.give_number.new.ledger.each c.in_ok-shape.ensures.marked c.in_ok-shape.ensures.none c.is_spent.ensures.spent c.is_spent.ensures.none in
    let run = run_from c.args.now c.self.inside offer c.bytes_of-bytes.result (c.make_room-enough.new.lists.gone.items, c.make_room-enough.result.0) c.self.invariant c.bytes_of-bytes.ensures.bytes c.make_room-enough.ensures.plan in
    let shape : c.new_entry-entry.result.shape ≡ c.in_ok-shape.shape = ap (λ (e : PoolEntry). e.shape) c.new_entry-entry.ensures in
    let entries = c.exchange.ensures.entries ∙ ap (λ (ids : List ℕ). left_without ids c.self.inside.entries.all.items ++ c.new_entry-entry.result ∷ []) c.as_slice-2.ensures.value in
    let paid = c.exchange.ensures.each ∙ (λ i. one_less (paid_back c.give_number.new.ledger.each (filter (λ (e : PoolEntry). is_one_of (c.as_slice-2.ensures.value i) e.id && pays_at_end e) c.self.inside.entries.all.items)) (shape i)) in
    let count : c.len-gone.result ≡ length c.make_room-enough.new.lists.gone.items = omega (arith, c.len-gone.ensures, c.make_room-enough.new.lists.gone.ok.0) in
    taken_is c.args.who c.args.now offer pool c.self.inside.entries.ledger.start c.in_ok-shape.shape c.give_number.new.shapes.items c.give_number.new.ledger.each shaped c.is_spent.result c.make_room-enough.result.0 test c.if-is_spent.false c.make_room-enough.new.lists.gone.items c.bytes_of-bytes.result c.len-gone.result (left_without c.make_room-enough.new.lists.gone.items c.self.inside.entries.all.items) c.exchange.new.self.all.items c.new_entry-entry.result (paid_back c.give_number.new.ledger.each (filter (λ (e : PoolEntry). is_one_of c.make_room-enough.new.lists.gone.items e.id && pays_at_end e) c.self.inside.entries.all.items)) c.exchange.new.self.ledger.each c.if-not-enough.false run c.bytes_of-bytes.ensures.bytes count refl entries c.new_entry-entry.ensures refl paid ∙ ap (admit_of c.args.who c.args.now (offer_in c.args.offered)) c.self.view_is
