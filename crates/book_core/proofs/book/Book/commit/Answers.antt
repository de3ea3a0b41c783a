use Rattle.std.proofs.Common.{◌≡◌, ◌+◌, ◌<◌, ◌≤◌, ◌^◌, ◌∷◌, ◌++◌, [], ap, sym, ◌∙◌, refl, arith, length, List, subst}
use Rattle.std.specs.Prelude.{Ok, Some}
use Rattle.std.specs.List.{AllByRecursion}
use Rattle.sql_tree.specs.Tree.{stmt_tree}
use Rattle.sql_definitions.specs.declared.refusal.Reply.{Reply}
use Rattle.pool_policy.specs.declared.entry.PoolEntry.{PoolEntry}
use Rattle.pool_policy.specs.declared.touched.Touched.{Touched}
use Rattle.pool_policy.specs.WriteLaws.{IsWrite}
use Rattle.pool_policy.specs.Writes.{write_of}
use Rattle.recycle_pool.specs.Carries.{IsCarried}
use Rattle.run_log.specs.declared.event.Event.{Event}
use Rattle.run_log.specs.declared.event.Act.{Act}
use Rattle.run_log.specs.declared.event.Act.TheVariants as act
use Rattle.run_log.specs.declared.event.Totals.{Totals}
use Rattle.run_log.specs.Totals.{AreSmall, with_pool}
use Rattle.book_core.specs.declared.book.Book.TheInside.{Inside}
use Rattle.book_core.specs.BookView.{BookView, event_of, state_of}
use Rattle.book_core.specs.Kept.{book_shown}
use Rattle.reply_layout.specs.Doings.{code_of, count_of, shown_reply}
use Rattle.book_core.specs.Writes.{IsOutcome, written_by}
use Rattle.book_core.proofs.BookLemmas.{small_of}
use Rattle.book_core.proofs.WriteBook.{back_is, carried_work, change_early, change_fits, change_later, change_prepared, commit_book, few_change, outcome_inside, small_change}
use Rattle.book_core.proofs.WriteLemmas.{done_code}
use Rattle.book_core.proofs.book.Book.commit.Given as Given
use Rattle.book_core.proofs.book.Book.commit.Goals as goal
use Rattle.book_core.proofs.book.Book.commit.Goals.{After-len, After-read_lengths, After-put_carried-dropped, After-push_event}

-- the moment of the event
moment : (g : Given.Over) (c : After-len g) → c.len.result + 1 ≡ length c.self.inside.log.items + 1
moment g c =
    let same = ap (λ (es : List Event). length es) c.in_ok-make_room.ensures.items in
    let n = c.len.ensures in
    omega (arith, n, same)

-- the outcome of the statement over the state that the book keeps
comes : (g : Given.Over) (c : After-len g) → IsOutcome (stmt_tree c.args.stmt) (Ok c.args.ready) c.args.load (state_of (book_shown c.self.inside))
comes g c = outcome_inside c.self.inside (stmt_tree c.args.stmt) (Ok c.args.ready) c.args.load c.self.view_is c.requires.outcome

-- the entries that come back, over the touched of the change
brings : (g : Given.Over) (c : After-read_lengths g) → IsCarried c.args.ready.change.touched (c.len.result + 1) c.self.inside.pool c.in_ok-carried.carried
brings g c = subst (λ (t : Touched). IsCarried t (c.len.result + 1) c.self.inside.pool c.in_ok-carried.carried) c.touched-touched.ensures c.in_ok-carried.ensures.carried

short : (g : Given.Over) (c : After-read_lengths g) → AllByRecursion (λ (e : PoolEntry). length e.value < 2 ^ 62) c.in_ok-carried.carried.entries.items
short g c = subst (AllByRecursion (λ (e : PoolEntry). length e.value < 2 ^ 62)) c.as_slice.ensures.value c.read_lengths.ensures

-- what the pool did is what its policy says of the change
few : (g : Given.Over) (c : After-put_carried-dropped g) → length c.self.inside.pool.entries ≤ 1024
few g c = subst (λ (es : List PoolEntry). length es ≤ 1024) c.entries.ensures.entries c.entries.ensures.few

dropped : (g : Given.Over) (c : After-put_carried-dropped g) → c.put_carried-dropped.result.0 ≡ (write_of c.args.ready.change.touched (c.len.result + 1) c.self.inside.pool).dropped
dropped g c = c.put_carried-dropped.ensures.dropped ∙ ap (λ (t : Touched). (write_of t (c.len.result + 1) c.self.inside.pool).dropped) c.touched-touched.ensures

evicted : (g : Given.Over) (c : After-put_carried-dropped g) → c.put_carried-dropped.result.1 ≡ (write_of c.args.ready.change.touched (c.len.result + 1) c.self.inside.pool).evicted
evicted g c = c.put_carried-dropped.ensures.evicted ∙ ap (λ (t : Touched). (write_of t (c.len.result + 1) c.self.inside.pool).evicted) c.touched-touched.ensures

back : (g : Given.Over) (c : After-put_carried-dropped g) → c.len-back.result ≡ (write_of c.args.ready.change.touched (c.len.result + 1) c.self.inside.pool).carried
back g c =
    let brings = subst (λ (t : Touched). IsCarried t (c.len.result + 1) c.self.inside.pool c.in_ok-carried.carried) c.touched-touched.ensures c.in_ok-carried.ensures.carried in
    let many = back_is c.args.ready.change.touched (c.len.result + 1) c.self.inside.pool c.in_ok-carried.carried brings in
    let n = c.len-back.ensures in
    omega (arith, n, many, c.in_ok-carried.carried.ids.ok.0)

-- the event that it adds
logged : (g : Given.Over) (c : After-push_event g) → c.push_event.new.log.items ≡ c.self.inside.log.items ++ event_of c.args.who (act.Write (Some c.args.stmt) (code_of (shown_reply c.reply_to-reply.result)) (count_of (shown_reply c.reply_to-reply.result))) ∷ []
logged g c = c.push_event.ensures.items ∙ (λ i. c.in_ok-make_room.ensures.items i ++ c.event.ensures i ∷ []) ∙ ap (λ (a : Act). c.self.inside.log.items ++ event_of c.args.who a ∷ []) c.written.ensures

pub put_carried-dropped-requires-clause-later : goal.put_carried-dropped-requires-clause-later
put_carried-dropped-requires-clause-later g c =
    let a = (goal.at.put_carried-dropped-requires-clause-later g c).After-len in
    change_later c.self.inside c.self.invariant c.args.stmt c.args.ready c.args.load (comes g a) (c.len.result + 1) (moment g a)

pub put_carried-dropped-requires-clause-early : goal.put_carried-dropped-requires-clause-early
put_carried-dropped-requires-clause-early g c =
    let a = (goal.at.put_carried-dropped-requires-clause-early g c).After-len in
    change_early c.self.inside c.self.invariant c.args.stmt c.args.ready c.args.load (comes g a) (c.len.result + 1) (moment g a)

pub put_carried-dropped-requires-clause-write : goal.put_carried-dropped-requires-clause-write
put_carried-dropped-requires-clause-write g c =
    let a = (goal.at.put_carried-dropped-requires-clause-write g c).After-len in
    let r = (goal.at.put_carried-dropped-requires-clause-write g c).After-read_lengths in
    subst (λ (t : Touched). IsWrite t (c.len.result + 1) c.self.inside.pool) (sym c.touched-touched.ensures)
    (change_fits c.self.inside c.self.invariant c.args.stmt c.args.ready c.args.load (comes g a) (c.len.result + 1) (moment g a) c.in_ok-carried.carried (brings g r) (short g r))

pub apply-requires : goal.apply-requires
apply-requires g c =
    let a = (goal.at.apply-requires g c).After-len in
    change_prepared c.self.inside c.self.invariant c.args.stmt c.args.ready c.args.load (comes g a) (c.len.result + 1) (moment g a)

pub count_write-requires-clause-small : goal.count_write-requires-clause-small
count_write-requires-clause-small g c = small_of c.self.inside c.self.invariant

pub count_write-requires-clause-few : goal.count_write-requires-clause-few
count_write-requires-clause-few g c =
    let a = (goal.at.count_write-requires-clause-few g c).After-len in
    let p = (goal.at.count_write-requires-clause-few g c).After-put_carried-dropped in
    let all = few_change c.self.inside c.self.invariant c.args.stmt c.args.ready c.args.load (comes g a) (c.len.result + 1) (moment g a) (few g p) in
    let went = dropped g p in
    let gone = evicted g p in
    let came = back g p in
    omega (arith, all, went, gone, came)

pub count_event-requires : goal.count_event-requires
count_event-requires g c =
    let a = (goal.at.count_event-requires g c).After-len in
    let r = (goal.at.count_event-requires g c).After-read_lengths in
    let p = (goal.at.count_event-requires g c).After-put_carried-dropped in
    subst AreSmall (sym c.count_write.ensures)
    (small_change c.self.inside c.self.invariant c.args.stmt c.args.ready c.args.load (comes g a) (c.len.result + 1) (moment g a) c.in_ok-carried.carried (brings g r) (short g r) c.put_carried-dropped.result.0 c.len-back.result c.put_carried-dropped.result.1 (few g p) (dropped g p) (back g p) (evicted g p))

pub invariant_of-self-2 : goal.invariant_of-self-2
invariant_of-self-2 g c =
    let a = (goal.at.invariant_of-self-2 g c).After-len in
    let r = (goal.at.invariant_of-self-2 g c).After-read_lengths in
    let p = (goal.at.invariant_of-self-2 g c).After-put_carried-dropped in
    let b : Inside = c.self.inside in
    let same = ap (λ (es : List Event). length es) c.in_ok-make_room.ensures.items in
    let new : Inside = record { store = c.apply.new.self; pool = c.put_carried-dropped.new.self; log = c.push_event.new.log; totals = c.count_event.new.totals; begun = b.begun } in
    commit_book b c.self.invariant c.args.stmt c.args.ready c.args.load (comes g a) (c.len.result + 1) (moment g a) c.in_ok-carried.carried (brings g r) (short g r) new c.args.who (code_of (shown_reply c.reply_to-reply.result)) (count_of (shown_reply c.reply_to-reply.result)) c.put_carried-dropped.result.0 c.len-back.result c.put_carried-dropped.result.1
    (ap (λ (r : Reply). code_of (shown_reply r)) c.reply_to-reply.ensures ∙ done_code c.args.ready.rows)
    (logged g (goal.at.invariant_of-self-2 g c).After-push_event)
    c.put_carried-dropped.ensures.options refl
    (let room = c.in_ok-make_room.ensures.room in let kept = c.push_event.ensures.room in omega (arith, room, kept, same))
    (let early = c.in_ok-make_room.ensures.few in omega (arith, early, same)) (few g p)
    (c.put_carried-dropped.ensures.pool ∙ ap (λ (t : Touched). (write_of t (c.len.result + 1) b.pool).pool) c.touched-touched.ensures)
    c.apply.ensures.db c.apply.ensures.touched c.apply.ensures.others (dropped g p) (back g p) (evicted g p)
    (c.count_event.ensures ∙ ap (λ (t : Totals). with_pool new.pool t) c.count_write.ensures)

pub returns-clause-logged : goal.returns-clause-logged
returns-clause-logged g c =
    logged g (goal.at.returns-clause-logged g c).After-push_event ∙ ap (λ (v : BookView). v.log ++ written_by c.args.who c.args.stmt c.reply_to-reply.result ∷ []) c.self.view_is

pub returns-clause-counted : goal.returns-clause-counted
returns-clause-counted g c =
    let a = (goal.at.returns-clause-counted g c).After-len in
    let r = (goal.at.returns-clause-counted g c).After-read_lengths in
    carried_work c.self.inside c.self.invariant c.args.stmt c.args.ready c.args.load (comes g a) (c.len.result + 1) (moment g a) c.in_ok-carried.carried (brings g r) (short g r) c.self.view_is c.args.steps.now c.carry.new.steps c.in_ok-carried.ensures.counted
