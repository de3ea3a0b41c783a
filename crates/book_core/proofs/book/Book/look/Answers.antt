use Rattle.std.proofs.Common.{◌≡◌, ◌+◌, ◌∷◌, ◌++◌, [], ap, sym, ◌∙◌, refl, arith, length, subst, List}
use Rattle.pool_policy.specs.Looks.{after_look, look_of}
use Rattle.pool_policy.specs.Pool.{PoolState}
use Rattle.run_log.specs.declared.event.Event.{Event}
use Rattle.run_log.specs.declared.event.Act.TheVariants as act
use Rattle.run_log.specs.declared.event.FoundLog.{FoundLog}
use Rattle.run_log.specs.declared.event.Totals.{Totals}
use Rattle.run_log.specs.Events.{looked_of}
use Rattle.run_log.specs.Totals.{AreSmall, with_pool}
use Rattle.book_core.specs.declared.book.Book.TheInside.{Inside}
use Rattle.book_core.specs.BookView.{BookView, event_of, state_of}
use Rattle.book_core.specs.Kept.{book_shown}
use Rattle.book_core.proofs.BookLemmas.{IsQuiet, later_of, look_book, small_look, small_of}
use Rattle.book_core.proofs.LookedLemmas.{looked_is}
use Rattle.book_core.proofs.book.Book.look.Goals as goal

pub look-requires-clause-later : goal.look-requires-clause-later
look-requires-clause-later c =
    let early = later_of c.self.inside c.self.invariant in
    let same = ap (λ (es : List Event). length es) c.in_ok-make_room.ensures.items in
    let long = c.len.ensures in omega (arith, early, same, long)

pub note_look-requires : goal.note_look-requires
note_look-requires c = small_of c.self.inside c.self.invariant

pub count_event-requires : goal.count_event-requires
count_event-requires c = subst AreSmall (sym c.note_look.ensures) (small_look c.self.inside c.looked-looked.result c.self.invariant)

pub invariant_of-self-2 : goal.invariant_of-self-2
invariant_of-self-2 c =
    let old : Inside = c.self.inside in
    let new : Inside = record { store = c.self.inside.store; pool = c.look.new.self; log = c.push_event.new.log; totals = c.count_event.new.totals; begun = c.self.inside.begun } in
    let same = ap (λ (es : List Event). length es) c.in_ok-make_room.ensures.items in
    let long : c.len.result ≡ length old.log.items = (let n = c.len.ensures in omega (arith, n, same)) in
    let quiet : IsQuiet old new (event_of c.args.who (act.Look c.args.instr c.args.key c.looked-looked.result)) = record {
      log = c.push_event.ensures.items ∙ (λ i. c.in_ok-make_room.ensures.items i ++ c.event.ensures i ∷ []);
      options = c.in_ok-found.ensures.options;
      store = refl;
      begun = refl;
      room = (let room = c.in_ok-make_room.ensures.room in let kept = c.push_event.ensures.room in omega (arith, room, kept, same));
      few = (let few = c.in_ok-make_room.ensures.few in omega (arith, few, same));
    } in
    look_book old new c.args.who c.args.instr c.args.key c.looked-looked.result c.self.invariant quiet
    (c.in_ok-found.ensures.pool ∙ ap (λ n. after_look c.args.who (n + 1) c.args.key old.pool) long)
    (c.count_event.ensures ∙ ap (λ (t : Totals). with_pool new.pool t) c.note_look.ensures)

pub returns-clause-logged : goal.returns-clause-logged
returns-clause-logged c =
    let finding : c.looked-looked.result ≡ looked_of (look_of (state_of (book_shown c.self.inside)).pool c.args.key) =
    c.looked-looked.ensures ∙ looked_is _ c.in_ok-found.found c.look.new.parts.items c.in_ok-found.ensures.values ∙ ap looked_of c.in_ok-found.ensures.found
    ∙ ap (λ (p : PoolState). looked_of (look_of p c.args.key)) (sym c.self.invariant.state.pool) in
    c.push_event.ensures.items ∙ (λ i. c.in_ok-make_room.ensures.items i ++ c.event.ensures i ∷ [])
    ∙ ap (λ (found : FoundLog). c.self.inside.log.items ++ event_of c.args.who (act.Look c.args.instr c.args.key found) ∷ []) finding
    ∙ ap (λ (v : BookView). v.log ++ event_of c.args.who (act.Look c.args.instr c.args.key (looked_of (look_of (state_of v).pool c.args.key))) ∷ []) c.self.view_is
