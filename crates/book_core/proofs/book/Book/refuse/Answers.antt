use Rattle.std.proofs.Common.{◌≡◌, ◌∷◌, ◌++◌, [], ap, ◌∙◌, subst, refl, arith, length, List}
use Rattle.std.specs.Prelude.{None}
use Rattle.run_log.specs.declared.event.Event.{Event}
use Rattle.run_log.specs.declared.event.Act.TheVariants as act
use Rattle.book_core.specs.declared.book.Book.TheInside.{Inside}
use Rattle.book_core.specs.BookView.{BookView, event_of, state_of}
use Rattle.book_core.specs.Kept.{book_shown}
use Rattle.book_core.specs.Writes.{IsUntouched}
use Rattle.book_core.proofs.WriteBook.{text_keeps}
use Rattle.book_core.proofs.BookLemmas.{IsQuiet, small_of, text_book}
use Rattle.book_core.proofs.book.Book.refuse.Goals as goal

pub count_event-requires : goal.count_event-requires
count_event-requires c = small_of c.self.inside c.self.invariant

pub invariant_of-self-2 : goal.invariant_of-self-2
invariant_of-self-2 c =
    let old : Inside = c.self.inside in
    let new : Inside = record { store = old.store; pool = old.pool; log = c.push_event.new.log; totals = c.count_event.new.totals; begun = old.begun } in
    let same = ap (λ (es : List Event). length es) c.in_ok-make_room.ensures.items in
    let quiet : IsQuiet old new (event_of c.args.who (act.Write None c.number.result 0)) = record {
      log = c.push_event.ensures.items ∙ (λ i. c.in_ok-make_room.ensures.items i ++ c.event.ensures i ∷ []);
      options = refl;
      store = refl;
      begun = refl;
      room = (let room = c.in_ok-make_room.ensures.room in let kept = c.push_event.ensures.room in omega (arith, room, kept, same));
      few = (let few = c.in_ok-make_room.ensures.few in omega (arith, few, same));
    } in
    text_book old new c.args.who c.number.result c.self.invariant quiet refl c.count_event.ensures

pub returns-clause-refused : goal.returns-clause-refused
returns-clause-refused c =
    let old : Inside = c.self.inside in
    let new : Inside = record { store = old.store; pool = old.pool; log = c.push_event.new.log; totals = c.count_event.new.totals; begun = old.begun } in
    let logged : new.log.items ≡ old.log.items ++ event_of c.args.who (act.Write None c.number.result 0) ∷ [] = c.push_event.ensures.items ∙ (λ i. c.in_ok-make_room.ensures.items i ++ c.event.ensures i ∷ []) in
    subst (λ (v : BookView). IsUntouched (state_of v) (state_of (book_shown new))) c.self.view_is (text_keeps (book_shown old) (book_shown new) c.args.who c.number.result refl logged)
