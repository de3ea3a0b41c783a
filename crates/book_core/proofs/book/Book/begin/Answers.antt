use Rattle.std.proofs.Common.{◌∷◌, ◌++◌, [], ap, ◌∙◌, refl, arith, length, true, List}
use Rattle.std.specs.Prelude.{slice_set}
use Rattle.run_log.specs.declared.event.Event.{Event}
use Rattle.book_core.specs.declared.book.Book.TheInside.{Inside}
use Rattle.book_core.proofs.BookLemmas.{begin_book, small_of}
use Rattle.book_core.proofs.book.Book.begin.Goals as goal

pub count_event-requires : goal.count_event-requires
count_event-requires c = small_of c.self.inside c.self.invariant

pub invariant_of-self-2 : goal.invariant_of-self-2
invariant_of-self-2 c =
    let old : Inside = c.self.inside in
    let new : Inside = record { store = c.self.inside.store; pool = c.reserve.new.self; log = c.push_event.new.log; totals = c.count_event.new.totals; begun = slice_set c.self.inside.begun c.args.who.session true } in
    let same = ap (λ (es : List Event). length es) c.in_ok-make_room.ensures.items in
    begin_book old new c.args.who c.code_of.result c.in_ok-plan_to_log.field-0 c.requires.session c.self.invariant
    (c.push_event.ensures.items ∙ (λ i. c.in_ok-make_room.ensures.items i ++ c.event.ensures i ∷ []))
    (let room = c.in_ok-make_room.ensures.room in let kept = c.push_event.ensures.room in omega (arith, room, kept, same))
    (let few = c.in_ok-make_room.ensures.few in omega (arith, few, same)) c.in_ok-reserve.ensures refl c.count_event.ensures refl
