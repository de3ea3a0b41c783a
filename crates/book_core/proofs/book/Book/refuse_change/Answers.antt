use Rattle.std.proofs.Common.{◌∷◌, ◌++◌, [], ap, sym, subst, ◌∙◌, refl, arith, length, List}
use Rattle.std.specs.Prelude.{Some, Err}
use Rattle.sql_tree.specs.Tree.{stmt_tree}
use Rattle.sql_definitions.specs.declared.refusal.Reply.TheVariants.{Refused}
use Rattle.run_log.specs.declared.event.Event.{Event}
use Rattle.run_log.specs.declared.event.Act.{Act}
use Rattle.run_log.specs.declared.event.Act.TheVariants as act
use Rattle.run_log.specs.declared.event.Totals.{Totals}
use Rattle.run_log.specs.Totals.{AreSmall, with_pool}
use Rattle.book_core.specs.declared.book.Book.TheInside.{Inside}
use Rattle.book_core.specs.BookView.{BookView, event_of}
use Rattle.reply_layout.specs.Doings.{code_of, shown_reply}
use Rattle.book_core.specs.Writes.{written_by}
use Rattle.book_core.proofs.BookLemmas.{IsQuiet, small_of}
use Rattle.book_core.proofs.WriteBook.{outcome_inside, refused_book}
use Rattle.book_core.proofs.WriteLemmas.{refused_code}
use Rattle.book_core.proofs.book.Book.refuse_change.Goals as goal

pub count_event-requires : goal.count_event-requires
count_event-requires c = subst AreSmall (sym c.note_work.ensures) (small_of c.self.inside c.self.invariant)

pub invariant_of-self-2 : goal.invariant_of-self-2
invariant_of-self-2 c =
    let b : Inside = c.self.inside in
    let new : Inside = record { store = b.store; pool = b.pool; log = c.push_event.new.log; totals = c.count_event.new.totals; begun = b.begun } in
    let is = outcome_inside b (stmt_tree c.args.stmt) (Err c.args.refusal) c.args.load c.self.view_is c.requires in
    let same = ap (λ (es : List Event). length es) c.in_ok-make_room.ensures.items in
    let quiet : IsQuiet b new (event_of c.args.who (act.Write (Some c.args.stmt) (code_of (shown_reply (Refused c.args.refusal))) 0)) = record {
      log = c.push_event.ensures.items ∙ (λ i. c.in_ok-make_room.ensures.items i ++ c.event.ensures i ∷ []) ∙ ap (λ (a : Act). c.self.inside.log.items ++ event_of c.args.who a ∷ []) c.written.ensures;
      options = refl;
      store = refl;
      begun = refl;
      room = (let room = c.in_ok-make_room.ensures.room in let kept = c.push_event.ensures.room in omega (arith, room, kept, same));
      few = (let few = c.in_ok-make_room.ensures.few in omega (arith, few, same));
    } in
    refused_book b c.self.invariant c.args.stmt c.args.load is.work new c.args.who (code_of (shown_reply (Refused c.args.refusal))) 0 quiet is.formed (refused_code c.args.refusal) refl
    (c.count_event.ensures ∙ ap (λ (t : Totals). with_pool new.pool t) c.note_work.ensures)

pub returns-clause-logged : goal.returns-clause-logged
returns-clause-logged c =
    c.push_event.ensures.items ∙ (λ i. c.in_ok-make_room.ensures.items i ++ c.event.ensures i ∷ []) ∙ ap (λ (a : Act). c.self.inside.log.items ++ event_of c.args.who a ∷ []) c.written.ensures
    ∙ ap (λ (v : BookView). v.log ++ written_by c.args.who c.args.stmt (Refused c.args.refusal) ∷ []) c.self.view_is
