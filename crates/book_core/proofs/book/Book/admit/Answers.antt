use Rattle.std.proofs.Common.{◌≡◌, ◌+◌, ◌∷◌, ◌++◌, [], ap, sym, ◌∙◌, refl, arith, length, subst, List}
use Rattle.lineage_key.specs.declared.key.Key.{Key}
use Rattle.pool_policy.specs.declared.options.Admitted.{Admitted}
use Rattle.pool_policy.specs.Pool.{PoolState}
use Rattle.pool_policy.specs.Admits.{admit_of}
use Rattle.run_log.specs.declared.event.Event.{Event}
use Rattle.run_log.specs.declared.event.Act.TheVariants as act
use Rattle.run_log.specs.declared.event.Totals.{Totals}
use Rattle.run_log.specs.Fold.{key_offer}
use Rattle.run_log.specs.Totals.{AreSmall, with_pool}
use Rattle.book_core.specs.declared.book.Book.TheInside.{Inside}
use Rattle.book_core.specs.BookView.{BookView, event_of, now_of, state_of}
use Rattle.book_core.specs.Kept.{book_shown}
use Rattle.book_core.proofs.AdmitBook.{admit_book, admit_done, admit_fits, admit_gone, admit_is, can_inside, small_admission}
use Rattle.book_core.proofs.BookLemmas.{IsQuiet, at_of, later_of, small_of}
use Rattle.book_core.proofs.book.Book.admit.Goals as goal

pub admit-requires-clause-later : goal.admit-requires-clause-later
admit-requires-clause-later g c =
    let early = later_of c.self.inside c.self.invariant in
    let same = ap (λ (es : List Event). length es) c.in_ok-make_room.ensures.items in
    let long = c.len.ensures in omega (arith, early, same, long)

pub admit-requires-clause-fits : goal.admit-requires-clause-fits
admit-requires-clause-fits g c =
    let can = can_inside c.self.inside c.args.key c.args.value c.args.work c.self.view_is c.requires.offer in
    admit_fits c.self.inside c.self.invariant c.args.key c.args.value c.args.work c.present_of-present.result can c.present_of-present.ensures

pub note_admission-requires-clause-small : goal.note_admission-requires-clause-small
note_admission-requires-clause-small g c = small_of c.self.inside c.self.invariant

pub note_admission-requires-clause-gone : goal.note_admission-requires-clause-gone
note_admission-requires-clause-gone g c =
    let b : Inside = c.self.inside in
    let can = can_inside b c.args.key c.args.value c.args.work c.self.view_is c.requires.offer in
    let same = ap (λ (es : List Event). length es) c.in_ok-make_room.ensures.items in
    let long : c.len.result ≡ length b.log.items = (let n = c.len.ensures in omega (arith, n, same)) in
    let done = admit_done b c.self.invariant c.args.key c.args.value c.args.work c.present_of-present.result can c.present_of-present.ensures c.args.who c.len.result (c.in_ok-result.result, c.admit.new.self) long c.in_ok-result.ensures.done in
    let gone = admit_gone b c.self.invariant c.args.key c.args.value c.args.work c.present_of-present.result can c.present_of-present.ensures c.args.who (c.in_ok-result.result, c.admit.new.self) done c.entries.ensures.entries c.entries.ensures.few in
    omega (arith, gone)

pub count_event-requires : goal.count_event-requires
count_event-requires g c =
    let b : Inside = c.self.inside in
    let can = can_inside b c.args.key c.args.value c.args.work c.self.view_is c.requires.offer in
    let same = ap (λ (es : List Event). length es) c.in_ok-make_room.ensures.items in
    let long : c.len.result ≡ length b.log.items = (let n = c.len.ensures in omega (arith, n, same)) in
    let done = admit_done b c.self.invariant c.args.key c.args.value c.args.work c.present_of-present.result can c.present_of-present.ensures c.args.who c.len.result (c.in_ok-result.result, c.admit.new.self) long c.in_ok-result.ensures.done in
    let gone = admit_gone b c.self.invariant c.args.key c.args.value c.args.work c.present_of-present.result can c.present_of-present.ensures c.args.who (c.in_ok-result.result, c.admit.new.self) done c.entries.ensures.entries c.entries.ensures.few in
    subst AreSmall (sym c.note_admission.ensures) (small_admission b c.self.invariant c.args.key c.args.value c.args.work c.present_of-present.result can c.present_of-present.ensures c.in_ok-result.result gone)

pub invariant_of-self-2 : goal.invariant_of-self-2
invariant_of-self-2 g c =
    let b : Inside = c.self.inside in
    let new : Inside = record { store = c.self.inside.store; pool = c.admit.new.self; log = c.push_event.new.log; totals = c.count_event.new.totals; begun = c.self.inside.begun } in
    let can = can_inside b c.args.key c.args.value c.args.work c.self.view_is c.requires.offer in
    let same = ap (λ (es : List Event). length es) c.in_ok-make_room.ensures.items in
    let long : c.len.result ≡ length b.log.items = (let n = c.len.ensures in omega (arith, n, same)) in
    let done = admit_done b c.self.invariant c.args.key c.args.value c.args.work c.present_of-present.result can c.present_of-present.ensures c.args.who c.len.result (c.in_ok-result.result, c.admit.new.self) long c.in_ok-result.ensures.done in
    let gone = admit_gone b c.self.invariant c.args.key c.args.value c.args.work c.present_of-present.result can c.present_of-present.ensures c.args.who (c.in_ok-result.result, c.admit.new.self) done c.entries.ensures.entries c.entries.ensures.few in
    let quiet : IsQuiet b new (event_of c.args.who (act.Admit c.args.instr c.args.key c.in_ok-result.result)) = record {
      log = c.push_event.ensures.items ∙ (λ i. c.in_ok-make_room.ensures.items i ++ c.event.ensures i ∷ [])
          ∙ ap (λ (k : Key). b.log.items ++ event_of c.args.who (act.Admit c.args.instr k c.in_ok-result.result) ∷ []) c.in_ok-named.ensures;
      options = c.in_ok-result.ensures.options;
      store = refl;
      begun = refl;
      room = (let room = c.in_ok-make_room.ensures.room in let kept = c.push_event.ensures.room in omega (arith, room, kept, same));
      few = (let few = c.in_ok-make_room.ensures.few in omega (arith, few, same));
    } in
    admit_book b c.self.invariant c.args.key c.args.value c.args.work c.present_of-present.result can c.present_of-present.ensures new c.args.who c.args.instr c.in_ok-result.result quiet gone
    (admit_is b c.self.invariant c.args.key c.args.value c.args.work c.present_of-present.result can c.present_of-present.ensures c.args.who (c.in_ok-result.result, c.admit.new.self) done)
    (c.count_event.ensures ∙ ap (λ (t : Totals). with_pool new.pool t) c.note_admission.ensures)

pub returns-clause-answer : goal.returns-clause-answer
returns-clause-answer g c =
    let b : Inside = c.self.inside in
    let can = can_inside b c.args.key c.args.value c.args.work c.self.view_is c.requires.offer in
    let same = ap (λ (es : List Event). length es) c.in_ok-make_room.ensures.items in
    let long : c.len.result ≡ length b.log.items = (let n = c.len.ensures in omega (arith, n, same)) in
    let done = admit_done b c.self.invariant c.args.key c.args.value c.args.work c.present_of-present.result can c.present_of-present.ensures c.args.who c.len.result (c.in_ok-result.result, c.admit.new.self) long c.in_ok-result.ensures.done in
    ap (λ (a : Admitted × PoolState). a.0) (admit_is b c.self.invariant c.args.key c.args.value c.args.work c.present_of-present.result can c.present_of-present.ensures c.args.who (c.in_ok-result.result, c.admit.new.self) done)
    ∙ ap (λ n. (admit_of c.args.who (n + 1) (key_offer c.args.key (state_of (book_shown b))) (state_of (book_shown b)).pool).0) (at_of b)
    ∙ ap (λ (v : BookView). (admit_of c.args.who (now_of v) (key_offer c.args.key (state_of v)) (state_of v).pool).0) c.self.view_is
