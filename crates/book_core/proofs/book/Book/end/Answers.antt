use Rattle.std.proofs.Common.{◌≡◌, ◌∷◌, ◌++◌, [], ap, sym, subst, ◌∙◌, refl, true, false}
use Rattle.std.specs.Prelude.{slice_set}
use Rattle.run_log.specs.declared.event.Event.{Event}
use Rattle.book_core.specs.declared.book.Book.TheInside.{Inside}
use Rattle.book_core.specs.BookView.{BookView, is_open}
use Rattle.book_core.proofs.BookLemmas.{end_book, small_of}
use Rattle.book_core.proofs.book.Book.end.Goals as goal

pub count_event-requires : goal.count_event-requires
count_event-requires c = small_of c.self.inside c.self.invariant

pub invariant_of-self : goal.invariant_of-self
invariant_of-self c =
    let new : Inside = record { store = c.self.inside.store; pool = c.release.new.self; log = c.push_event.new.log; totals = c.count_event.new.totals; begun = slice_set c.self.inside.begun c.args.who.session false } in
    end_book c.self.inside new c.args.who c.args.code c.requires.session c.self.invariant (subst (λ (v : BookView). is_open c.args.who.session v ≡ true) (sym c.self.view_is) c.requires.open)
    (c.push_event.ensures.items ∙ ap (λ (e : Event). c.self.inside.log.items ++ e ∷ []) c.event.ensures) c.push_event.ensures.room c.release.ensures refl c.count_event.ensures refl
