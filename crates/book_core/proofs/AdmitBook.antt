-- An admission leaves a book.
use Rattle.std.proofs.Common.{◌≡◌, ℕ, ◌+◌, ◌≤◌, List, cond, refl, ap, sym, ◌∙◌, subst, arith, length}
use Rattle.cell_core.specs.Pairs.{Pairs}
use Rattle.lineage_key.specs.declared.key.Key.{Key}
use Rattle.lineage_key.specs.Parents.{is_bind, table_of, column_of}
use Rattle.pool_policy.specs.declared.entry.PoolEntry.{PoolEntry}
use Rattle.pool_policy.specs.declared.entry.Who.{Who}
use Rattle.pool_policy.specs.declared.options.Admitted.{Admitted}
use Rattle.pool_policy.specs.Pool.{PoolState}
use Rattle.pool_policy.specs.Admits.{Offer, admit_of}
use Rattle.pool_policy.specs.Keeps.{IsOffer}
use Rattle.table_store.specs.Content.{version_of}
use Rattle.run_log.specs.declared.event.Event.{Event}
use Rattle.run_log.specs.declared.event.Act.TheVariants as act
use Rattle.run_log.specs.Fold.{LogState, key_offer, key_present}
use Rattle.run_log.specs.Totals.{AreSmall, gone_in, with_admission, with_pool}
use Rattle.run_log.proofs.WithinLemmas.{admission_sum}
use Rattle.book_core.specs.declared.book.Book.TheInside.{Inside}
use Rattle.book_core.specs.BookView.{BookView, event_of, state_of}
use Rattle.book_core.specs.Kept.{IsBook, book_shown}
use Rattle.book_core.specs.Offers.{CanOffer}
use Rattle.book_core.proofs.AdmitLemmas.{may_offer, offer_fits, offer_with, same_admission}
use Rattle.book_core.proofs.BookLemmas.{IsQuiet, at_of, plain_state, quiet_book}
use Rattle.book_core.proofs.GoneLemmas.{gone_few}

-- what may be offered to the view of a book may be offered to the book
pub can_inside : (b : Inside) {seen : BookView} (key : Key) (value : Pairs) (work : ℕ) → book_shown b ≡ seen → CanOffer key value work (state_of seen) → CanOffer key value work (state_of (book_shown b))
can_inside b key value work is = subst (λ (v : BookView). CanOffer key value work (state_of v)) (sym is)

module _ (b : Inside) (known : IsBook b) (key : Key) (value : Pairs) (work present : ℕ) (can : CanOffer key value work (state_of (book_shown b)))
    (is : present ≡ cond (is_bind key) (version_of (table_of key) (column_of key) b.store) 0) where
  abbrev s : LogState
  s = state_of (book_shown b)

  abbrev offer : Offer
  offer = record { key = key; value = value; work = work; present = present }

  present_is : present ≡ key_present key s
  present_is = is ∙ ap (λ n. cond (is_bind key) n 0) (known.state.versions (table_of key) (column_of key))

  offer_is : offer_with key value work s ≡ offer
  offer_is = λ i. record { key = key; value = value; work = work; present = sym present_is i }

  -- what is offered fits the pool
  pub admit_fits : IsOffer b.pool offer
  admit_fits =
      let fits : IsOffer s.pool offer = subst (IsOffer s.pool) offer_is (offer_fits s key value work can known.state.sound) in
      subst (λ (p : PoolState). IsOffer p offer) known.state.pool fits

  -- and is answered like the offer of the fold of the log
  pub admit_is : (who : Who) (answer : Admitted × PoolState) → answer ≡ admit_of who (length b.log.items + 1) offer b.pool → answer ≡ admit_of who (s.at + 1) (key_offer key s) s.pool
  admit_is who answer done =
      done ∙ ap (λ n. admit_of who (n + 1) offer b.pool) (sym (at_of b)) ∙ ap (λ (p : PoolState). admit_of who (s.at + 1) offer p) (sym known.state.pool)
      ∙ ap (λ (o : Offer). admit_of who (s.at + 1) o s.pool) (sym offer_is) ∙ same_admission s key value work can known.state.sound who (s.at + 1)

  -- where the log is so long
  pub admit_done : (who : Who) (long : ℕ) (answer : Admitted × PoolState) → long ≡ length b.log.items → answer ≡ admit_of who (long + 1) offer b.pool → answer ≡ admit_of who (length b.log.items + 1) offer b.pool
  admit_done who long answer is done = done ∙ ap (λ n. admit_of who (n + 1) offer b.pool) is

  -- a pool with few entries evicts few
  pub admit_gone : (who : Who) (answer : Admitted × PoolState) {held : List PoolEntry} → answer ≡ admit_of who (length b.log.items + 1) offer b.pool → held ≡ b.pool.entries → length held ≤ 1024 → gone_in answer.0 ≤ 1024
  admit_gone who answer done are few =
      let least = gone_few who (length b.log.items + 1) offer b.pool in
      let same = ap (λ (es : List PoolEntry). length es) are in
      subst (λ (a : Admitted × PoolState). gone_in a.0 ≤ 1024) (sym done) (omega (arith, least, few, same))

  pub small_admission : (said : Admitted) → gone_in said ≤ 1024 → AreSmall (with_admission said b.totals)
  small_admission said gone =
      let at = at_of b in
      let few = known.few in
      let within = known.state.within in
      let counted = admission_sum b.totals said in
      omega (arith, at, few, within, counted, gone)

  pub admit_book : (new : Inside) (who : Who) (instr : ℕ) (said : Admitted) → IsQuiet b new (event_of who (act.Admit instr key said)) → gone_in said ≤ 1024
      → ◌≡◌ {A = Admitted × PoolState} (said, new.pool) (admit_of who (s.at + 1) (key_offer key s) s.pool) → new.totals ≡ with_pool new.pool (with_admission said b.totals) → IsBook new
  admit_book new who instr said quiet gone answer totals =
      let event : Event = event_of who (act.Admit instr key said) in
      let counted = admission_sum b.totals said in
      quiet_book b new event known quiet (λ up. refl) (plain_state b new event (with_admission said) known (record {
        log = quiet.log;
        options = quiet.options;
        store = quiet.store;
        may = may_offer s key value work can known.state.sound;
        db = refl;
        versions = refl;
        pool = ap (λ (a : Admitted × PoolState). a.1) (sym answer);
        counts = ap (λ (a : Admitted × PoolState). with_pool (admit_of who (s.at + 1) (key_offer key s) s.pool).1 (with_admission a.0 s.totals)) (sym answer);
        totals = totals;
        few = omega (arith, counted, gone);
      }))
