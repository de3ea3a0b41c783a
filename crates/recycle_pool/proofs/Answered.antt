-- What an admission answers and leaves, case by case.
use Rattle.std.proofs.Common.{◌≡◌, ℕ, zero, suc, ◌+◌, ◌≤◌, ◌<◌, List, [], ◌∷◌, ◌++◌, Bool, true, false, ◌&&◌, ◌⊎◌, inl, inr, Option, Some, None, refl, ap, sym, ◌∙◌, subst, arith, length, slice_index_or, length-append}
use Rattle.std.specs.Prelude.{if◌then◌else◌, filter, ◌==◌}
use Rattle.std.specs.List.{AllByRecursion, slice_get}
use Rattle.std.specs.Option.{option_map_or}
use Rattle.lineage_key.specs.declared.shape.Shape.{Shape}
use Rattle.evict_admit.specs.Credits.{Credits}
use Rattle.evict_admit.specs.Runs.{Run, is_one_of}
use Rattle.pool_policy.specs.declared.entry.Who.{Who}
use Rattle.pool_policy.specs.declared.entry.PoolEntry.{PoolEntry}
use Rattle.pool_policy.specs.declared.options.Admitted.{Admitted}
use Rattle.pool_policy.specs.declared.options.Admitted.TheVariants.{Taken, There, Stale, Orphan, NoCredit, NoRoom}
use Rattle.pool_policy.specs.declared.options.PoolOptions.{PoolOptions}
use Rattle.pool_policy.specs.Pool.{PoolState, pool_bytes, has_credits}
use Rattle.pool_policy.specs.Keyed.{entry_of_key, shape_in}
use Rattle.pool_policy.specs.Looks.{at_ids, paid_back, pinned}
use Rattle.pool_policy.specs.Admits.{Offer, offer_bytes, number_from, with_shape, shape_number, credit_of, evictions_for, left_without, pays_at_end, new_entry, one_less, by_room, by_credit, by_parents, missing_parent, is_other_version, by_key, admit_of}
use Rattle.pool_policy.specs.Keeps.{AreFunded, IsPool, IsOffer}
use Rattle.pool_policy.proofs.Credits.{IsNumbered, funded_shape, paid_is}
use Rattle.pool_policy.proofs.Lists.{all_filter, all_on}
use Rattle.pool_policy.proofs.NewEntry.{admit_keeps, none_with}
use Rattle.pool_entries.specs.Shapes.{credit_with, shapes_with}
use Rattle.pool_entries.specs.Usable.{IsOwed}
use Rattle.recycle_pool.specs.Usable.{IsNew}
use Rattle.std.proofs.lemmas.Option.{slice_get-get_or}

-- what an admission leaves is a pool
pub said_keeps : (who : Who) (now : ℕ) (offer : Offer) (pool : PoolState) (said : Admitted) (new : PoolState) → (said, new) ≡ admit_of who now offer pool → pool.moment < now → IsPool pool → IsOffer pool offer → IsPool new
said_keeps who now offer pool said new is later known fits = subst (λ (r : Admitted × PoolState). IsPool r.1) (sym is) (admit_keeps who now offer pool later known fits)

module _ (who : Who) (now : ℕ) (offer : Offer) (pool : PoolState) where
  abbrev at_now : PoolState
  at_now = record pool { moment = now }

  pub there_is : (k : ℕ) (d : PoolEntry) → slice_get pool.entries k ≡ entry_of_key offer.key pool.entries → k < length pool.entries
      → (There (slice_index_or pool.entries k d).id, record pool { entries = at_ids ((slice_index_or pool.entries k d).id ∷ []) (pinned who) pool.entries; moment = now }) ≡ admit_of who now offer pool
  there_is k d found low = ap (by_key who now offer at_now) (sym (slice_get-get_or pool.entries k d low) ∙ found)

  module _ (none : None ≡ entry_of_key offer.key pool.entries) where
    pub stale_is : is_other_version offer.key offer.present ≡ true → (Stale offer.present, record pool { moment = now }) ≡ admit_of who now offer pool
    stale_is old =
        sym (ap (λ b. if b then (let r : Admitted × PoolState = (Stale offer.present, at_now) in r) else by_parents who now offer at_now (missing_parent offer at_now)) old)
        ∙ ap (by_key who now offer at_now) none

    module _ (fresh : is_other_version offer.key offer.present ≡ false) where
      on_parents : (o : Option ℕ) → o ≡ missing_parent offer pool → by_parents who now offer at_now o ≡ admit_of who now offer pool
      on_parents o is =
          ap (by_parents who now offer at_now) is
          ∙ sym (ap (λ b. if b then (let r : Admitted × PoolState = (Stale offer.present, at_now) in r) else by_parents who now offer at_now (missing_parent offer at_now)) fresh)
          ∙ ap (by_key who now offer at_now) none

      pub orphan_is : (id : ℕ) → Some id ≡ missing_parent offer pool → (Orphan id, record pool { moment = now }) ≡ admit_of who now offer pool
      orphan_is id is = on_parents (Some id) is

  -- once the shape has a number
  abbrev pub numbered : List Shape → List ℕ → PoolState
  numbered shapes credit = record pool { moment = now; shapes = shapes; credit = credit }

  abbrev shape : Shape
  shape = shape_in pool.entries offer.key

  numbered_is : (start : ℕ) (shapes : List Shape) (credit : List ℕ) → start ≡ pool.options.credits → shapes ≡ (if has_credits pool.options then shapes_with shape pool.shapes else pool.shapes)
      → credit ≡ (if has_credits pool.options then credit_with shape pool.shapes start pool.credit else pool.credit) → numbered shapes credit ≡ with_shape offer at_now
  numbered_is start shapes credit same is paid = (λ i. numbered (is i) (paid i)) ∙ go (has_credits pool.options)
    where
      by_number : (o : Option ℕ) → numbered (option_map_or (λ n. pool.shapes) o (pool.shapes ++ shape ∷ [])) (option_map_or (λ n. pool.credit) o (pool.credit ++ start ∷ []))
          ≡ option_map_or (λ n. at_now) o (record at_now { shapes = pool.shapes ++ shape ∷ []; credit = pool.credit ++ pool.options.credits ∷ [] })
      by_number (Some n) = refl
      by_number None = ap (λ s. numbered (pool.shapes ++ shape ∷ []) (pool.credit ++ s ∷ [])) same

      go : (b : Bool) → numbered (if b then shapes_with shape pool.shapes else pool.shapes) (if b then credit_with shape pool.shapes start pool.credit else pool.credit)
          ≡ (if b then option_map_or (λ n. at_now) (number_from 1 shape pool.shapes) (record at_now { shapes = pool.shapes ++ shape ∷ []; credit = pool.credit ++ pool.options.credits ∷ [] }) else at_now)
      go true = by_number (number_from 1 shape pool.shapes)
      go false = refl

  -- what is known where the shape has a number and the credit decides
  pub record IsShaped (start n : ℕ) (shapes : List Shape) (credit : List ℕ) : Type 0 where
    pub new : IsNew offer pool
    pub start_is : start ≡ pool.options.credits
    pub shapes_is : shapes ≡ (if has_credits pool.options then shapes_with shape pool.shapes else pool.shapes)
    pub credit_is : credit ≡ (if has_credits pool.options then credit_with shape pool.shapes start pool.credit else pool.credit)
    pub number_is : n ≡ option_map_or (λ n. n) (number_from 1 shape shapes) 0

  module _ (start n : ℕ) (shapes : List Shape) (credit : List ℕ) (known : IsShaped start n shapes credit) where
    on_credit : by_credit who now offer (numbered shapes credit) ≡ admit_of who now offer pool
    on_credit = ap (by_credit who now offer) (numbered_is start shapes credit known.start_is known.shapes_is known.credit_is) ∙ on_parents known.new.key known.new.fresh None known.new.parents

    abbrev by_test : Bool → Admitted × PoolState
    by_test b = if b then (NoCredit (shape_number offer (numbered shapes credit)), numbered shapes credit) else by_room who now offer (shape_number offer (numbered shapes credit)) (numbered shapes credit) (evictions_for now offer (numbered shapes credit))

    abbrev is_out : ℕ → Bool
    is_out m = has_credits pool.options && credit_of m credit == 0

    pub no_credit_is : (spent : Bool) → spent ≡ is_out n → spent ≡ true → (NoCredit n, numbered shapes credit) ≡ admit_of who now offer pool
    no_credit_is spent test is =
        ap (λ m. let r : Admitted × PoolState = (NoCredit m, numbered shapes credit) in r) known.number_is
        ∙ sym (ap by_test (ap is_out (sym known.number_is) ∙ sym test ∙ is)) ∙ on_credit

    -- the room decides
    room_is : (spent : Bool) → spent ≡ is_out n → spent ≡ false → (run : Run) → run ≡ evictions_for now offer pool → by_room who now offer n (numbered shapes credit) run ≡ admit_of who now offer pool
    room_is spent test is run run_is =
        ap (λ m. by_room who now offer m (numbered shapes credit) run) known.number_is
        ∙ ap (by_room who now offer (shape_number offer (numbered shapes credit)) (numbered shapes credit)) run_is
        ∙ sym (ap by_test (ap is_out (sym known.number_is) ∙ sym test ∙ is)) ∙ on_credit

    pub no_room_is : (spent enough : Bool) → spent ≡ is_out n → spent ≡ false → (gone : List ℕ) (left : ℕ) → enough ≡ false → (let r : Run = (gone, enough) in r) ≡ evictions_for now offer pool → left ≡ pool_bytes (left_without gone pool.entries) → (NoRoom left, numbered shapes credit) ≡ admit_of who now offer pool
    no_room_is spent enough test is gone left out run left_is =
        ap (λ m. let r : Admitted × PoolState = (NoRoom m, numbered shapes credit) in r) left_is
        ∙ room_is spent test is (gone, false) (ap (λ b. let r : Run = (gone, b) in r) (sym out) ∙ run)

    pub taken_is : (spent enough : Bool) → spent ≡ is_out n → spent ≡ false → (gone : List ℕ) (bytes count : ℕ) (rest all : List PoolEntry) (entry : PoolEntry) (paid last : List ℕ) → enough ≡ true → (let r : Run = (gone, enough) in r) ≡ evictions_for now offer pool
        → bytes ≡ offer_bytes offer → count ≡ length gone → rest ≡ left_without gone pool.entries → all ≡ rest ++ entry ∷ [] → entry ≡ new_entry who now pool.next n offer
        → paid ≡ paid_back credit (filter (λ (e : PoolEntry). is_one_of gone e.id && pays_at_end e) pool.entries) → last ≡ one_less paid n
        → (Taken pool.next bytes count, record pool { entries = all; next = pool.next + 1; moment = now; shapes = shapes; credit = last }) ≡ admit_of who now offer pool
    taken_is spent enough test is gone bytes count rest all entry paid last ok run bytes_is count_is rest_is all_is entry_is paid_is last_is =
        let answer : ℕ → ℕ → List PoolEntry → List ℕ → Admitted × PoolState = λ b m es cs. (Taken pool.next b m, record pool { entries = es; next = pool.next + 1; moment = now; shapes = shapes; credit = cs }) in
        let entries = all_is ∙ ap (λ (es : List PoolEntry). es ++ entry ∷ []) rest_is ∙ ap (λ (e : PoolEntry). left_without gone pool.entries ++ e ∷ []) entry_is in
        let credits = last_is ∙ ap (λ cs. one_less cs n) paid_is in
        (λ i. answer (bytes_is i) (count_is i) (entries i) (credits i))
        ∙ room_is spent test is (gone, true) (ap (λ b. let r : Run = (gone, b) in r) (sym ok) ∙ run)

-- the same, by what the code reads and leaves
pub there_shown : (who : Who) (now : ℕ) (offer : Offer) (pool : PoolState) (shown : List PoolEntry) (k : ℕ) (e : PoolEntry) (new : List PoolEntry) → shown ≡ pool.entries → slice_get shown k ≡ entry_of_key offer.key shown → k < length shown → e ≡ slice_index_or pool.entries k e
    → new ≡ at_ids (e.id ∷ []) (pinned who) pool.entries → (There e.id, record pool { entries = new; moment = now }) ≡ admit_of who now offer pool
there_shown who now offer pool shown k e new same found low read is =
    let l = ap (λ (es : List PoolEntry). length es) same in
    let at : slice_get pool.entries k ≡ entry_of_key offer.key pool.entries = subst (λ es. slice_get es k ≡ entry_of_key offer.key es) same found in
    (λ i. let p : PoolState = record pool { entries = is i; moment = now } in let r : Admitted × PoolState = (There e.id, p) in r)
    ∙ ap (λ (x : PoolEntry). let p : PoolState = record pool { entries = at_ids (x.id ∷ []) (pinned who) pool.entries; moment = now } in let r : Admitted × PoolState = (There x.id, p) in r) read
    ∙ there_is who now offer pool k e at (omega (arith, l, low))

-- whether the shape has no credit left, where shapes have credits
pub spent_is : (on spent : Bool) (n : ℕ) (credit : List ℕ) → (on ≡ true → 0 < n) → (on ≡ false → n ≡ 0) → (0 < n → spent ≡ (credit_of n credit == 0)) → (n ≡ 0 → spent ≡ false) → spent ≡ (on && credit_of n credit == 0)
spent_is true spent n credit some none is out = is (some refl)
spent_is false spent n credit some none is out = out (none refl)

-- ## What the new shape may pay back

some_shape : (credit : List ℕ) (es : List PoolEntry) → AllByRecursion (IsNumbered (length credit)) es → AllByRecursion (λ (e : PoolEntry). 0 < e.shape) es → (0 < length credit) ⊎ (es ≡ [])
some_shape [] es h k = inr (none_with es (all_on (IsNumbered 0) (λ (e : PoolEntry). e.shape ≤ 0) es (λ e _ x. x.0) h) k)
some_shape (c ∷ credit) es h k = inl (omega arith)

pub owed_from : (options : PoolOptions) (credits : Credits) (credit : List ℕ) (es : List PoolEntry) → credits.start ≡ options.credits → credits.each ≡ credit → AreFunded options credit es → IsOwed credits es
owed_from options credits credit es start each known =
    let funded : AreFunded options credits.each es = subst (λ cs. AreFunded options cs es) (sym each) known in
    record { each = λ t some low. let all = funded.each t some low in omega (arith, all, start); numbered = funded.numbered }

pub owed_shaped : (pool : PoolState) (shape : Shape) (start : ℕ) (credits : Credits) → IsPool pool → start ≡ pool.options.credits → credits.start ≡ start → credits.each ≡ (if has_credits pool.options then credit_with shape pool.shapes start pool.credit else pool.credit) → IsOwed credits pool.entries
owed_shaped pool shape start credits known same start_is each =
    owed_from pool.options credits (if has_credits pool.options then credit_with shape pool.shapes start pool.credit else pool.credit) pool.entries (start_is ∙ same) each (go (has_credits pool.options) refl)
  where
    by_number : has_credits pool.options ≡ true → (o : Option ℕ) → AreFunded pool.options (option_map_or (λ n. pool.credit) o (pool.credit ++ start ∷ [])) pool.entries
    by_number on (Some n) = known.funded
    by_number on None = subst (λ s. AreFunded pool.options (pool.credit ++ s ∷ []) pool.entries) (sym same) (funded_shape pool.options pool.credit pool.entries (some_shape pool.credit pool.entries known.funded.numbered (known.marked on)) known.funded)

    go : (b : Bool) → has_credits pool.options ≡ b → AreFunded pool.options (if b then credit_with shape pool.shapes start pool.credit else pool.credit) pool.entries
    go true on = by_number on (number_from 1 shape pool.shapes)
    go false off = known.funded

-- what is paid back leaves the credit that was there
pub still_some : (credits : Credits) (es : List PoolEntry) (p : PoolEntry → Bool) (n : ℕ) (paid : List ℕ) → IsOwed credits es → paid ≡ paid_back credits.each (filter p es) → 0 < n → n ≤ length credits.each → (credit_of n credits.each == 0) ≡ false → 0 < credit_of n paid
still_some credits es p n paid owed is some low not_out =
    let sum = paid_is n (filter p es) credits.each some low (all_filter (IsNumbered (length credits.each)) p es owed.numbered) in
    let same = ap (credit_of n) is in
    let had = above (credit_of n credits.each) not_out in
    omega (arith, sum, same, had)
  where
    above : (m : ℕ) → (m == 0) ≡ false → 0 < m
    above zero e = cc
    above (suc m) e = omega arith

-- there is a place for the new entry
pub place_left : (who : Who) (now : ℕ) (offer : Offer) (pool new : PoolState) (rest : List PoolEntry) (entry : PoolEntry) (said : Admitted) → IsPool pool → (said, new) ≡ admit_of who now offer pool → pool.moment < now → IsOffer pool offer → new.entries ≡ rest ++ entry ∷ [] → new.options ≡ pool.options → length rest < pool.options.places
place_left who now offer pool new rest entry said known is later fits entries options =
    let kept = said_keeps who now offer pool said new is later known fits in
    let l = length-append rest (entry ∷ []) in
    let same = ap (λ (es : List PoolEntry). length es) entries in
    let places = ap (λ (o : PoolOptions). o.places) options in
    omega (arith, l, same, places, kept.places)
