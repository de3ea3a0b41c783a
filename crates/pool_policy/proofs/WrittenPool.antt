-- What a write leaves before its last run is a pool, but for the budget.
use Rattle.std.proofs.Common.{◌≡◌, ℕ, suc, ◌+◌, ◌^◌, ◌≤◌, ◌<◌, List, [], ◌∷◌, ◌++◌, Bool, true, false, not, ◌&&◌, cond, Option, Some, None, ◌⊎◌, inl, inr, refl, ap, sym, ◌∙◌, subst, arith, length, map, length-append}
use Rattle.std.specs.Prelude.{◌==◌, if◌then◌else◌, filter, fold, count_by}
use Rattle.std.specs.List.{AllByRecursion}
use Rattle.std.specs.Option.{option_map_or}
use Rattle.std.proofs.lemmas.List.Sums.{sum_by-cons, sum_by_push}
use Rattle.cell_core.specs.Pairs.{Pairs}
use Rattle.score_hook.specs.declared.stats.Stats.{Stats}
use Rattle.evict_admit.specs.Runs.{is_one_of}
use Rattle.subsume.proofs.Members.{In, in_map, map_in}
use Rattle.pool_policy.specs.declared.entry.PoolEntry.{PoolEntry}
use Rattle.pool_policy.specs.declared.touched.Touched.{Touched}
use Rattle.pool_policy.specs.Pool.{PoolState, pool_bytes}
use Rattle.pool_policy.specs.Looks.{paid_back}
use Rattle.pool_policy.specs.Admits.{left_without, pays_at_end}
use Rattle.pool_policy.specs.Writes.{Return, Growth, delta_of, delta_work, returned, growth_of, and_returned, come_back, is_dropped, after_returns}
use Rattle.pool_policy.specs.Keeps.{Face, face_of, faces, Rises, HaveOwnKeys, IsRooted, IsCounted, is_unpaid, AreFunded, IsPoolWithin, IsPool}
use Rattle.pool_policy.specs.WriteLaws.{IsWrite}
use Rattle.pool_policy.proofs.Lists.{all_on, all_at, all_filter, in_among, not_among}
use Rattle.pool_policy.proofs.Faces.{faces_append, ids_below}
use Rattle.pool_policy.proofs.Credits.{one_if, length_paid, funded_leaving}
use Rattle.pool_policy.proofs.Kept.{counted_later}
use Rattle.pool_policy.proofs.Leaving.{faces_left}
use Rattle.pool_policy.proofs.Returns.{touched, IsBack}
use Rattle.pool_policy.proofs.Written.{news_of, after, after_rises, after_rooted, is_back}
use Rattle.pool_policy.proofs.WrittenKeys.{after_keys}
use Rattle.pool_policy.proofs.Ends.{all_append, all_from, in_first, in_last, last_or}

count_append : (p : PoolEntry → Bool) (xs ys : List PoolEntry) → count_by p (xs ++ ys) ≡ count_by p xs + count_by p ys
count_append p [] ys = omega arith
count_append p (x ∷ xs) ys =
    let rest = count_append p xs ys in
    let all = sum_by-cons (λ (e : PoolEntry). one_if (p e)) x (xs ++ ys) in
    let one = sum_by-cons (λ (e : PoolEntry). one_if (p e)) x xs in omega (arith, rest, all, one)

news_with : (rs : List Return) (r : Return) → news_of (rs ++ r ∷ []) ≡ news_of rs ++ r.new ∷ []
news_with [] r = refl
news_with (x ∷ xs) r = ap (λ es. x.new ∷ es) (news_with xs r)

module _ (write : Touched) (now : ℕ) (pool : PoolState) where
  abbrev pub gone : List ℕ
  gone = touched write now pool

  abbrev step : List Return → PoolEntry → List Return
  step = come_back write now pool.next gone pool.entries

  abbrev run : List Return → List PoolEntry → List Return
  run rs es = fold step rs es

  -- an entry doesn't come back, or it does, with its shape and its flags
  pub record Comes (rs : List Return) (e : PoolEntry) : Type 0 where
    pub one : Return
    pub old : one.old ≡ e
    pub shape : one.new.shape ≡ e.shape
    pub paid : one.new.is_paid ≡ e.is_paid
    pub is : step rs e ≡ rs ++ one ∷ []

  step_is : (rs : List Return) (e : PoolEntry) → (step rs e ≡ rs) ⊎ Comes rs e
  step_is rs e = by_touch (is_one_of gone e.id) refl
    where
      growth : Growth
      growth = growth_of write gone pool.entries rs e

      one_of : Pairs → Return
      one_of delta = record { old = e; new = returned now (pool.next + length rs) rs e delta; delta = delta; work = delta_work e.key.op growth }

      by_delta : is_one_of gone e.id ≡ true → (o : Option Pairs) → delta_of e.key.op growth ≡ o → (step rs e ≡ rs) ⊎ Comes rs e
      by_delta there None at = inl (ap (λ b. if b then and_returned now pool.next rs e growth else rs) there ∙ ap (λ o. option_map_or (λ delta. rs ++ one_of delta ∷ []) o rs) at)
      by_delta there (Some delta) at = inr (record {
        one = one_of delta;
        old = refl;
        shape = refl;
        paid = refl;
        is = ap (λ b. if b then and_returned now pool.next rs e growth else rs) there ∙ ap (λ o. option_map_or (λ delta. rs ++ one_of delta ∷ []) o rs) at;
      })

      by_touch : (b : Bool) → is_one_of gone e.id ≡ b → (step rs e ≡ rs) ⊎ Comes rs e
      by_touch false out = inl (ap (λ b. if b then and_returned now pool.next rs e growth else rs) out)
      by_touch true there = by_delta there (delta_of e.key.op growth) refl

  step_out : (rs : List Return) (e : PoolEntry) → is_one_of gone e.id ≡ false → step rs e ≡ rs
  step_out rs e out = ap (λ b. if b then and_returned now pool.next rs e (growth_of write gone pool.entries rs e) else rs) out

  run_more : (es : List PoolEntry) (rs : List Return) (q : Return) → In q rs → In q (run rs es)
  run_more [] rs q i = i
  run_more (e ∷ es) rs q i = run_more es (step rs e) q (elim (step_is rs e) [ inl same ↦ subst (In q) (sym same) i | inr c ↦ subst (In q) (sym c.is) (in_first rs (c.one ∷ []) q i) ])

  run_from : (es : List PoolEntry) (rs : List Return) (q : Return) → In q (run rs es) → In q rs ⊎ In q.old es
  run_from [] rs q i = inl i
  run_from (e ∷ es) rs q i = elim (run_from es (step rs e) q i) [
    | inl j ↦ elim (step_is rs e) [
      | inl same ↦ inl (subst (In q) same j)
      | inr c ↦ elim (last_or rs c.one q (subst (In q) c.is j)) [ inl k ↦ inl k | inr is ↦ inr (inl (ap (λ (r : Return). r.old) is ∙ c.old)) ]
    ]
    | inr k ↦ inr (inr k)
  ]

  -- ## Places

  places_left : (es : List PoolEntry) (rs : List Return) → length (run rs es) + length (left_without gone es) ≤ length rs + length es
  places_left [] rs = omega arith
  places_left (e ∷ es) rs = by_touch (is_one_of gone e.id) refl (places_left es (step rs e))
    where
      by_touch : (b : Bool) → is_one_of gone e.id ≡ b → length (run (step rs e) es) + length (left_without gone es) ≤ length (step rs e) + length es
          → length (run (step rs e) es) + length (cond (not (is_one_of gone e.id)) (e ∷ left_without gone es) (left_without gone es)) ≤ length rs + length (e ∷ es)
      by_touch false out rest =
          let same = ap (λ (rs : List Return). length rs) (step_out rs e out) in
          let left : length (cond (not (is_one_of gone e.id)) (e ∷ left_without gone es) (left_without gone es)) ≡ suc (length (left_without gone es)) = ap (λ b. length (cond (not b) (e ∷ left_without gone es) (left_without gone es))) out in
          omega (arith, rest, same, left)
      by_touch true there rest =
          let left : length (cond (not (is_one_of gone e.id)) (e ∷ left_without gone es) (left_without gone es)) ≡ length (left_without gone es) = ap (λ b. length (cond (not b) (e ∷ left_without gone es) (left_without gone es))) there in
          elim (step_is rs e) [
            | inl same ↦ let l = ap (λ (rs : List Return). length rs) same in omega (arith, rest, left, l)
            | inr c ↦ let l = ap (λ (rs : List Return). length rs) c.is ∙ length-append rs (c.one ∷ []) in omega (arith, rest, left, l)
          ]

  -- ## Credits

  abbrev pub all_back : List Return
  all_back = run [] pool.entries

  abbrev drops : PoolEntry → Bool
  drops = is_dropped gone all_back

  owes : ℕ → List PoolEntry → ℕ
  owes t es = count_by (is_unpaid t) es

  -- what is owed by what is left and by what came back is owed by what isn't dropped
  owed_same : (t : ℕ) (es : List PoolEntry) (from : ℕ) (rs : List Return) → Rises from pool.next (faces es) → AllByRecursion (λ (q : Return). q.old.id < from) rs → run rs es ≡ all_back
      → count_by (is_unpaid t) (news_of all_back) + count_by (is_unpaid t) (left_without gone es) ≡ count_by (is_unpaid t) (news_of rs) + count_by (is_unpaid t) (filter (λ (e : PoolEntry). not (drops e)) es)
  owed_same t [] from rs up low whole = let same = ap (λ qs. count_by (is_unpaid t) (news_of qs)) whole in omega (arith, same)
  owed_same t (e ∷ es) from rs up low whole = by_touch (is_one_of gone e.id) refl (λ lower. owed_same t es (e.id + 1) (step rs e) up.1 lower whole)
    where
      u : PoolEntry → Bool
      u = is_unpaid t

      kept : PoolEntry → Bool
      kept x = not (drops x)

      counted : (p : PoolEntry → Bool) (b : Bool) → p e ≡ b → count_by (is_unpaid t) (filter p (e ∷ es)) ≡ (if b then one_if (is_unpaid t e) else 0) + count_by (is_unpaid t) (filter p es)
      counted p true is = ap (λ b. count_by (is_unpaid t) (cond b (e ∷ filter p es) (filter p es))) is ∙ sum_by-cons (λ (x : PoolEntry). one_if (is_unpaid t x)) e (filter p es)
      counted p false is = ap (λ b. count_by (is_unpaid t) (cond b (e ∷ filter p es) (filter p es))) is ∙ omega arith

      lower_same : step rs e ≡ rs → AllByRecursion (λ (q : Return). q.old.id < e.id + 1) (step rs e)
      lower_same same = subst (AllByRecursion (λ (q : Return). q.old.id < e.id + 1)) (sym same) (all_on (λ (q : Return). q.old.id < from) (λ (q : Return). q.old.id < e.id + 1) rs (λ q _ h. omega (arith, h, up.0)) low)

      by_touch : (b : Bool) → is_one_of gone e.id ≡ b
          → (AllByRecursion (λ (q : Return). q.old.id < e.id + 1) (step rs e) → count_by (is_unpaid t) (news_of all_back) + count_by (is_unpaid t) (left_without gone es) ≡ count_by (is_unpaid t) (news_of (step rs e)) + count_by (is_unpaid t) (filter (λ (e : PoolEntry). not (drops e)) es))
          → count_by (is_unpaid t) (news_of all_back) + count_by (is_unpaid t) (left_without gone (e ∷ es)) ≡ count_by (is_unpaid t) (news_of rs) + count_by (is_unpaid t) (filter (λ (e : PoolEntry). not (drops e)) (e ∷ es))
      by_touch false out rest =
          let same = step_out rs e out in
          let more = rest (lower_same same) in
          let news = ap (λ qs. count_by (is_unpaid t) (news_of qs)) same in
          let left = counted (λ (x : PoolEntry). not (is_one_of gone x.id)) true (ap not out) in
          let stays = counted (λ (x : PoolEntry). not (drops x)) true (ap (λ b. not (b && not (is_one_of (map (λ (r : Return). r.old.id) all_back) e.id))) out) in
          omega (arith, more, news, left, stays)
      by_touch true there rest =
          let left = counted (λ (x : PoolEntry). not (is_one_of gone x.id)) false (ap not there) in
          elim (step_is rs e) [
            | inl same ↦
                let more = rest (lower_same same) in
                let news = ap (λ qs. count_by (is_unpaid t) (news_of qs)) same in
                let no_return : is_one_of (map (λ (r : Return). r.old.id) all_back) e.id ≡ false = not_among (map (λ (r : Return). r.old.id) all_back) e.id (λ i.
                let q = map_in (λ (r : Return). r.old.id) all_back e.id i in
                elim (run_from es (step rs e) q.0 (subst (In q.0) (sym whole) q.1)) [
                  | inl j ↦ (let h = all_at (λ (x : Return). x.old.id < from) rs q.0 low (subst (In q.0) same j) in omega (arith, h, up.0, q.2))
                  | inr k ↦ (let h = over (e.id + 1) pool.next es q.0.old up.1 k in omega (arith, h, q.2))
                ]) in
                let falls = counted (λ (x : PoolEntry). not (drops x)) false (ap (λ b. not (b && not (is_one_of (map (λ (r : Return). r.old.id) all_back) e.id))) there ∙ ap (λ b. not (true && not b)) no_return) in
                omega (arith, more, news, left, falls)
            | inr c ↦
                let low_now : AllByRecursion (λ (q : Return). q.old.id < e.id + 1) (step rs e) = subst (AllByRecursion (λ (q : Return). q.old.id < e.id + 1)) (sym c.is)
                (all_append (λ (q : Return). q.old.id < e.id + 1) rs (c.one ∷ []) (all_on (λ (q : Return). q.old.id < from) (λ (q : Return). q.old.id < e.id + 1) rs (λ q _ h. omega (arith, h, up.0)) low) ((let id = ap (λ (x : PoolEntry). x.id) c.old in omega (arith, id)), tt)) in
                let more = rest low_now in
                let news = ap (λ qs. count_by (is_unpaid t) (news_of qs)) c.is ∙ ap (λ es. count_by (is_unpaid t) es) (news_with rs c.one) ∙ sum_by_push (λ (x : PoolEntry). one_if (is_unpaid t x)) (news_of rs) c.one.new in
                let same_owed : one_if (is_unpaid t c.one.new) ≡ one_if (is_unpaid t e) = ap (λ s. one_if ((s == t) && not c.one.new.is_paid)) c.shape ∙ ap (λ p. one_if ((e.shape == t) && not p)) c.paid in
                let returned_is : is_one_of (map (λ (r : Return). r.old.id) all_back) e.id ≡ true = in_among (map (λ (r : Return). r.old.id) all_back) e.id
                (subst (λ n. In n (map (λ (r : Return). r.old.id) all_back)) (ap (λ (x : PoolEntry). x.id) c.old) (in_map (λ (r : Return). r.old.id) all_back c.one (subst (In c.one) whole (run_more es (step rs e) c.one (subst (In c.one) (sym c.is) (in_last rs c.one)))))) in
                let stays = counted (λ (x : PoolEntry). not (drops x)) true (ap (λ b. not (b && not (is_one_of (map (λ (r : Return). r.old.id) all_back) e.id))) there ∙ ap (λ b. not (true && not b)) returned_is) in
                omega (arith, more, news, same_owed, left, stays)
          ]
        where
          over : (low next : ℕ) (xs : List PoolEntry) (x : PoolEntry) → Rises low next (faces xs) → In x xs → low ≤ x.id
          over low next xs x rises i = (all_at (λ (f : Face). (low ≤ f.id) × (f.id < next)) (faces xs) (face_of x) (ids_below low next (faces xs) rises) (in_map face_of xs x i)).0

  -- ## The pool

  module _ (known : IsPool pool) (fits : IsWrite write now pool) (later : pool.moment < now) where
    abbrev pub new_pool : PoolState
    new_pool = after_returns now gone all_back pool

    pub told_back : (r : Return) → In r all_back → IsBack write now pool all_back r
    told_back r i = is_back write now pool known fits r i

    pub faces_after : faces new_pool.entries ≡ after write now pool known fits
    faces_after = faces_append (left_without gone pool.entries) (news_of all_back) ∙ ap (λ fs. fs ++ faces (news_of all_back)) (faces_left gone pool.entries)

    -- what holds of each old entry that comes back
    of_news : (P : PoolEntry → Type 0) → ((r : Return) → In r all_back → P r.new) → AllByRecursion P (news_of all_back)
    of_news P h = all_from P (news_of all_back) (λ e i. let r = map_in (λ (r : Return). r.new) all_back e i in subst P (sym r.2) (h r.0 r.1))

    abbrev counts : PoolEntry → Type 0
    counts = IsCounted now

    counted_now : AllByRecursion counts pool.entries
    counted_now = counted_later pool.moment now (omega arith) pool.entries known.counted

    counted_new : (r : Return) → In r all_back → IsCounted now r.new
    counted_new r i =
        let s = sym (told_back r i).stats in
        let old = all_at counts pool.entries r.old counted_now (told_back r i).here in record {
          class = subst (λ (x : Stats). x.class < 35) s old.class;
          work = subst (λ (x : Stats). x.work < 2 ^ 62) s old.work;
          reuses = subst (λ (x : Stats). x.reuses ≤ now) s old.reuses;
          others = subst (λ (x : Stats). x.others ≤ now) s old.others;
          admitted = subst (λ (x : Stats). x.admitted_at ≤ now) s old.admitted;
          used = subst (λ (x : Stats). x.used_at ≤ now) s old.used;
        }

    abbrev credit_now : List ℕ
    credit_now = paid_back pool.credit (filter (λ (e : PoolEntry). drops e && pays_at_end e) pool.entries)

    same_credit : length credit_now ≡ length pool.credit
    same_credit = length_paid pool.credit (filter (λ (e : PoolEntry). drops e && pays_at_end e) pool.entries)

    abbrev IsNumbered : PoolEntry → Type 0
    IsNumbered e = (e.shape ≤ length credit_now) × (0 < length credit_now → 0 < e.shape)

    funded_after : AreFunded pool.options credit_now new_pool.entries
    funded_after =
        let all = funded_leaving drops pool.options pool.credit pool.entries known.funded in
        let numbered : AllByRecursion IsNumbered pool.entries = subst (λ n. AllByRecursion (λ (e : PoolEntry). (e.shape ≤ n) × (0 < n → 0 < e.shape)) pool.entries) (sym same_credit) known.funded.numbered in record {
          each = λ t some low.
              let before = all.each t some low in
              let same = owed_same t pool.entries 1 [] known.rising tt refl in
              let both = count_append (is_unpaid t) (left_without gone pool.entries) (news_of all_back) in
              omega (arith, before, same, both);
          numbered = all_append IsNumbered (left_without gone pool.entries) (news_of all_back) (all_filter IsNumbered (λ (e : PoolEntry). not (is_one_of gone e.id)) pool.entries numbered)
              (of_news IsNumbered (λ r i. subst (λ s. (s ≤ length credit_now) × (0 < length credit_now → 0 < s)) (sym (told_back r i).shape) (all_at IsNumbered pool.entries r.old numbered (told_back r i).here)));
        }

    pub returns_keep : IsPoolWithin (pool_bytes new_pool.entries) new_pool
    returns_keep = record {
      rising = subst (Rises 1 (pool.next + length all_back)) (sym faces_after) (after_rises write now pool known fits);
      own_keys = subst HaveOwnKeys (sym faces_after) (after_keys write now pool known fits);
      rooted = subst (λ fs. AllByRecursion (IsRooted fs) fs) (sym faces_after) (after_rooted write now pool known fits);
      bytes = omega arith;
      places = let left = places_left pool.entries [] in let both = length-append (left_without gone pool.entries) (news_of all_back) in let many = length_news all_back in omega (arith, left, both, many, known.places);
      counted = all_append counts (left_without gone pool.entries) (news_of all_back) (all_filter counts (λ (e : PoolEntry). not (is_one_of gone e.id)) pool.entries counted_now) (of_news counts counted_new);
      funded = funded_after;
      shapes = known.shapes ∙ sym same_credit;
      plain = λ off. same_credit ∙ known.plain off;
      marked = λ on. let marks = known.marked on in all_append (λ (e : PoolEntry). 0 < e.shape) (left_without gone pool.entries) (news_of all_back)
          (all_filter (λ (e : PoolEntry). 0 < e.shape) (λ (e : PoolEntry). not (is_one_of gone e.id)) pool.entries marks)
          (of_news (λ (e : PoolEntry). 0 < e.shape) (λ r i. subst (λ s. 0 < s) (sym (told_back r i).shape) (all_at (λ (e : PoolEntry). 0 < e.shape) pool.entries r.old marks (told_back r i).here)));
    }
      where
        length_news : (rs : List Return) → length (news_of rs) ≡ length rs
        length_news [] = refl
        length_news (r ∷ rs) = ap suc (length_news rs)
