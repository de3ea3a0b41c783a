-- What is kept of credits: by uses, by leaving, by a new shape and by a new entry.
use Rattle.std.proofs.Common.{◌≡◌, ◌≢◌, ℕ, ◌+◌, ◌-◌, ◌≤◌, ◌<◌, List, [], ◌∷◌, ◌++◌, Bool, true, false, not, ◌&&◌, ◌||◌, cond, ◌⊎◌, inl, inr, refl, ap, sym, ◌∙◌, subst, arith, length, slice_index, length-append}
use Rattle.std.specs.Prelude.{filter, ◌==◌, if◌then◌else◌, count_by}
use Rattle.std.specs.List.{AllByRecursion}
use Rattle.std.proofs.lemmas.Bool.Decides.{Decides-eqb}
use Rattle.std.proofs.lemmas.List.{get_or-set_same, get_or-set_other, length-set, get_or_append_left, get_or_push}
use Rattle.std.proofs.lemmas.List.Sums.{sum_by-cons, sum_by_push}
use Rattle.pool_policy.specs.declared.entry.Who.{Who}
use Rattle.pool_policy.specs.declared.entry.PoolEntry.{PoolEntry}
use Rattle.pool_policy.specs.declared.options.PoolOptions.{PoolOptions}
use Rattle.evict_admit.specs.Runs.{is_one_of}
use Rattle.pool_policy.specs.Looks.{is_own, used, pays_back, one_more, paid_back, at_ids}
use Rattle.pool_policy.specs.Admits.{credit_of, one_less, left_without, pays_at_end}
use Rattle.pool_policy.specs.Keeps.{is_unpaid, AreFunded}
use Rattle.pool_policy.proofs.Lists.{all_on, all_filter, all_snoc}

abbrev pub one_if : Bool → ℕ
one_if b = if b then 1 else 0

-- ## One credit more or less

length_more : (credit : List ℕ) (s : ℕ) → length (one_more credit s) ≡ length credit
length_more credit s = length-set credit (s - 1) (slice_index credit (s - 1) + 1)

more_is : (credit : List ℕ) (s t : ℕ) → 0 < s → s ≤ length credit → 0 < t → credit_of t (one_more credit s) ≡ credit_of t credit + one_if (s == t)
more_is credit s t some low there = elim (s == t) as (λ b. (s == t) ≡ b → credit_of t (one_more credit s) ≡ credit_of t credit + one_if b) [
  | true ↦ λ e.
      let same : s ≡ t = (Decides-eqb s t).0 e in
      ap (λ k. slice_index (one_more credit s) (k - 1)) (sym same) ∙ get_or-set_same credit (s - 1) (slice_index credit (s - 1) + 1) 0 (omega arith) ∙ ap (λ k. credit_of k credit + 1) same
  | false ↦ λ e.
      let other : t - 1 ≢ s - 1 = λ h. let same : (s == t) ≡ true = (Decides-eqb s t).1 (omega arith) in let wrong : true ≡ false = sym same ∙ e in cc in
      get_or-set_other credit (s - 1) (t - 1) (slice_index credit (s - 1) + 1) 0 other ∙ omega arith
] refl

less_is : (credit : List ℕ) (s t : ℕ) → 0 < s → s ≤ length credit → 0 < t → credit_of t (one_less credit s) ≡ credit_of t credit - one_if (s == t)
less_is credit s t some low there = elim (s == t) as (λ b. (s == t) ≡ b → credit_of t (one_less credit s) ≡ credit_of t credit - one_if b) [
  | true ↦ λ e.
      let same : s ≡ t = (Decides-eqb s t).0 e in
      ap (λ k. slice_index (one_less credit s) (k - 1)) (sym same) ∙ get_or-set_same credit (s - 1) (credit_of s credit - 1) 0 (omega arith) ∙ ap (λ k. credit_of k credit - 1) same
  | false ↦ λ e.
      let other : t - 1 ≢ s - 1 = λ h. let same : (s == t) ≡ true = (Decides-eqb s t).1 (omega arith) in let wrong : true ≡ false = sym same ∙ e in cc in
      get_or-set_other credit (s - 1) (t - 1) (credit_of s credit - 1) 0 other ∙ omega arith
] refl

-- ## What is paid back

abbrev pub IsNumbered : ℕ → PoolEntry → Type 0
IsNumbered shapes e = (e.shape ≤ shapes) × (0 < shapes → 0 < e.shape)

pub length_paid : (credit : List ℕ) (es : List PoolEntry) → length (paid_back credit es) ≡ length credit
length_paid credit [] = refl
length_paid credit (e ∷ es) = length_paid (one_more credit e.shape) es ∙ length_more credit e.shape

abbrev has_shape : ℕ → PoolEntry → Bool
has_shape t e = e.shape == t

pub paid_is : (t : ℕ) (es : List PoolEntry) (credit : List ℕ) → 0 < t → t ≤ length credit → AllByRecursion (IsNumbered (length credit)) es → credit_of t (paid_back credit es) ≡ credit_of t credit + count_by (has_shape t) es
paid_is t [] credit some low all = omega arith
paid_is t (e ∷ es) credit some low all =
    let same = length_more credit e.shape in
    let rest : credit_of t (paid_back (one_more credit e.shape) es) ≡ credit_of t (one_more credit e.shape) + count_by (has_shape t) es =
    paid_is t es (one_more credit e.shape) some (omega arith) (subst (λ n. AllByRecursion (IsNumbered n) es) (sym same) all.1) in
    let one = more_is credit e.shape t (all.0.1 (omega arith)) all.0.0 some in
    let count : count_by (has_shape t) (e ∷ es) ≡ one_if (has_shape t e) + count_by (has_shape t) es = sum_by-cons (λ (x : PoolEntry). one_if (has_shape t x)) e es in
    omega (arith, rest, one, count)

-- ## Uses

use_cases : (s m o p : Bool) → one_if (s && not (if m then p || o else p)) + (if m && (o && not p) then one_if s else 0) ≡ one_if (s && not p)
use_cases true true true true = refl
use_cases true true true false = refl
use_cases true true false true = refl
use_cases true true false false = refl
use_cases true false o true = refl
use_cases true false o false = refl
use_cases false true true true = refl
use_cases false true true false = refl
use_cases false true false true = refl
use_cases false true false false = refl
use_cases false false o p = refl

module _ (who : Who) (now : ℕ) (ids : List ℕ) where
  abbrev pays : PoolEntry → Bool
  pays e = is_one_of ids e.id && pays_back who e

  abbrev use_one : PoolEntry → PoolEntry
  use_one e = if is_one_of ids e.id then used who now e else e

  used_unpaid : (t : ℕ) (e : PoolEntry) → one_if (is_unpaid t (use_one e)) ≡ one_if ((e.shape == t) && not (if is_one_of ids e.id then e.is_paid || is_own who e else e.is_paid))
  used_unpaid t e = elim (is_one_of ids e.id) as (λ b. one_if (is_unpaid t (if b then used who now e else e)) ≡ one_if ((e.shape == t) && not (if b then e.is_paid || is_own who e else e.is_paid))) [ true ↦ refl | false ↦ refl ]

  owed_used : (t : ℕ) (es : List PoolEntry) → count_by (is_unpaid t) (at_ids ids (used who now) es) + count_by (has_shape t) (filter pays es) ≡ count_by (is_unpaid t) es
  owed_used t [] = refl
  owed_used t (e ∷ es) =
      let rest = owed_used t es in
      let new = sum_by-cons (λ (x : PoolEntry). one_if (is_unpaid t x)) (use_one e) (at_ids ids (used who now) es) in
      let old = sum_by-cons (λ (x : PoolEntry). one_if (is_unpaid t x)) e es in
      let mine = used_unpaid t e in
      let cases = use_cases (e.shape == t) (is_one_of ids e.id) (is_own who e) e.is_paid in
      let paid : count_by (has_shape t) (filter pays (e ∷ es)) ≡ (if pays e then one_if (has_shape t e) else 0) + count_by (has_shape t) (filter pays es) =
      elim (pays e) as (λ b. count_by (has_shape t) (cond b (e ∷ filter pays es) (filter pays es)) ≡ (if b then one_if (has_shape t e) else 0) + count_by (has_shape t) (filter pays es)) [
        | true ↦ sum_by-cons (λ (x : PoolEntry). one_if (has_shape t x)) e (filter pays es)
        | false ↦ omega arith
      ] in
      omega (arith, rest, new, old, mine, cases, paid)

  numbered_used : (shapes : ℕ) (es : List PoolEntry) → AllByRecursion (IsNumbered shapes) es → AllByRecursion (IsNumbered shapes) (at_ids ids (used who now) es)
  numbered_used shapes [] h = tt
  numbered_used shapes (e ∷ es) h = (elim (is_one_of ids e.id) as (λ b. IsNumbered shapes (if b then used who now e else e)) [ true ↦ h.0 | false ↦ h.0 ], numbered_used shapes es h.1)

  pub funded_used : (options : PoolOptions) (credit : List ℕ) (es : List PoolEntry) → AreFunded options credit es → AreFunded options (paid_back credit (filter pays es)) (at_ids ids (used who now) es)
  funded_used options credit es known =
      let same = length_paid credit (filter pays es) in record {
        each = λ t some low.
            let low_before : t ≤ length credit = omega arith in
            let paid = paid_is t (filter pays es) credit some low_before (all_filter (IsNumbered (length credit)) pays es known.numbered) in
            let owed = owed_used t es in
            let before = known.each t some low_before in
            omega (arith, paid, owed, before);
        numbered = subst (λ n. AllByRecursion (IsNumbered n) (at_ids ids (used who now) es)) (sym same) (numbered_used (length credit) es known.numbered);
      }

-- ## Leaving

leave_cases : (s m f p : Bool) → (if not m then one_if (s && not p) else 0) + (if m && (f && not p) then one_if s else 0) ≤ one_if (s && not p)
leave_cases true true true true = omega arith
leave_cases true true true false = omega arith
leave_cases true true false true = omega arith
leave_cases true true false false = omega arith
leave_cases true false f true = omega arith
leave_cases true false f false = omega arith
leave_cases false true true true = omega arith
leave_cases false true true false = omega arith
leave_cases false true false true = omega arith
leave_cases false true false false = omega arith
leave_cases false false f p = omega arith

count_filter : (p q : PoolEntry → Bool) (e : PoolEntry) (es : List PoolEntry) → count_by q (filter p (e ∷ es)) ≡ (if p e then one_if (q e) else 0) + count_by q (filter p es)
count_filter p q e es = elim (p e) as (λ b. count_by q (cond b (e ∷ filter p es) (filter p es)) ≡ (if b then one_if (q e) else 0) + count_by q (filter p es)) [
  | true ↦ sum_by-cons (λ (x : PoolEntry). one_if (q x)) e (filter p es)
  | false ↦ omega arith
]

module _ (leaves : PoolEntry → Bool) where
  abbrev pays_last : PoolEntry → Bool
  pays_last e = leaves e && pays_at_end e

  owed_left : (t : ℕ) (es : List PoolEntry) → count_by (is_unpaid t) (filter (λ (e : PoolEntry). not (leaves e)) es) + count_by (has_shape t) (filter pays_last es) ≤ count_by (is_unpaid t) es
  owed_left t [] = omega arith
  owed_left t (e ∷ es) =
      let rest = owed_left t es in
      let new = count_filter (λ (e : PoolEntry). not (leaves e)) (is_unpaid t) e es in
      let paid = count_filter pays_last (has_shape t) e es in
      let old = sum_by-cons (λ (x : PoolEntry). one_if (is_unpaid t x)) e es in
      let cases = leave_cases (e.shape == t) (leaves e) e.is_foreign e.is_paid in
      omega (arith, rest, new, old, cases, paid)

  pub funded_leaving : (options : PoolOptions) (credit : List ℕ) (es : List PoolEntry) → AreFunded options credit es → AreFunded options (paid_back credit (filter pays_last es)) (filter (λ (e : PoolEntry). not (leaves e)) es)
  funded_leaving options credit es known =
      let same = length_paid credit (filter pays_last es) in record {
        each = λ t some low.
            let low_before : t ≤ length credit = omega arith in
            let paid = paid_is t (filter pays_last es) credit some low_before (all_filter (IsNumbered (length credit)) pays_last es known.numbered) in
            let owed = owed_left t es in
            let before = known.each t some low_before in
            omega (arith, paid, owed, before);
        numbered = subst (λ n. AllByRecursion (IsNumbered n) (filter (λ (e : PoolEntry). not (leaves e)) es)) (sym same) (all_filter (IsNumbered (length credit)) (λ (e : PoolEntry). not (leaves e)) es known.numbered);
      }

pub funded_left : (gone : List ℕ) (options : PoolOptions) (credit : List ℕ) (es : List PoolEntry) → AreFunded options credit es → AreFunded options (paid_back credit (filter (λ (e : PoolEntry). is_one_of gone e.id && pays_at_end e) es)) (left_without gone es)
funded_left gone = funded_leaving (λ (e : PoolEntry). is_one_of gone e.id)

-- ## A new shape, and a new entry

none_owes : (t : ℕ) (es : List PoolEntry) → AllByRecursion (λ (e : PoolEntry). e.shape < t) es → count_by (is_unpaid t) es ≡ 0
none_owes t [] h = refl
none_owes t (e ∷ es) h =
    let rest = none_owes t es h.1 in
    let all = sum_by-cons (λ (x : PoolEntry). one_if (is_unpaid t x)) e es in
    let other : one_if (is_unpaid t e) ≡ 0 = elim (e.shape == t) as (λ b. (e.shape == t) ≡ b → one_if (b && not e.is_paid) ≡ 0) [
      | true ↦ λ is. absurd (let same = (Decides-eqb e.shape t).0 is in omega (arith, same, h.0))
      | false ↦ λ _. refl
    ] refl in
    omega (arith, rest, all, other)

pub funded_shape : (options : PoolOptions) (credit : List ℕ) (es : List PoolEntry) → (0 < length credit ⊎ (es ≡ [])) → AreFunded options credit es → AreFunded options (credit ++ options.credits ∷ []) es
funded_shape options credit es some_or known =
    let longer : length (credit ++ options.credits ∷ []) ≡ length credit + 1 = omega (arith, length-append credit (options.credits ∷ [])) in record {
      each = λ t some low. elim (t == length credit + 1) as (λ b. (t == length credit + 1) ≡ b → credit_of t (credit ++ options.credits ∷ []) + count_by (is_unpaid t) es ≤ options.credits) [
        | true ↦ λ e.
            let is : t ≡ length credit + 1 = (Decides-eqb t (length credit + 1)).0 e in
            let new : credit_of t (credit ++ options.credits ∷ []) ≡ options.credits = get_or_push credit options.credits 0 (t - 1) (omega arith) in
            let none = none_owes t es (all_on (IsNumbered (length credit)) (λ (e : PoolEntry). e.shape < t) es (λ e _ h. omega (arith, h.0, is)) known.numbered) in
            omega (arith, new, none)
        | false ↦ λ e.
            let differs : t ≢ length credit + 1 = λ h. let same = (Decides-eqb t (length credit + 1)).1 h in let wrong : true ≡ false = sym same ∙ e in cc in
            let low_before : t ≤ length credit = omega arith in
            let same : credit_of t (credit ++ options.credits ∷ []) ≡ credit_of t credit = get_or_append_left credit (options.credits ∷ []) 0 (t - 1) (omega arith) in
            let before = known.each t some low_before in
            omega (arith, same, before)
      ] refl;
      numbered = elim some_or [
        | inl more ↦ all_on (IsNumbered (length credit)) (IsNumbered (length (credit ++ options.credits ∷ []))) es (λ e _ h. (omega (arith, h.0), λ _. h.1 more)) known.numbered
        | inr none ↦ subst (λ xs. AllByRecursion (IsNumbered (length (credit ++ options.credits ∷ []))) xs) (sym none) tt
      ];
    }

pub funded_new : (options : PoolOptions) (credit : List ℕ) (es : List PoolEntry) (e : PoolEntry) → e.is_paid ≡ false → IsNumbered (length credit) e → (0 < length credit → 0 < credit_of e.shape credit) → AreFunded options credit es → AreFunded options (one_less credit e.shape) (es ++ e ∷ [])
funded_new options credit es e unpaid number rich known =
    let same : length (one_less credit e.shape) ≡ length credit = length-set credit (e.shape - 1) (credit_of e.shape credit - 1) in record {
      each = λ t some low.
          let low_before : t ≤ length credit = omega arith in
          let less = less_is credit e.shape t (number.1 (omega arith)) number.0 some in
          let count : count_by (is_unpaid t) (es ++ e ∷ []) ≡ count_by (is_unpaid t) es + one_if (is_unpaid t e) = sum_by_push (λ (x : PoolEntry). one_if (is_unpaid t x)) es e in
          let before = known.each t some low_before in
          let one : one_if (is_unpaid t e) ≡ one_if (e.shape == t) = ap (λ b. one_if ((e.shape == t) && not b)) unpaid ∙ and_true (e.shape == t) in
          let enough : one_if (e.shape == t) ≤ credit_of t credit = elim (e.shape == t) as (λ b. (e.shape == t) ≡ b → one_if b ≤ credit_of t credit) [
            | true ↦ λ is. let at : e.shape ≡ t = (Decides-eqb e.shape t).0 is in let r = subst (λ k. 0 < credit_of k credit) at (rich (omega arith)) in omega (arith, r)
            | false ↦ λ _. omega arith
          ] refl in
          omega (arith, less, count, before, one, enough);
      numbered = subst (λ n. AllByRecursion (IsNumbered n) (es ++ e ∷ [])) (sym same) (all_snoc (IsNumbered (length credit)) es e known.numbered number);
    }
  where
    and_true : (b : Bool) → one_if (b && true) ≡ one_if b
    and_true true = refl
    and_true false = refl
