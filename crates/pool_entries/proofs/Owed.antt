-- What entries may pay back.
use Rattle.std.proofs.Common.{◌≡◌, ℕ, ◌+◌, ◌≤◌, List, [], ◌∷◌, Bool, true, false, not, ◌&&◌, refl, ap, sym, ◌∙◌, subst, arith, length}
use Rattle.std.specs.Prelude.{◌==◌, count_by}
use Rattle.std.specs.List.{AllByRecursion}
use Rattle.std.proofs.lemmas.List.Sums.{sum_by-cons}
use Rattle.evict_admit.specs.Credits.{Credits}
use Rattle.pool_policy.specs.declared.entry.PoolEntry.{PoolEntry}
use Rattle.pool_policy.specs.Looks.{at_ids, one_more}
use Rattle.pool_policy.specs.Admits.{credit_of}
use Rattle.pool_policy.specs.Keeps.{is_unpaid}
use Rattle.pool_policy.proofs.Credits.{IsNumbered, length_paid, one_if, paid_is}
use Rattle.pool_entries.specs.Usable.{IsOwed}

pub none_changed : (change : PoolEntry → PoolEntry) (es : List PoolEntry) → es ≡ at_ids [] change es
none_changed change [] = refl
none_changed change (e ∷ es) = ap (λ xs. e ∷ xs) (none_changed change es)

owes : (t : ℕ) (e : PoolEntry) (es : List PoolEntry) → count_by (is_unpaid t) (e ∷ es) ≡ one_if (is_unpaid t e) + count_by (is_unpaid t) es
owes t e es = sum_by-cons (λ (x : PoolEntry). one_if (is_unpaid t x)) e es

on_length : (m n : ℕ) (es : List PoolEntry) → m ≡ n → AllByRecursion (IsNumbered n) es → AllByRecursion (IsNumbered m) es
on_length m n es same all = subst (λ k. AllByRecursion (IsNumbered k) es) (sym same) all

-- what the others may pay back
pub owed_rest : (credits : Credits) (e : PoolEntry) (es : List PoolEntry) → IsOwed credits (e ∷ es) → IsOwed credits es
owed_rest credits e es known = record {
  each = λ t some low. let one = owes t e es in let all = known.each t some low in omega (arith, one, all);
  numbered = known.numbered.1;
}

-- what the first alone may pay back
pub owed_first : (credits : Credits) (e : PoolEntry) (es : List PoolEntry) → IsOwed credits (e ∷ es) → IsOwed credits (e ∷ [])
owed_first credits e es known = record {
  each = λ t some low. let one = owes t e es in let only = owes t e [] in let all = known.each t some low in omega (arith, one, only, all);
  numbered = (known.numbered.0, tt);
}

-- once the first has paid back
pub owed_paid : (old new : Credits) (e : PoolEntry) (es : List PoolEntry) → IsOwed old (e ∷ es) → e.is_paid ≡ false → new.start ≡ old.start → new.each ≡ one_more old.each e.shape → IsOwed new es
owed_paid old new e es known unpaid start each =
    let same : length new.each ≡ length old.each = ap (λ (cs : List ℕ). length cs) each ∙ length_paid old.each (e ∷ []) in record {
      each = λ t some low.
          let low_before : t ≤ length old.each = omega (arith, same, low) in
          let credit : credit_of t new.each ≡ credit_of t old.each + count_by (λ (x : PoolEntry). x.shape == t) (e ∷ []) = ap (credit_of t) each ∙ paid_is t (e ∷ []) old.each some low_before (known.numbered.0, tt) in
          let only = sum_by-cons (λ (x : PoolEntry). one_if (x.shape == t)) e [] in
          let one : one_if (is_unpaid t e) ≡ one_if (e.shape == t) = ap (λ b. one_if ((e.shape == t) && not b)) unpaid ∙ and_true (e.shape == t) in
          let first = owes t e es in
          let all = known.each t some low_before in
          omega (arith, credit, only, one, first, all, start);
      numbered = on_length (length new.each) (length old.each) es same known.numbered.1;
    }
  where
    and_true : (b : Bool) → one_if (b && true) ≡ one_if b
    and_true true = refl
    and_true false = refl
