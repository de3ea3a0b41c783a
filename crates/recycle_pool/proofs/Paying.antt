-- Entries that pay back one after the other.
use Rattle.std.proofs.Common.{◌≡◌, ℕ, ◌-◌, ◌≤◌, List, [], ◌∷◌, Bool, true, false, cond, ap, sym, ◌∙◌, subst, arith, length, take, drop}
use Rattle.std.specs.Prelude.{filter, get_or, if◌then◌else◌}
use Rattle.std.proofs.lemmas.List.{take_all}
use Rattle.evict_admit.specs.Credits.{Credits}
use Rattle.pool_policy.specs.declared.entry.PoolEntry.{PoolEntry}
use Rattle.pool_policy.specs.Looks.{one_more, paid_back}
use Rattle.pool_entries.specs.Usable.{IsOwed}
use Rattle.pool_entries.proofs.Owed.{owed_first}

-- what the first alone may pay back
pub owed_here : (credits : Credits) (es more : List PoolEntry) (e : PoolEntry) → es ≡ e ∷ more → IsOwed credits es → IsOwed credits (e ∷ [])
owed_here credits es more e split known = owed_first credits e more (subst (IsOwed credits) split known)

-- once the first has paid, the others pay back what is left of it
pub paid_on : (p : PoolEntry → Bool) (old new all : List ℕ) (es more : List PoolEntry) (e : PoolEntry) (pays : Bool) → es ≡ e ∷ more → pays ≡ p e → new ≡ (if pays then one_more old e.shape else old)
    → paid_back old (filter p es) ≡ all → paid_back new (filter p more) ≡ all
paid_on p old new all es more e pays split pays_is new_is whole = go pays pays_is new_is ∙ ap (λ xs. paid_back old (filter p xs)) (sym split) ∙ whole
  where
    go : (b : Bool) → b ≡ p e → new ≡ (if b then one_more old e.shape else old) → paid_back new (filter p more) ≡ paid_back old (filter p (e ∷ more))
    go true is paid = ap (λ cs. paid_back cs (filter p more)) paid ∙ ap (λ b. paid_back old (cond b (e ∷ filter p more) (filter p more))) is
    go false is paid = ap (λ cs. paid_back cs (filter p more)) paid ∙ ap (λ b. paid_back old (cond b (e ∷ filter p more) (filter p more))) is
