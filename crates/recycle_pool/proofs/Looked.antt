-- What a look asks for, and what it leaves.
use Rattle.std.proofs.Common.{◌≡◌, ℕ, List, ap, sym, ◌∙◌, subst, arith}
use Rattle.std.specs.Prelude.{filter, ◌&&◌}
use Rattle.std.specs.List.{AllByRecursion}
use Rattle.lineage_key.specs.declared.key.Key.{Key}
use Rattle.evict_admit.specs.Runs.{is_one_of}
use Rattle.pool_policy.specs.declared.entry.Who.{Who}
use Rattle.pool_policy.specs.declared.entry.PoolEntry.{PoolEntry}
use Rattle.pool_policy.specs.Pool.{PoolState}
use Rattle.pool_policy.specs.Looks.{Finding, after_found, after_look, at_ids, ids_pinned, ids_used, look_of, paid_back, pays_back, pinned, used}
use Rattle.pool_policy.specs.Keeps.{IsCounted}
use Rattle.pool_policy.proofs.Fitting.{pools_fit_all}
use Rattle.pool_policy.proofs.Lists.{all_on}
use Rattle.pool_entries.specs.Usable.{CanUse, HaveRisingIds, IsOwed}
use Rattle.recycle_pool.specs.declared.pool.Pool.TheInside.{Inside}
use Rattle.recycle_pool.specs.Usable.{IsLookable}
use Rattle.recycle_pool.specs.Views.{pool_shown, IsKept}

-- a look may search the entries of a pool
pub lookable : (p : Inside) (shown : List PoolEntry) → IsKept p → shown ≡ p.entries.all.items → IsLookable shown
lookable p shown known same =
    let fit = pools_fit_all (pool_shown p) p.moment known.pool known.few known.budget known.moment known.moment in
    subst IsLookable (sym same) (record { next = p.next; rising = known.pool.rising; few = fit.few; pairs = fit.pairs })

-- their ids rise
pub rising : (p : Inside) (shown : List PoolEntry) → IsKept p → shown ≡ p.entries.all.items → HaveRisingIds shown
rising p shown known same = subst HaveRisingIds (sym same) (p.next, known.pool.rising)

-- they may pay back
pub owed : (p : Inside) (shown : List PoolEntry) → IsKept p → shown ≡ p.entries.all.items → IsOwed p.entries.ledger shown
owed p shown known same = subst (IsOwed p.entries.ledger) (sym same) (record {
  each = λ t some low. let all = known.pool.funded.each t some low in omega (arith, all, known.start);
  numbered = known.pool.funded.numbered;
})

-- and they can be used
pub usable : (p : Inside) → IsKept p → AllByRecursion CanUse p.entries.all.items
usable p known = all_on (IsCounted p.moment) CanUse p.entries.all.items (λ e _ k. (omega (arith, k.reuses, known.moment), omega (arith, k.others, known.moment))) known.pool.counted

abbrev payers : Who → Finding → List PoolEntry → List PoolEntry
payers who found entries = filter (λ (e : PoolEntry). is_one_of (ids_used found) e.id && pays_back who e) entries

-- what is used, pinned and paid back is what the policy says
pub looked : (who : Who) (now : ℕ) (key : Key) (pool : PoolState) (found : Finding) (after held : List PoolEntry) (credit : List ℕ) → found ≡ look_of pool key → after ≡ at_ids (ids_used found) (used who now) pool.entries
    → held ≡ at_ids (ids_pinned found) (pinned who) after → credit ≡ paid_back pool.credit (payers who found pool.entries) → record pool { entries = held; moment = now; credit = credit } ≡ after_look who now key pool
looked who now key pool found after held credit is used_is held_is paid =
    let entries = held_is ∙ ap (at_ids (ids_pinned found) (pinned who)) used_is in
    (λ i. record pool { entries = entries i; moment = now; credit = paid i }) ∙ ap (λ f. after_found who now f pool) is
