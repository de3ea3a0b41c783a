-- What an admission gives out, and when it was.
use Rattle.std.proofs.Common.{◌≡◌, ℕ, ◌+◌, ◌≤◌, ◌<◌, List, [], ◌∷◌, ◌++◌, Bool, true, false, not, ◌&&◌, cond, Option, Some, None, ◌⊎◌, inl, inr, refl, ap, sym, ◌∙◌, subst, arith, length, map}
use Rattle.std.specs.Prelude.{◌==◌}
use Rattle.std.specs.List.{AllByRecursion}
use Rattle.std.specs.Option.{option_map_or}
use Rattle.cell_core.specs.declared.operator.Value.TheVariants.{Bat}
use Rattle.cell_core.specs.Operators.{operate}
use Rattle.lineage_key.specs.declared.key.Key.{Key}
use Rattle.lineage_key.specs.Parents.{is_bind, parents_of}
use Rattle.evict_admit.specs.Runs.{Run}
use Rattle.subsume.proofs.Members.{In}
use Rattle.pool_policy.specs.declared.entry.Who.{Who}
use Rattle.pool_policy.specs.declared.entry.PoolEntry.{PoolEntry}
use Rattle.pool_policy.specs.declared.options.Admitted.{Admitted}
use Rattle.pool_policy.specs.declared.options.Admitted.TheVariants.{NoCredit, Stale}
use Rattle.pool_policy.specs.Pool.{PoolState, has_credits}
use Rattle.pool_policy.specs.Keyed.{entry_of_key, is_pooled, shape_in}
use Rattle.pool_policy.specs.Admits.{Offer, admit_of, by_credit, by_key, by_parents, by_room, credit_of, evictions_for, is_other_version, missing_parent, number_from, shape_number, with_shape}
use Rattle.pool_policy.specs.Keeps.{Face, IsOffer, IsPool, Rises, faces}
use Rattle.pool_policy.specs.Worths.{GivesOn, IsWorth, faces_from}
use Rattle.pool_policy.proofs.AdmitGiven.{admit_given}
use Rattle.pool_policy.proofs.Ends.{all_from}
use Rattle.pool_policy.proofs.Faces.{ids_below, value_found}
use Rattle.pool_policy.proofs.Given.{offer_from_worth}
use Rattle.pool_policy.proofs.Lists.{all_at}
use Rattle.pool_policy.proofs.NewEntry.{pooled_value}
use Rattle.run_log.specs.Fold.{LogState, key_offer}
use Rattle.run_log.specs.Laws.{IsOffered, IsSound}

-- the ids of a pool are above 0
above_none : (pool : PoolState) → IsPool pool → (f : Face) → In f (faces pool.entries) → 0 < f.id
above_none pool known f i = let both = all_at (λ (g : Face). (1 ≤ g.id) × (g.id < pool.next)) (faces pool.entries) f (ids_below 1 pool.next (faces pool.entries) known.rising) i in omega (arith, both.0)

-- ## Its moment

room_moment : (who : Who) (now : ℕ) (offer : Offer) (shape : ℕ) (pool : PoolState) (run : Run) → (by_room who now offer shape pool run).1.moment ≡ pool.moment
room_moment who now offer shape pool (gone, true) = refl
room_moment who now offer shape pool (gone, false) = refl

credit_moment : (who : Who) (now : ℕ) (offer : Offer) (pool : PoolState) → (by_credit who now offer pool).1.moment ≡ pool.moment
credit_moment who now offer pool = elim (has_credits pool.options && credit_of (shape_number offer pool) pool.credit == 0) as (λ b. (cond b (let r : Admitted × PoolState = (NoCredit (shape_number offer pool), pool) in r) (by_room who now offer (shape_number offer pool) pool (evictions_for now offer pool))).1.moment ≡ pool.moment) [
  | true ↦ refl
  | false ↦ room_moment who now offer (shape_number offer pool) pool (evictions_for now offer pool)
]

shape_moment : (offer : Offer) (pool : PoolState) → (with_shape offer pool).moment ≡ pool.moment
shape_moment offer pool = elim (has_credits pool.options) as (λ b. (cond b (option_map_or (λ n. pool) (number_from 1 (shape_in pool.entries offer.key) pool.shapes) (record pool { shapes = pool.shapes ++ shape_in pool.entries offer.key ∷ []; credit = pool.credit ++ pool.options.credits ∷ [] })) pool).moment ≡ pool.moment) [
  | true ↦ elim (number_from 1 (shape_in pool.entries offer.key) pool.shapes) as (λ o. (option_map_or (λ n. pool) o (record pool { shapes = pool.shapes ++ shape_in pool.entries offer.key ∷ []; credit = pool.credit ++ pool.options.credits ∷ [] })).moment ≡ pool.moment) [ Some n ↦ refl | None ↦ refl ]
  | false ↦ refl
]

parents_moment : (who : Who) (now : ℕ) (offer : Offer) (pool : PoolState) (missing : Option ℕ) → (by_parents who now offer pool missing).1.moment ≡ pool.moment
parents_moment who now offer pool (Some id) = refl
parents_moment who now offer pool None = credit_moment who now offer (with_shape offer pool) ∙ shape_moment offer pool

key_moment : (who : Who) (now : ℕ) (offer : Offer) (pool : PoolState) (found : Option PoolEntry) → (by_key who now offer pool found).1.moment ≡ pool.moment
key_moment who now offer pool (Some e) = refl
key_moment who now offer pool None = elim (is_other_version offer.key offer.present) as (λ b. (cond b (let r : Admitted × PoolState = (Stale offer.present, pool) in r) (by_parents who now offer pool (missing_parent offer pool))).1.moment ≡ pool.moment) [
  | true ↦ refl
  | false ↦ parents_moment who now offer pool (missing_parent offer pool)
]

pub admit_moment : (who : Who) (now : ℕ) (offer : Offer) (pool : PoolState) → (admit_of who now offer pool).1.moment ≡ now
admit_moment who now offer pool = key_moment who now offer (record pool { moment = now }) (entry_of_key offer.key pool.entries)

-- ## What may be offered

pub offered_fits : (s : LogState) → IsSound s → (key : Key) → IsOffered key s → IsOffer s.pool (key_offer key s)
offered_fits s sound key offered = record {
  work = offered.work;
  few = offered.few;
  sole = offered.sole;
  computed = λ plain pooled. (offer_from_worth s.given s.pool (key_offer key s) sound.given (worth pooled)).computed plain pooled;
}
  where
    above : AllByRecursion (λ id. is_pooled s.pool.entries id ≡ true) (parents_of key) → AllByRecursion (λ id. 0 < id) (parents_of key)
    above pooled = all_from (λ id. 0 < id) (parents_of key) (λ id i.
        let found = value_found (faces s.pool.entries) id (pooled_value s.pool.entries id (all_at (λ id. is_pooled s.pool.entries id ≡ true) (parents_of key) id pooled i)) in
        let positive = above_none s.pool sound.pool found.0 found.1 in omega (arith, positive, found.2))

    worth : AllByRecursion (λ id. is_pooled s.pool.entries id ≡ true) (parents_of key) → IsWorth s.given (key_offer key s)
    worth pooled = record { work = offered.work; few = offered.few; sole = offered.sole; computed = λ plain. offered.computed plain (above pooled) }

-- what an admission gives out adds to what was given out
pub admit_goes : (s : LogState) → IsSound s → (who : Who) (key : Key) → IsOffered key s → GivesOn s.given (faces_from s.pool.next (admit_of who (s.at + 1) (key_offer key s) s.pool).1) (admit_of who (s.at + 1) (key_offer key s) s.pool).1
admit_goes s sound who key offered =
    let early = sound.moment in
    admit_given who (s.at + 1) (key_offer key s) s.given s.pool (omega (arith, early)) sound.pool (offered_fits s sound key offered) sound.given
