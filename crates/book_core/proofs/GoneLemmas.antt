-- An admission evicts no more entries than there are.
use Rattle.std.proofs.Common.{◌≡◌, ℕ, zero, suc, ◌-◌, ◌≤◌, List, [], ◌∷◌, ◌++◌, Bool, true, false, ◌&&◌, cond, Option, Some, None, refl, subst, arith, length}
use Rattle.std.specs.Prelude.{◌==◌}
use Rattle.std.specs.Option.{option_map_or}
use Rattle.std.proofs.lemmas.List.{length-map}
use Rattle.score_hook.specs.declared.stats.Stats.{Stats}
use Rattle.score_hook.specs.declared.stats.Score.{Score}
use Rattle.lineage_key.specs.Parents.{parents_of}
use Rattle.evict_admit.specs.declared.plan.Row.{Row}
use Rattle.evict_admit.specs.Evictions.{is_enough, next_of, without}
use Rattle.evict_admit.specs.Runs.{Run, run_of, run_step}
use Rattle.pool_policy.specs.declared.entry.Who.{Who}
use Rattle.pool_policy.specs.declared.entry.PoolEntry.{PoolEntry}
use Rattle.pool_policy.specs.declared.options.Admitted.{Admitted}
use Rattle.pool_policy.specs.declared.options.Admitted.TheVariants.{NoCredit, Stale}
use Rattle.pool_policy.specs.Pool.{PoolState, has_credits}
use Rattle.pool_policy.specs.Keyed.{entry_of_key, shape_in}
use Rattle.pool_policy.specs.Admits.{Offer, admit_of, by_credit, by_key, by_parents, by_room, credit_of, evictions_for, is_other_version, missing_parent, number_from, row_of, rows_of, shape_number, with_shape}
use Rattle.run_log.specs.Totals.{gone_in}

pub run_few : (n : ℕ) (score : Stats → Score) (rows : List Row) (bytes places : ℕ) → length (run_of n score rows bytes places).0 ≤ n
run_few zero score rows bytes places = omega arith
run_few (suc n) score rows bytes places =
    step (is_enough bytes places) (next_of score rows) (λ (row : Row). run_of n score (without row.id rows) (bytes - row.bytes) (places - 1))
    (λ row. run_few n score (without row.id rows) (bytes - row.bytes) (places - 1))
  where
    step : (b : Bool) (next : Option Row) (more : Row → Run) → ((row : Row) → length (more row).0 ≤ n) → length (run_step b next more).0 ≤ suc n
    step true next more few = omega arith
    step false None more few = omega arith
    step false (Some row) more few = let rest = few row in omega (arith, rest)

room_few : (who : Who) (now : ℕ) (offer : Offer) (shape : ℕ) (pool : PoolState) (n : ℕ) (run : Run) → length run.0 ≤ n → gone_in (by_room who now offer shape pool run).0 ≤ n
room_few who now offer shape pool n (gone, true) few = few
room_few who now offer shape pool n (gone, false) few = omega arith

credit_few : (who : Who) (now : ℕ) (offer : Offer) (pool : PoolState) → gone_in (by_credit who now offer pool).0 ≤ length pool.entries
credit_few who now offer pool = elim (has_credits pool.options && credit_of (shape_number offer pool) pool.credit == 0) as (λ b. gone_in (cond b (let r : Admitted × PoolState = (NoCredit (shape_number offer pool), pool) in r) (by_room who now offer (shape_number offer pool) pool (evictions_for now offer pool))).0 ≤ length pool.entries) [
  | true ↦ omega arith
  | false ↦ room_few who now offer (shape_number offer pool) pool (length pool.entries) (evictions_for now offer pool)
      (subst (λ n. length (evictions_for now offer pool).0 ≤ n) (length-map pool.entries (row_of (parents_of offer.key)))
      (run_few (length (rows_of (parents_of offer.key) pool.entries)) _ (rows_of (parents_of offer.key) pool.entries) _ _))
]

shape_entries : (offer : Offer) (pool : PoolState) → (with_shape offer pool).entries ≡ pool.entries
shape_entries offer pool = elim (has_credits pool.options) as (λ b. (cond b (option_map_or (λ n. pool) (number_from 1 (shape_in pool.entries offer.key) pool.shapes) (record pool { shapes = pool.shapes ++ shape_in pool.entries offer.key ∷ []; credit = pool.credit ++ pool.options.credits ∷ [] })) pool).entries ≡ pool.entries) [
  | true ↦ elim (number_from 1 (shape_in pool.entries offer.key) pool.shapes) as (λ o. (option_map_or (λ n. pool) o (record pool { shapes = pool.shapes ++ shape_in pool.entries offer.key ∷ []; credit = pool.credit ++ pool.options.credits ∷ [] })).entries ≡ pool.entries) [ Some n ↦ refl | None ↦ refl ]
  | false ↦ refl
]

parents_few : (who : Who) (now : ℕ) (offer : Offer) (pool : PoolState) (missing : Option ℕ) → gone_in (by_parents who now offer pool missing).0 ≤ length pool.entries
parents_few who now offer pool (Some id) = omega arith
parents_few who now offer pool None = subst (λ (es : List PoolEntry). gone_in (by_credit who now offer (with_shape offer pool)).0 ≤ length es) (shape_entries offer pool) (credit_few who now offer (with_shape offer pool))

key_few : (who : Who) (now : ℕ) (offer : Offer) (pool : PoolState) (found : Option PoolEntry) → gone_in (by_key who now offer pool found).0 ≤ length pool.entries
key_few who now offer pool (Some e) = omega arith
key_few who now offer pool None = elim (is_other_version offer.key offer.present) as (λ b. gone_in (cond b (let r : Admitted × PoolState = (Stale offer.present, pool) in r) (by_parents who now offer pool (missing_parent offer pool))).0 ≤ length pool.entries) [
  | true ↦ omega arith
  | false ↦ parents_few who now offer pool (missing_parent offer pool)
]

pub gone_few : (who : Who) (now : ℕ) (offer : Offer) (pool : PoolState) → gone_in (admit_of who now offer pool).0 ≤ length pool.entries
gone_few who now offer pool = key_few who now offer (record pool { moment = now }) (entry_of_key offer.key pool.entries)
