-- Counters stay far from their ends.
use Rattle.std.proofs.Common.{◌≡◌, ℕ, ◌+◌, ◌*◌, ◌^◌, ◌≤◌, ◌<◌, arith}
use Rattle.pool_policy.specs.declared.options.Admitted.{Admitted}
use Rattle.pool_policy.specs.declared.options.Admitted.TheVariants.{Taken, There, Stale, Orphan, NoCredit, NoRoom}
use Rattle.pool_policy.specs.Pool.{PoolState}
use Rattle.run_log.specs.declared.event.FoundLog.{FoundLog}
use Rattle.run_log.specs.declared.event.FoundLog.TheVariants.{Exact, Within, Across, Miss}
use Rattle.run_log.specs.declared.event.Totals.{Totals}
use Rattle.run_log.specs.Totals.{AreSmall, AreWithin, count_sum, gone_in, with_admission, with_look, with_pool, with_written}

pub small_within : (at : ℕ) (t : Totals) → at < 2 ^ 30 → AreWithin at t → AreSmall t
small_within at t few within = omega (arith, few, within)

-- a look counts twice, and its event once more
pub look_sum : (t : Totals) (found : FoundLog) → count_sum (with_look found t) ≡ count_sum t + 2
look_sum t (Exact id) = omega arith
look_sum t (Within id) = omega arith
look_sum t (Across pieces) = omega arith
look_sum t Miss = omega arith

pub admission_sum : (t : Totals) (answer : Admitted) → count_sum (with_admission answer t) ≡ count_sum t + 1 + gone_in answer
admission_sum t (Taken id bytes gone) = omega arith
admission_sum t (There id) = omega arith
admission_sum t (Stale version) = omega arith
admission_sum t (Orphan id) = omega arith
admission_sum t (NoCredit shape) = omega arith
admission_sum t (NoRoom bytes) = omega arith

pub event_within : (at : ℕ) (t : Totals) (pool : PoolState) (more : ℕ) (before : Totals) → count_sum t ≤ count_sum before + more → more ≤ 4095 → AreWithin at before → AreWithin (at + 1) (with_pool pool t)
event_within at t pool more before counted few within = omega (arith, counted, few, within)
