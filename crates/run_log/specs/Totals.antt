-- The totals of a run: one number for each line that is printed of the pool.
use Rattle.std.specs.Prelude.{ℕ, ◌+◌, ◌*◌, ◌<◌, ◌≤◌, ◌^◌, length, max}
use Rattle.pool_policy.specs.declared.options.Admitted.{Admitted}
use Rattle.pool_policy.specs.declared.options.Admitted.TheVariants.{Taken, There, Stale, Orphan, NoCredit, NoRoom}
use Rattle.pool_policy.specs.Pool.{PoolState, pool_bytes}
use Rattle.pool_policy.specs.Writes.{Written}
use Rattle.run_log.specs.declared.event.FoundLog.{FoundLog}
use Rattle.run_log.specs.declared.event.FoundLog.TheVariants.{Exact, Within, Across, Miss}
use Rattle.run_log.specs.declared.event.Totals.{Totals}

abbrev pub no_totals : Totals
no_totals = record { entries = 0; bytes = 0; peak = 0; looks = 0; exact = 0; within = 0; across = 0; miss = 0; taken = 0; there = 0; stale = 0; orphan = 0; nocredit = 0; noroom = 0; evicted = 0; dropped = 0; carried = 0; work = 0; events = 0 }

-- a look by what it found
abbrev pub with_finding : FoundLog → Totals → Totals
with_finding (Exact id) t = record t { exact = t.exact + 1 }
with_finding (Within id) t = record t { within = t.within + 1 }
with_finding (Across pieces) t = record t { across = t.across + 1 }
with_finding Miss t = record t { miss = t.miss + 1 }

abbrev pub with_look : FoundLog → Totals → Totals
with_look found t = let more = with_finding found t in record more { looks = more.looks + 1 }

-- an admission by its answer
abbrev pub with_admission : Admitted → Totals → Totals
with_admission (Taken id bytes gone) t = record t { taken = t.taken + 1; evicted = t.evicted + gone }
with_admission (There id) t = record t { there = t.there + 1 }
with_admission (Stale version) t = record t { stale = t.stale + 1 }
with_admission (Orphan id) t = record t { orphan = t.orphan + 1 }
with_admission (NoCredit shape) t = record t { nocredit = t.nocredit + 1 }
with_admission (NoRoom bytes) t = record t { noroom = t.noroom + 1 }

-- how many entries an admission gave up
abbrev pub gone_in : Admitted → ℕ
gone_in (Taken id bytes gone) = gone
gone_in _ = 0

-- an accepted write by what it did to the pool
abbrev pub with_written : ℕ → ℕ → ℕ → Totals → Totals
with_written dropped carried evicted t = record t { dropped = t.dropped + dropped; carried = t.carried + carried; evicted = t.evicted + evicted }

abbrev pub with_work : ℕ → Totals → Totals
with_work work t = record t { work = t.work + work }

abbrev pub with_write : Written → Totals → Totals
with_write w t = with_work w.work (with_written w.dropped w.carried w.evicted t)

-- after each event: what the pool holds then, and one event more
abbrev pub holding : ℕ → ℕ → Totals → Totals
holding entries bytes t = record t { entries = entries; bytes = bytes; peak = max t.peak bytes; events = t.events + 1 }

abbrev pub with_pool : PoolState → Totals → Totals
with_pool pool t = holding (length pool.entries) (pool_bytes pool.entries) t

-- the sum of all counters
abbrev pub count_sum : Totals → ℕ
count_sum t = t.looks + t.exact + t.within + t.across + t.miss + t.taken + t.there + t.stale + t.orphan + t.nocredit + t.noroom + t.evicted + t.dropped + t.carried + t.events

-- they are far from their ends
abbrev pub AreSmall : Totals → Type 0
AreSmall t = count_sum t < 2 ^ 62

-- the counters after so many events, each of which gives up, drops and carries at most 1,024 entries; they are small after fewer than 2^32
abbrev pub AreWithin : ℕ → Totals → Type 0
AreWithin at t = count_sum t ≤ 4096 * at
