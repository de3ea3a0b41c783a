-- Logs of which each event may follow those before it.
use Rattle.std.specs.Prelude.{List, [], ◌∷◌}
use Rattle.pool_policy.specs.declared.options.PoolOptions.{PoolOptions}
use Rattle.run_log.specs.Events.{EventTree}
use Rattle.run_log.specs.Fold.{LogState, after, log_start}
use Rattle.run_log.specs.Laws.{MayFollow}

-- each event may follow the state after those before it
abbrev pub FollowAll : LogState → List EventTree → Type 0
FollowAll s [] = Unit {0}
FollowAll s (event ∷ log) = MayFollow s event.act × FollowAll (after s event) log

abbrev pub IsLawful : PoolOptions → List EventTree → Type 0
IsLawful options log = FollowAll (log_start options) log
