-- Logs of sessions that take turns.
use Rattle.std.specs.Prelude.{◌≡◌, ℕ, ◌-◌, ◌≤◌, List, [], ◌∷◌, ◌++◌, slice_get, Some}
use Rattle.pool_policy.specs.declared.options.PoolOptions.{PoolOptions}
use Rattle.run_log.specs.Events.{EventTree}
use Rattle.session_run.specs.Turns.{InPlan, IsDone, IsNext, Order}

-- sessions that go through their plans in this order and take these turns do these events: at a turn its session does its next event, or none if it is done
pub data IsPlayed (order : Order) (options : PoolOptions) (scripts : List (List (List ℕ))) : List ℕ → List EventTree → Type 0 where
  Starts : IsPlayed order options scripts [] []
  Does : (turns : List ℕ) (log : List EventTree) (session : ℕ) (pieces : List (List ℕ)) (event : EventTree) → IsPlayed order options scripts turns log
      → 1 ≤ session → slice_get scripts (session - 1) ≡ Some pieces → IsNext order options pieces session log event → IsPlayed order options scripts (turns ++ session ∷ []) (log ++ event ∷ [])
  Passes : (turns : List ℕ) (log : List EventTree) (session : ℕ) (pieces : List (List ℕ)) → IsPlayed order options scripts turns log
      → 1 ≤ session → slice_get scripts (session - 1) ≡ Some pieces → IsDone pieces session log → IsPlayed order options scripts (turns ++ session ∷ []) log

-- the turns never fall
abbrev pub RiseFrom : ℕ → List ℕ → Type 0
RiseFrom low [] = Unit {0}
RiseFrom low (turn ∷ turns) = (low ≤ turn) × RiseFrom turn turns

-- the log of a schedule, in which each session goes through its plans in their order: after its turns the sessions run to their ends, from the first to the last
pub record IsScheduled (options : PoolOptions) (scripts : List (List (List ℕ))) (schedule : List ℕ) (log : List EventTree) : Type 0 where
  pub rest : List ℕ
  pub rises : RiseFrom 1 rest
  pub played : IsPlayed InPlan options scripts (schedule ++ rest) log
  pub done : (session : ℕ) (pieces : List (List ℕ)) → 1 ≤ session → slice_get scripts (session - 1) ≡ Some pieces → IsDone pieces session log
