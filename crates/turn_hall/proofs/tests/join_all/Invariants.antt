-- The writers that are left are those with the lowest numbers.
use Rattle.std.proofs.Common.{◌≡◌, ℕ, ◌<◌, ◌≤◌, vec_len}
use Rattle.std.specs.Prelude.{All, IsSome}
use Rattle.turn_hall.specs.Entries.{kept_under}
use Rattle.turn_hall.specs.Passes.{IsPassOf, pass_number, split_count, joined_passes, IsFree}
use Rattle.turn_hall.proofs.tests.join_all.Given as goal

abbrev pub invariant-joins : goal.invariant-joins
invariant-joins l =
    IsPassOf l.hall l.first × IsFree l.first × (pass_number l.first ≡ 0)
    × All (λ w. IsPassOf l.hall w.pass) l.writers.items
    × ((k : ℕ) → vec_len l.writers < k → k ≤ split_count l.first → IsSome (kept_under k (joined_passes l.first)))

abbrev pub decreases-joins : goal.decreases-joins
decreases-joins l = vec_len l.writers
