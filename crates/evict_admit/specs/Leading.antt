-- Helpers of the proof, which private contracts alone cite: what is known of the row that leads, and of the marks of parents.
use Rattle.std.specs.Prelude.{◌≡◌, ℕ, ◌%◌, ◌<◌, List, Bool, true, Option, Some, None, length, if◌then◌else◌, slice_index_or, fold}
use Rattle.std.specs.Option.{ForSome, option_map_or}
use Rattle.score_hook.specs.declared.stats.Stats.{Stats}
use Rattle.score_hook.specs.declared.stats.Score.{Score}
use Rattle.score_hook.specs.Scores.{IsSmall}
use Rattle.evict_admit.specs.declared.plan.Row.{Row}
use Rattle.evict_admit.specs.declared.contest.Contender.{Contender}
use Rattle.evict_admit.specs.declared.leading.Leader.{Leader}
use Rattle.evict_admit.specs.Boards.{comes_before, contender_for, row_at}
use Rattle.evict_admit.specs.Evictions.{goes_before, is_parent}

-- ## Marks

abbrev pub mark_at : List ℕ → ℕ → ℕ
mark_at marks k = slice_index_or marks k 0

-- each parent of these rows has a mark
pub record AreMarked (rows : List Row) (marks : List ℕ) : Type 0 where
  pub size : length marks ≡ 4096
  pub each : (p id : ℕ) → p < length rows → is_parent id (row_at rows p) ≡ true → 0 < mark_at marks (id % 4096)

-- ## The row that leads

-- the row of the leader, where there is one
abbrev pub leading_row : List Row → Option Leader → Option Row
leading_row rows None = None
leading_row rows (Some leader) = Some (row_at rows leader.place)

-- the leader is one of the rows, as it is compared
pub record IsLeader (most : ℕ) (score : Stats → Score) (rows : List Row) (leader : Option Leader) : Type 0 where
  pub place : ForSome leader (λ d. d.place < length rows)
  pub compared : ForSome leader (λ d. d.contender ≡ contender_for score (row_at rows d.place))
  pub small : ForSome leader (λ d. IsSmall most d.contender.score)

-- it goes before the leader, or there is none
abbrev pub comes_first : Contender → Option Leader → Bool
comes_first contender None = true
comes_first contender (Some leader) = comes_before contender leader.contender

-- a free row that goes before the leader, as it is compared
pub record IsChallenger (most : ℕ) (score : Stats → Score) (row : Row) (leader : Option Leader) (contender : Contender) : Type 0 where
  pub free : row.free ≡ true
  pub compared : contender ≡ contender_for score row
  pub small : IsSmall most contender.score
  pub first : comes_first contender leader ≡ true

-- the row that goes first of these and of one that leads
abbrev pub first_beside : (Stats → Score) → Option Row → List Row → Option Row
first_beside score leading rows = fold (λ best row. Some (option_map_or (λ b. if goes_before score row b then row else b) best row)) leading rows
