-- A law about the order in which rows go.
use Rattle.std.specs.Prelude.{◌≡◌, ◌≢◌, ◌↔◌, ◌⊎◌, ℕ, ◌<◌, List, Bool, true, false, Some, map, nat_eq}
use Rattle.std.specs.List.{Contains, IsDistinct}
use Rattle.score_hook.specs.declared.stats.Stats.{Stats}
use Rattle.score_hook.specs.declared.stats.Score.{Score}
use Rattle.score_hook.specs.declared.stats.Evict.{Evict}
use Rattle.score_hook.specs.Scores.{score_of}
use Rattle.cell_core.specs.Sorted.{first_by}
use Rattle.evict_admit.specs.declared.plan.Row.{Row}
use Rattle.evict_admit.specs.Evictions.{goes_before}

-- no row comes before itself, a row comes before all that a later one comes before, and of two with different ids one comes before the other
pub record IsLine (before : Row → Row → Bool) : Type 0 where
  pub itself : (a : Row) → before a a ≡ false
  pub on : (a b c : Row) → before a b ≡ true → before b c ≡ true → before a c ≡ true
  pub apart : (a b : Row) → a.id ≢ b.id → (before a b ≡ true) ⊎ (before b a ≡ true)

-- the row is one of these, and comes before all others
pub record IsLeast (before : Row → Row → Bool) (rows : List Row) (row : Row) : Type 0 where
  pub among : Contains rows row
  pub least : (other : Row) → Contains rows other → other.id ≢ row.id → before row other ≡ true

-- for scores whose bottoms aren't 0 the rule puts rows in one line, and of rows with different ids it finds the least, in whatever order they are given; the scores of each formula are such
abbrev pub OneOrder : Type 0
OneOrder = ((score : Stats → Score) → ((stats : Stats) → 0 < (score stats).bottom) → IsLine (goes_before score)
    × ((rows : List Row) (row : Row) → IsDistinct nat_eq (map (λ (r : Row). r.id) rows) → first_by (goes_before score) rows ≡ Some row ↔ IsLeast (goes_before score) rows row))
    × ((kind : Evict) (weights : List ℕ) (now : ℕ) (stats : Stats) → 0 < (score_of kind weights stats now).bottom)
