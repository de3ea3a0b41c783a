-- What is given up, as a function: its steps are counted, since each of them takes a row away.
use Rattle.std.specs.Prelude.{◌≡◌, ◌↔◌, ℕ, zero, suc, ◌+◌, ◌-◌, ◌≤◌, ◌==◌, List, [], ◌∷◌, Bool, true, false, not, Option, Some, None, length, filter, sum_by}
use Rattle.std.specs.List.{Contains, list_any}
use Rattle.score_hook.specs.declared.stats.Stats.{Stats}
use Rattle.score_hook.specs.declared.stats.Score.{Score}
use Rattle.evict_admit.specs.declared.plan.Row.{Row}
use Rattle.evict_admit.specs.Evictions.{GivesUp, is_enough, is_parent, next_of, without}

-- the ids that are given up, in order, and whether that is enough
abbrev pub Run : Type 0
Run = List ℕ × Bool

-- it ends where nothing is wanted or no row can go, and else the next row goes first
abbrev pub run_step : Bool → Option Row → (Row → Run) → Run
run_step true next more = ([], true)
run_step false None more = ([], false)
run_step false (Some row) more = (row.id ∷ (more row).0, (more row).1)

-- at most so many rows go
abbrev pub run_of : ℕ → (Stats → Score) → List Row → ℕ → ℕ → Run
run_of zero score rows bytes places = ([], is_enough bytes places)
run_of (suc n) score rows bytes places =
    run_step (is_enough bytes places) (next_of score rows) (λ (row : Row). run_of n score (without row.id rows) (bytes - row.bytes) (places - 1))

-- what is given up of these rows, where so many bytes and places are wanted
abbrev pub given_up : (Stats → Score) → List Row → ℕ → ℕ → Run
given_up score rows bytes places = run_of (length rows) score rows bytes places

-- ## What holds of a run

-- the id is one of these
abbrev pub is_one_of : List ℕ → ℕ → Bool
is_one_of ids id = list_any (λ i. id == i) ids

-- the rows that are left
abbrev pub left : List ℕ → List Row → List Row
left ids rows = filter (λ (row : Row). not (is_one_of ids row.id)) rows

abbrev pub row_bytes : List Row → ℕ
row_bytes rows = sum_by (λ (row : Row). row.bytes) rows

-- so many bytes and places are free, no row that is left has lost a parent, and each row that went was free
pub record LeavesWhole (rows : List Row) (bytes places : ℕ) (ids : List ℕ) (enough : Bool) : Type 0 where
  pub bytes_freed : enough ≡ true → bytes + row_bytes (left ids rows) ≤ row_bytes rows
  pub places_freed : enough ≡ true → places + length (left ids rows) ≤ length rows
  pub keeps_parents : (row : Row) → Contains (left ids rows) row → (id : ℕ) → Contains ids id → is_parent id row ≡ false
  pub were_free : (id : ℕ) → Contains ids id → (row : Row) × Contains rows row × (row.id ≡ id) × (row.free ≡ true)

-- a plan is what the function returns, and nothing else is; and a plan leaves all whole
abbrev pub RunsAreFunctions : Type 0
RunsAreFunctions = (score : Stats → Score) (rows : List Row) (bytes places : ℕ) (ids : List ℕ) (enough : Bool)
    → (GivesUp score rows bytes places ids enough ↔ (given_up score rows bytes places ≡ (ids, enough)))
    × (GivesUp score rows bytes places ids enough → LeavesWhole rows bytes places ids enough)
