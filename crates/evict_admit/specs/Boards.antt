-- Helpers of the proof, which private contracts alone cite: what is kept of the rows while a plan is made.
use Rattle.std.specs.Prelude.{◌≡◌, ℕ, ◌+◌, ◌-◌, ◌*◌, ◌<◌, ◌≤◌, ◌==◌, List, Bool, false, not, ◌&&◌, ◌||◌, if◌then◌else◌, Option, Some, None, All, length, nat_lt, slice_index_or, [], filter, count_by}
use Rattle.std.specs.List.{Contains, list_any}
use Rattle.std.specs.List.Sorted.{IsNonDecreasingBy}
use Rattle.std.specs.Option.{ForSome}
use Rattle.score_hook.specs.declared.stats.Stats.{Stats}
use Rattle.score_hook.specs.declared.stats.Score.{Score}
use Rattle.score_hook.specs.Scores.{IsSmall, is_less}
use Rattle.evict_admit.specs.declared.plan.Row.{Row}
use Rattle.evict_admit.specs.declared.contest.Contender.{Contender}
use Rattle.evict_admit.specs.declared.names.Name.{Name}
use Rattle.evict_admit.specs.declared.names.Known.{Known}
use Rattle.evict_admit.specs.declared.board.Left.{Left}
use Rattle.evict_admit.specs.Evictions.{is_parent}

-- the value past the end of a list
abbrev pub no_row : Row
no_row = record { id = 0; bytes = 0; free = false; parents = []; stats = record { class = 0; work = 0; reuses = 0; others = 0; admitted_at = 0; used_at = 0 } }

abbrev pub row_at : List Row → ℕ → Row
row_at rows p = slice_index_or rows p no_row

abbrev pub left_at : List Left → ℕ → Left
left_at lefts p = slice_index_or lefts p (record { children = 0; gone = false })

abbrev pub contender_at : List Contender → ℕ → Contender
contender_at contenders p = slice_index_or contenders p (record { score = record { top = 0; bottom = 1 }; id = 0 })

-- ## The order

-- a row as it is compared
abbrev pub contender_for : (Stats → Score) → Row → Contender
contender_for score row = record { score = score row.stats; id = row.id }

-- by their scores, then by their ids
abbrev pub comes_before : Contender → Contender → Bool
comes_before a b = is_less a.score b.score || (not (is_less b.score a.score) && nat_lt a.id b.id)

-- the scores of any two can be compared
abbrev pub AreSmall : List Contender → Type 0
AreSmall contenders = (most : ℕ) × All (λ c. IsSmall most c.score) contenders

-- ## Contests: a list whose last part has the places that take part, and which has at each place k before it the sooner of those at 2 k and 2 k + 1

-- of two places, the one whose contender comes first
abbrev pub sooner_of : List Contender → Option ℕ → Option ℕ → Option ℕ
sooner_of contenders None b = b
sooner_of contenders (Some p) None = Some p
sooner_of contenders (Some p) (Some q) = if comes_before (contender_at contenders q) (contender_at contenders p) then Some q else Some p

-- the seat of a place, which takes part or not
abbrev pub seat_of : Bool → ℕ → Option ℕ
seat_of seated p = if seated then Some p else None

abbrev pub winner_at : List (Option ℕ) → ℕ → Option ℕ
winner_at winners k = slice_index_or winners k None

-- the winner at k is the sooner of the two below it
abbrev pub IsPlayed : List Contender → List (Option ℕ) → ℕ → Type 0
IsPlayed contenders winners k = winner_at winners k ≡ sooner_of contenders (winner_at winners (2 * k)) (winner_at winners (2 * k + 1))

-- a contest in which the games of these places are played
pub record IsContest (played : ℕ → Type 0) (contenders : List Contender) (winners : List (Option ℕ)) : Type 0 where
  pub size : length winners ≡ 2 * length contenders
  pub places : (k : ℕ) → ForSome (winner_at winners k) (λ p. p < length contenders)
  pub games : (k : ℕ) → 0 < k → k < length contenders → played k → IsPlayed contenders winners k

abbrev pub IsWhole : List Contender → List (Option ℕ) → Type 0
IsWhole = IsContest (λ k. Unit {0})

-- ## Rows by their ids

-- each row is named once, and the names rise by their ids
pub record IsNamed (rows : List Row) (names : List Name) : Type 0 where
  pub rises : IsNonDecreasingBy (λ (name : Name). name.id) names
  pub tells : All (λ (name : Name). (name.place < length rows) × ((row_at rows name.place).id ≡ name.id)) names
  pub each : (p : ℕ) → p < length rows → Contains names (record { id = (row_at rows p).id; place = p })

-- what is known of the rows from the beginning
pub record IsKnown (known : Known) : Type 0 where
  pub few : length known.rows.now ≤ 1024
  pub ids : (p : ℕ) → p < length known.rows.now → 0 < (row_at known.rows.now p).id
  pub named : IsNamed known.rows.now known.names.now
  pub hints : length known.hints.now ≡ 4096
  pub apart : (p q : ℕ) → p < length known.rows.now → q < length known.rows.now → (row_at known.rows.now p).id ≡ (row_at known.rows.now q).id → p ≡ q
  pub same : length known.contenders.now ≡ length known.rows.now
  pub small : AreSmall known.contenders.now

-- ## What changes

abbrev pub one_if : Bool → ℕ
one_if b = if b then 1 else 0

-- a row with one child more, where this is so
abbrev pub more_if : Bool → Left → Left
more_if b left = record left { children = left.children + one_if b }

abbrev pub less_if : Bool → Left → Left
less_if b left = record left { children = left.children - one_if b }

-- a row that is given up, where this is so
abbrev pub gone_if : Bool → Left → Left
gone_if b left = record left { gone = left.gone || b }

-- a row is left, free and without children
abbrev pub may_go : Row → Left → Bool
may_go row left = not left.gone && (row.free && left.children == 0)

-- each row that may go takes part in the contest
pub record IsSeated (known : Known) (lefts : List Left) (winners : List (Option ℕ)) : Type 0 where
  pub room : length lefts ≡ length known.rows.now
  pub whole : IsWhole known.contenders.now winners
  pub seats : (p : ℕ) → p < length known.rows.now → winner_at winners (length known.rows.now + p) ≡ seat_of (may_go (row_at known.rows.now p) (left_at lefts p)) p

-- the state of a row once another is given up
abbrev pub once_gone : Row → Row → Left → Left
once_gone gone row left = record { children = left.children - one_if (is_parent row.id gone); gone = left.gone || row.id == gone.id }

-- the rows whose ids aren't among those given up
abbrev pub is_gone : List ℕ → Row → Bool
is_gone out row = list_any (λ id. row.id == id) out

abbrev pub still : List ℕ → List Row → List Row
still out rows = filter (λ row. not (is_gone out row)) rows

-- the state of a row once rows with these ids are given up
abbrev pub left_of : List ℕ → List Row → Row → Left
left_of out rows row = record { children = count_by (is_parent row.id) (still out rows); gone = is_gone out row }
