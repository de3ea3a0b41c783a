-- Which entries are given up, and in which order. A function from what is known of an entry to its score decides.
use Rattle.std.specs.Prelude.{◌≡◌, ℕ, ◌-◌, ◌==◌, List, [], ◌∷◌, Bool, false, not, ◌&&◌, ◌||◌, Option, Some, None, filter, count_by, nat_lt}
use Rattle.std.specs.List.{list_any}
use Rattle.score_hook.specs.declared.stats.Stats.{Stats}
use Rattle.score_hook.specs.declared.stats.Score.{Score}
use Rattle.score_hook.specs.Scores.{is_less}
use Rattle.cell_core.specs.Sorted.{first_by}
use Rattle.evict_admit.specs.declared.plan.Row.{Row}

-- the entry with this id is a parent of the row
abbrev pub is_parent : ℕ → Row → Bool
is_parent id row = list_any (λ parent. parent == id) row.parents

-- the row is free, and none of the rows has it as parent
abbrev pub can_go : List Row → Row → Bool
can_go rows row = row.free && count_by (is_parent row.id) rows == 0

-- a row goes before another: its score is less, or the same and its id is less
abbrev pub goes_before : (Stats → Score) → Row → Row → Bool
goes_before score a b =
    let score_a = score a.stats in
    let score_b = score b.stats in
    is_less score_a score_b || (not (is_less score_b score_a) && nat_lt a.id b.id)

-- the row that goes next
abbrev pub next_of : (Stats → Score) → List Row → Option Row
next_of score rows = first_by (goes_before score) (filter (can_go rows) rows)

-- the rows without the one that has this id
abbrev pub without : ℕ → List Row → List Row
without id rows = filter (λ row. not (row.id == id)) rows

-- nothing more is wanted
abbrev pub is_enough : ℕ → ℕ → Bool
is_enough bytes places = bytes == 0 && places == 0

-- of these rows, entries with these ids are given up one after the other, until the bytes and the places are free or no row can go; the last says whether they are free
abbrev pub GivesUp : (Stats → Score) → List Row → ℕ → ℕ → List ℕ → Bool → Type 0
GivesUp score rows bytes places [] enough =
    (enough ≡ is_enough bytes places) × (enough ≡ false → next_of score rows ≡ None)
GivesUp score rows bytes places (id ∷ ids) enough =
    (is_enough bytes places ≡ false) × ((row : Row) × (next_of score rows ≡ Some row) × (row.id ≡ id)
    × GivesUp score (without id rows) (bytes - row.bytes) (places - 1) ids enough)
