-- Lists of entries, each of which names a number.
use Rattle.std.specs.Prelude.{◌≡◌, ℕ, List, ◌++◌, length, filter, ◌==◌, nat_le, Option, if◌then◌else◌}
use Rattle.std.specs.Map.{lookup}

module _ {E : Type 0} where
  -- the list begins with these entries
  abbrev pub StartsWith : List E → List E → Type 0
  StartsWith log first = (rest : List E) × (log ≡ first ++ rest)

  -- the entries that name this number, in order
  abbrev pub entries_by : (E → ℕ) → ℕ → List E → List E
  entries_by author number log = filter (λ e. author e == number) log

  -- the longer of two lists
  abbrev pub longer : List E → List E → List E
  longer xs ys = if nat_le (length ys) (length xs) then xs else ys

  -- what was kept under this number
  abbrev pub kept_under : ℕ → List (ℕ × List E) → Option (List E)
  kept_under number joined = lookup (λ k. k == number) joined
