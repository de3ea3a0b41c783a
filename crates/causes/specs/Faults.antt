-- What a count of faults and the bytes of a sink say after a call.
use Rattle.std.specs.Prelude.{ℕ, ◌+◌, ◌-◌, ◌^◌, ◌≤◌, min, List, take, Option}
use Rattle.std.specs.Io.KnownBytes.{Appends}

-- one more, where the last value of a u64 stands for that many or more
abbrev pub next_count : ℕ → ℕ
next_count count = min (count + 1) (2 ^ 64 - 1)

-- the count rose, or is at its last value
abbrev pub Rose : ℕ → ℕ → Type 0
Rose before now = next_count before ≤ now

-- known bytes grew by a prefix of the text
abbrev pub AppendsPrefix : Option (List ℕ) → Option (List ℕ) → List ℕ → Type 0
AppendsPrefix old new text = (count : ℕ) × Appends old new (take count text)
