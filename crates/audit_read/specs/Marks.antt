-- What is found after bytes that were read already. Only private contracts cite this.
use Rattle.std.specs.Prelude.{ℕ, ◌+◌, List, ◌++◌, Option, Some, None}

-- so many bytes, of which these are kept, before what is found after them
abbrev pub found_after : List ℕ → ℕ → Option (List ℕ × ℕ) → Option (List ℕ × ℕ)
found_after bytes size None = None
found_after bytes size (Some found) = Some (bytes ++ found.0, size + found.1)
