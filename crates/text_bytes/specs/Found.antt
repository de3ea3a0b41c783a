-- What readers of texts find, as options.
use Rattle.std.specs.Prelude.{ℕ, ◌+◌, List, ◌++◌, Option, Some, None}

-- what follows a value that was found
abbrev pub then_read : {X Y : Type 0} → Option X → (X → Option Y) → Option Y
then_read None f = None
then_read (Some x) f = f x

-- the bytes, before what is found one byte further on
abbrev pub joined : List ℕ → Option (List ℕ × ℕ) → Option (List ℕ × ℕ)
joined kept None = None
joined kept (Some found) = Some (kept ++ found.0, found.1 + 1)
