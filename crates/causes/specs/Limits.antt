-- The limit of a script.
use Rattle.std.specs.Prelude.{ℕ}

-- the most bytes that a script may have
abbrev pub most_bytes : ℕ
most_bytes = 1048576
