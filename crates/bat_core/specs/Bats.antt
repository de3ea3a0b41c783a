-- The stated bytes of a BAT.
use Rattle.std.specs.Prelude.{ℕ, ◌+◌, if◌then◌else◌}
use Rattle.cell_core.specs.Pairs.{Pairs, heads_of, tails_of}
use Rattle.chunk_core.specs.Facts.{cells_bytes, is_dense}

-- 64, the bytes of the tails, and those of the heads where these aren't dense
abbrev pub bat_bytes : Pairs → ℕ
bat_bytes b = 64 + cells_bytes (tails_of b) + (if is_dense (heads_of b) then 0 else cells_bytes (heads_of b))
