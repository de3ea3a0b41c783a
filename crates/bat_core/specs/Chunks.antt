-- Chunks that columns share, and lists that are kept in chunks of one length.
use Rattle.std.specs.Prelude.{◌≡◌, ℕ, List, [], ◌∷◌, length, Option, None, Some}
use Rattle.std.specs.declared.sync.Arc.{Arc}
use Rattle.cell_core.specs.declared.cell.Cell.{Cell}
use Rattle.chunk_core.specs.Chunks.{chunk_cells}
use Rattle.chunk_core.specs.declared.chunk.Chunk.{Chunk}

-- the cells of a shared chunk
abbrev pub held_cells : {Z : Type 0} → Arc Chunk Z → List Cell
held_cells held = chunk_cells held.value

-- those of a last chunk, of which there may be none
abbrev pub last_cells : {Z : Type 0} → Option (Arc Chunk Z) → List Cell
last_cells None = []
last_cells (Some held) = held_cells held

-- each chunk holds this many elements
abbrev pub AreFull : {C X : Type 0} → (C → List X) → ℕ → List C → Type 0
AreFull items n [] = Unit {0}
AreFull items n (chunk ∷ chunks) = (length (items chunk) ≡ n) × AreFull items n chunks
