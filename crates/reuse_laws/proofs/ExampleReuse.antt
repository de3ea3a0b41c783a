-- Selections of the rows 3, 4, 6 and 9: from 2 to 8, plainly, from a containing selection, and from two that cover it.
use Rattle.std.proofs.Common.{◌≡◌, ℕ, [], ◌∷◌, true, pos, refl}
use Rattle.cell_core.specs.declared.cell.Cell.{Cell}
use Rattle.cell_core.specs.declared.cell.Cell.TheVariants.{Int, Oid}
use Rattle.cell_core.specs.declared.cut.Cut.TheVariants.{Before, After}
use Rattle.cell_core.specs.declared.cut.Span.{Span}
use Rattle.cell_core.specs.Pairs.{Pairs}
use Rattle.cell_core.specs.Relations.{selected}
use Rattle.reuse_laws.specs.Reuse.{selected_in}
use Rattle.cell_core.specs.Merged.{merged}

abbrev int : ℕ → Cell
int n = Int (pos n)

abbrev rows : Pairs
rows = (Oid 0, int 9) ∷ (Oid 1, int 4) ∷ (Oid 2, int 6) ∷ (Oid 3, int 3) ∷ []

abbrev from_2_to_8 : Pairs
from_2_to_8 = (Oid 1, int 4) ∷ (Oid 2, int 6) ∷ (Oid 3, int 3) ∷ []

plain : (selected (int 2) (int 8) true true rows ≡ from_2_to_8) × (selected (int 2) (int 8) true true (selected (int 1) (int 8) true true rows) ≡ from_2_to_8)
plain = (refl, refl)

-- 3 and 4 from the selection from 1 to 5, and 6 from that from 5 to 8
abbrev up_to_5 : Span
up_to_5 = record { low = Before (int 2); high = After (int 5) }

abbrev above_5 : Span
above_5 = record { low = After (int 5); high = After (int 8) }

across : merged (selected_in up_to_5 (selected (int 1) (int 5) true true rows) ∷ selected_in above_5 (selected (int 5) (int 8) true true rows) ∷ []) ≡ from_2_to_8
across = refl
