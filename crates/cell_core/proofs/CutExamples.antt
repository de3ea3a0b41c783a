-- What cuts, spans and covers say of small cases.
use Rattle.std.proofs.Common.{◌≡◌, ℕ, [], ◌∷◌, true, false, pos, refl}
use Rattle.cell_core.specs.declared.cell.Cell.{Cell}
use Rattle.cell_core.specs.declared.cell.Cell.TheVariants.{Nil, Int, Huge}
use Rattle.cell_core.specs.declared.cut.Cut.{Cut}
use Rattle.cell_core.specs.declared.cut.Cut.TheVariants.{Low, Before, After, High}
use Rattle.cell_core.specs.declared.cut.Span.{Span}
use Rattle.cell_core.specs.Cuts.{is_cut_below, is_cut_up_to, lies_in, stops, covers}

abbrev int : ℕ → Cell
int n = Int (pos n)

abbrev span : Cut → Cut → Span
span low high = record { low = low; high = high }

-- Low, before 5, after 5, before 6, High; the same number as Int and as Huge has one cut
order : (is_cut_below Low (Before (int 5)) ≡ true) × (is_cut_below (Before (int 5)) (After (int 5)) ≡ true)
    × (is_cut_below (After (int 5)) (Before (int 6)) ≡ true) × (is_cut_below (After (int 6)) High ≡ true)
    × (is_cut_below (Before (int 5)) (Before (int 5)) ≡ false) × (is_cut_up_to (Before (int 5)) (Before (Huge (pos 5))) ≡ true)
    × (is_cut_below Low (Before Nil) ≡ true)
order = (refl, refl, refl, refl, refl, refl, refl)

-- from 4 to 6, both included
abbrev target : Span
target = span (Before (int 4)) (After (int 6))

abbrev below_5 : Span
below_5 = span Low (Before (int 5))

abbrev above_5 : Span
above_5 = span (After (int 5)) High

abbrev from_5 : Span
from_5 = span (Before (int 5)) High

-- a span has its low and not its high
lies : (lies_in target (Before (int 4)) ≡ true) × (lies_in target (After (int 6)) ≡ false) × (lies_in target (After (int 5)) ≡ true)
lies = (refl, refl, refl)

-- below 5 and above 5 leave 5 out; below 5 and from 5 on leave nothing out; no span covers the empty target
cover : (stops target (below_5 ∷ above_5 ∷ []) ≡ Before (int 4) ∷ Before (int 5) ∷ [])
    × (covers target (below_5 ∷ above_5 ∷ []) ≡ false) × (covers target (below_5 ∷ from_5 ∷ []) ≡ true)
    × (covers target (target ∷ []) ≡ true) × (covers target [] ≡ false)
    × (covers (span (After (int 5)) (Before (int 5))) (from_5 ∷ below_5 ∷ []) ≡ false)
cover = (refl, refl, refl, refl, refl, refl)
