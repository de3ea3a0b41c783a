-- The greedy cutting as a function: its steps are counted, since each takes a span that reaches farther.
use Rattle.std.specs.Prelude.{◌≡◌, ◌↔◌, ℕ, zero, suc, List, [], ◌∷◌, length, map, filter, true, false, if◌then◌else◌, Option, Some, None}
use Rattle.std.specs.List.{Contains}
use Rattle.std.specs.Option.{option_map, option_and_then}
use Rattle.cell_core.specs.declared.cut.Cut.{Cut}
use Rattle.cell_core.specs.declared.cut.Span.{Span}
use Rattle.cell_core.specs.Cuts.{covers, is_cut_below, lies_in}
use Rattle.cell_core.specs.Sorted.{first_by}
use Rattle.subsume.specs.Cutting.{Entry, IsCutting, is_better, piece_of}

-- the best entry at a cut
abbrev pub best_at : List Entry → Cut → Option Entry
best_at entries cut = first_by is_better (filter (λ (e : Entry). lies_in e.1 cut) entries)

-- the cutting from a cut on, in at most so many pieces
abbrev pub cut_from : ℕ → Span → List Entry → Cut → Option (List Entry)
cut_from zero target entries cut = if is_cut_below cut target.high then None else Some []
cut_from (suc n) target entries cut =
    if is_cut_below cut target.high
    then option_and_then (λ (e : Entry). option_map (λ pieces. piece_of target cut e ∷ pieces) (cut_from n target entries (piece_of target cut e).1.high)) (best_at entries cut)
    else Some []

-- the greedy cutting of a target, if the entries cover it
abbrev pub cutting_of : Span → List Entry → Option (List Entry)
cutting_of target entries = if is_cut_below target.low target.high then cut_from (length entries) target entries target.low else None

-- entries with one id are one entry
abbrev pub AreApart : List Entry → Type 0
AreApart entries = (a b : Entry) → Contains entries a → Contains entries b → a.0 ≡ b.0 → a ≡ b

-- of entries with different ids, a cutting of a target that isn't empty is what the function returns, and nothing else is; it returns none where they don't cover the target
abbrev pub CuttingsAreFunctions : Type 0
CuttingsAreFunctions = (target : Span) (entries : List Entry) → AreApart entries → is_cut_below target.low target.high ≡ true
    → ((pieces : List Entry) → IsCutting target entries target.low pieces ↔ (cutting_of target entries ≡ Some pieces))
    × (covers target (map (λ e. e.1) entries) ≡ false → cutting_of target entries ≡ None)
