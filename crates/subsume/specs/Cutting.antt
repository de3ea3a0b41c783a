-- When a span lies in another, and the greedy cutting of a target by spans with ids.
use Rattle.std.specs.Prelude.{◌≡◌, ℕ, List, [], ◌∷◌, Bool, true, false, ◌&&◌, if◌then◌else◌, All, Contains}
use Rattle.std.specs.List.{AllByRecursion}
use Rattle.std.specs.Ordering.{nat_cmp, ordering_then, is_lt}
use Rattle.std.specs.declared.cmp.Ordering.{Ordering}
use Rattle.cell_core.specs.declared.cut.Cut.{Cut}
use Rattle.cell_core.specs.declared.cut.Span.{Span}
use Rattle.cell_core.specs.Cuts.{cut_cmp, is_cut_below, is_cut_up_to, lies_in}

-- a lies in b
abbrev pub is_contained : Span → Span → Bool
is_contained a b = is_cut_up_to b.low a.low && is_cut_up_to a.high b.high

-- an id and a span
abbrev pub Entry : Type 0
Entry = ℕ × Span

-- entries by their highs, the greatest first, and then by their ids, the least first
abbrev pub entry_cmp : Entry → Entry → Ordering
entry_cmp a b = ordering_then (cut_cmp b.1.high a.1.high) (nat_cmp a.0 b.0)

-- an entry reaches farther than another, or as far with a lesser id
abbrev pub is_better : Entry → Entry → Bool
is_better a b = is_lt (entry_cmp a b)

-- an entry's span begins before that of another (a helper of the proof: private contracts alone cite it)
abbrev pub is_lower : Entry → Entry → Bool
is_lower a b = is_cut_below a.1.low b.1.low

-- the entry is one of those whose span holds the cut, and none of them is better
abbrev pub IsBest : List Entry → Cut → Entry → Type 0
IsBest entries cut best =
    Contains entries best × (lies_in best.1 cut ≡ true) × All (λ e. lies_in e.1 cut ≡ true → is_better e best ≡ false) entries

-- the lesser of two cuts, the first where they tie
abbrev pub least_cut : Cut → Cut → Cut
least_cut a b = if is_cut_below b a then b else a

-- the piece of an entry: its id, from the cut to its high or the target's, whichever is less
abbrev pub piece_of : Span → Cut → Entry → Entry
piece_of target cut entry = (entry.0, record { low = cut; high = least_cut entry.1.high target.high })

-- pieces are the greedy cutting from a cut on: each is that of a best entry at the place where the one before ends, up to the target's high
abbrev pub IsCutting : Span → List Entry → Cut → List Entry → Type 0
IsCutting target entries cut [] = is_cut_below cut target.high ≡ false
IsCutting target entries cut (piece ∷ pieces) =
    (is_cut_below cut target.high ≡ true) × ((entry : Entry) × IsBest entries cut entry × (piece ≡ piece_of target cut entry))
    × IsCutting target entries piece.1.high pieces

-- pieces cut up a target from a cut on: each is that of some entry which holds the place where the one before ends, up to the target's high
abbrev pub IsCutUp : Span → List Entry → Cut → List Entry → Type 0
IsCutUp target entries cut [] = is_cut_below cut target.high ≡ false
IsCutUp target entries cut (piece ∷ pieces) =
    (is_cut_below cut target.high ≡ true) × ((entry : Entry) × (Contains entries entry × (lies_in entry.1 cut ≡ true)) × (piece ≡ piece_of target cut entry))
    × IsCutUp target entries piece.1.high pieces

-- pieces follow each other without gap from a cut to another, and none of them is empty
abbrev pub IsPartition : Cut → Cut → List Entry → Type 0
IsPartition from to [] = is_cut_below from to ≡ false
IsPartition from to (piece ∷ pieces) =
    (piece.1.low ≡ from) × (is_cut_below from piece.1.high ≡ true) × (is_cut_below to piece.1.high ≡ false)
    × IsPartition piece.1.high to pieces

-- the piece lies in the span of an entry with its id
abbrev pub IsOfEntry : List Entry → Entry → Type 0
IsOfEntry entries piece = (entry : Entry) × Contains entries entry × (piece.0 ≡ entry.0) × (is_contained piece.1 entry.1 ≡ true)

-- ## Laws

-- the pieces of a greedy cutting cut up its target
abbrev pub CuttingsCutUp : Type 0
CuttingsCutUp = (target : Span) (entries pieces : List Entry) (cut : Cut) → IsCutting target entries cut pieces → IsCutUp target entries cut pieces

-- pieces that cut up a target follow each other through it, and each lies in the span of its entry
abbrev pub PiecesFollow : Type 0
PiecesFollow = (target : Span) (entries pieces : List Entry) → IsCutUp target entries target.low pieces → IsPartition target.low target.high pieces × AllByRecursion (IsOfEntry entries) pieces
