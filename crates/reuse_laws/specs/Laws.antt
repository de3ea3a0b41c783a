-- What holds of selections that are computed from others.
use Rattle.std.specs.Prelude.{◌≡◌, ℕ, List, true, map, Contains}
use Rattle.std.specs.List.{AllByRecursion}
use Rattle.cell_core.specs.declared.cell.Cell.{Cell}
use Rattle.cell_core.specs.declared.cut.Span.{Span}
use Rattle.cell_core.specs.Pairs.{Pairs, is_true}
use Rattle.cell_core.specs.Relations.{selected}
use Rattle.subsume.specs.Cutting.{Entry, is_contained, IsCutting, IsCutUp, IsPartition, IsOfEntry}
use Rattle.reuse_laws.specs.Reuse.{picked, Rises, span_for, low_bound, high_bound, is_askable, selected_in}
use Rattle.cell_core.specs.Merged.{merged}

-- a selection keeps the pairs whose tails lie in the span of its bounds; and each span that some selection asks for, as all that bounds make, is that of its bounds
pub record BoundsAreSpans : Type 0 where
  pub kept : (low high li hi : Cell) (b : Pairs) → selected low high (is_true li) (is_true hi) b ≡ picked (span_for low high li hi) b
  pub asked : (low high li hi : Cell) → is_askable (span_for low high li hi) ≡ true
  pub back : (span : Span) → is_askable span ≡ true → span_for (low_bound span.low).0 (high_bound span.high).0 (low_bound span.low).1 (high_bound span.high).1 ≡ span

-- from a selection whose span contains that of another, the other selects what it selects from all
abbrev pub SelectionsWithin : Type 0
SelectionsWithin = (low high li hi low2 high2 li2 hi2 : Cell) (b : Pairs) → is_contained (span_for low high li hi) (span_for low2 high2 li2 hi2) ≡ true
    → selected low high (is_true li) (is_true hi) (selected low2 high2 (is_true li2) (is_true hi2) b) ≡ selected low high (is_true li) (is_true hi) b

-- pieces that follow each other from a target's low to its high, each selected from the value of an entry that contains it and merged by their heads, are what the target selects from all; the values are the selections of their entries from pairs whose heads rise
abbrev pub SelectionsAcross : Type 0
SelectionsAcross = (target : Span) (entries : List Entry) (value : ℕ → Pairs) (b : Pairs) (pieces : List Entry)
    → ((e : Entry) → Contains entries e → value e.0 ≡ picked e.1 b) → Rises b
    → IsPartition target.low target.high pieces → AllByRecursion (IsOfEntry entries) pieces → AllByRecursion (λ (piece : Entry). is_askable piece.1 ≡ true) pieces
    → merged (map (λ (piece : Entry). selected_in piece.1 (value piece.0)) pieces) ≡ picked target b

-- pieces that cut up a target are such, however each span was chosen, where the target and the entries are spans that selections ask for
abbrev pub PiecesServe : Type 0
PiecesServe = (target : Span) (entries : List Entry) (pieces : List Entry) → is_askable target ≡ true → ((e : Entry) → Contains entries e → is_askable e.1 ≡ true)
    → IsCutUp target entries target.low pieces
    → IsPartition target.low target.high pieces × AllByRecursion (IsOfEntry entries) pieces × AllByRecursion (λ (piece : Entry). is_askable piece.1 ≡ true) pieces

-- so are the pieces of a greedy cutting, where the target and the entries are spans that selections ask for
abbrev pub CuttingsServe : Type 0
CuttingsServe = (target : Span) (entries : List Entry) (pieces : List Entry) → is_askable target ≡ true → ((e : Entry) → Contains entries e → is_askable e.1 ≡ true)
    → IsCutting target entries target.low pieces
    → IsPartition target.low target.high pieces × AllByRecursion (IsOfEntry entries) pieces × AllByRecursion (λ (piece : Entry). is_askable piece.1 ≡ true) pieces
