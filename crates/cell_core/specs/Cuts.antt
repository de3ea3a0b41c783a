-- Cuts of the order of cells, spans between two cuts, and when spans cover another.
use Rattle.std.specs.Prelude.{ℕ, List, ◌∷◌, map, filter, Bool, ◌&&◌}
use Rattle.std.specs.List.{list_all, list_any}
use Rattle.std.specs.Ordering.{nat_cmp, ordering_then, is_lt, is_le}
use Rattle.std.specs.declared.cmp.Ordering.{Ordering}
use Rattle.std.specs.Cmp.{IsTotalOrder}
use Rattle.std.proofs.lemmas.Cmp.{then_total, on_total, nat_cmp_total}
use Rattle.cell_core.specs.declared.cell.Cell.{Cell}
use Rattle.cell_core.specs.declared.cell.Cell.TheVariants.{Nil}
use Rattle.cell_core.specs.declared.cut.Cut.{Cut}
use Rattle.cell_core.specs.declared.cut.Cut.TheVariants.{Low, Before, After, High}
use Rattle.cell_core.specs.declared.cut.Span.{Span}
use Rattle.cell_core.specs.Order.{cell_cmp, cell_cmp_total}

-- Low first, then the cuts at cells, then High
abbrev pub cut_rank : Cut → ℕ
cut_rank Low = 0
cut_rank (Before c) = 1
cut_rank (After c) = 1
cut_rank High = 2

-- the cell at which a cut is, where Low and High have Nil
abbrev pub cut_cell : Cut → Cell
cut_cell Low = Nil
cut_cell (Before c) = c
cut_cell (After c) = c
cut_cell High = Nil

-- of two cuts at one cell the one after it is second
abbrev pub cut_side : Cut → ℕ
cut_side (After c) = 1
cut_side _ = 0

-- cuts compare by rank, then by cell, then by side
abbrev pub cut_cmp : Cut → Cut → Ordering
cut_cmp a b = ordering_then (nat_cmp (cut_rank a) (cut_rank b)) (ordering_then (cell_cmp (cut_cell a) (cut_cell b)) (nat_cmp (cut_side a) (cut_side b)))

-- the order of cuts is total
pub cut_cmp_total : IsTotalOrder cut_cmp
cut_cmp_total = then_total (on_total cut_rank nat_cmp_total) (then_total (on_total cut_cell cell_cmp_total) (on_total cut_side nat_cmp_total))

-- a cut is strictly before another
abbrev pub is_cut_below : Cut → Cut → Bool
is_cut_below a b = is_lt (cut_cmp a b)

-- a cut is before another or compares equal to it
abbrev pub is_cut_up_to : Cut → Cut → Bool
is_cut_up_to a b = is_le (cut_cmp a b)

-- a span holds its low end and what follows it, up to its high end, which it excludes
abbrev pub lies_in : Span → Cut → Bool
lies_in span cut = is_cut_up_to span.low cut && is_cut_below cut span.high

-- where a walk over a target may have to change spans: at its beginning, and at each span's end within it
abbrev pub stops : Span → List Span → List Cut
stops target spans = target.low ∷ filter (lies_in target) (map (λ s. s.high) spans)

-- a target that isn't empty is covered if at every such stop some span continues
abbrev pub covers : Span → List Span → Bool
covers target spans =
    is_cut_below target.low target.high && list_all (λ stop. list_any (λ s. lies_in s stop) spans) (stops target spans)
