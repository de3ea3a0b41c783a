-- What a selection keeps by cuts, and how the plain selection comes back from results that are reused.
use Rattle.std.specs.Prelude.{◌≡◌, [], ◌∷◌, Bool, true, false, not, ◌&&◌, filter}
use Rattle.std.specs.List.{AllByRecursion}
use Rattle.cell_core.specs.declared.cell.Cell.{Cell}
use Rattle.cell_core.specs.declared.cell.Cell.TheVariants.{Nil, Bit}
use Rattle.cell_core.specs.declared.cut.Cut.{Cut}
use Rattle.cell_core.specs.declared.cut.Cut.TheVariants.{Low, Before, After, High}
use Rattle.cell_core.specs.declared.cut.Span.{Span}
use Rattle.cell_core.specs.Cuts.{lies_in}
use Rattle.cell_core.specs.Pairs.{Pairs, is_nil, is_true}
use Rattle.cell_core.specs.Relations.{selected}
use Rattle.cell_core.specs.Merged.{by_head}
use Rattle.lineage_key.specs.Spans.{low_cut, high_cut}

-- a cell lies in a span where it is no Nil and the cut before it lies there
abbrev pub holds : Span → Cell → Bool
holds span cell = not (is_nil cell) && lies_in span (Before cell)

-- the pairs whose tail lies in a span
abbrev pub picked : Span → Pairs → Pairs
picked span b = filter (λ p. holds span p.1) b

-- the heads rise strictly
abbrev pub Rises : Pairs → Type 0
Rises [] = Unit {0}
Rises (p ∷ ps) = AllByRecursion (λ q. by_head p q ≡ true) ps × Rises ps

-- ## Spans and the four bounds of a selection

-- the span of four bounds
abbrev pub span_for : Cell → Cell → Cell → Cell → Span
span_for low high li hi = record { low = low_cut low li; high = high_cut high hi }

-- the bound at which a selection begins, and whether it is included
abbrev pub low_bound : Cut → Cell × Cell
low_bound Low = (Nil, Bit false)
low_bound (Before c) = (c, Bit true)
low_bound (After c) = (c, Bit false)
low_bound High = (Nil, Bit false)

-- the bound at which it ends, and whether it is included
abbrev pub high_bound : Cut → Cell × Cell
high_bound Low = (Nil, Bit false)
high_bound (Before c) = (c, Bit false)
high_bound (After c) = (c, Bit true)
high_bound High = (Nil, Bit false)

-- a cut at which a selection may begin, or end
abbrev pub is_low_end : Cut → Bool
is_low_end Low = true
is_low_end (Before c) = not (is_nil c)
is_low_end (After c) = not (is_nil c)
is_low_end High = false

abbrev pub is_high_end : Cut → Bool
is_high_end Low = false
is_high_end (Before c) = not (is_nil c)
is_high_end (After c) = not (is_nil c)
is_high_end High = true

-- a span that some selection asks for
abbrev pub is_askable : Span → Bool
is_askable span = is_low_end span.low && is_high_end span.high

-- the selection that asks for a span
abbrev pub selected_in : Span → Pairs → Pairs
selected_in span b =
    let low = low_bound span.low in
    let high = high_bound span.high in
    selected low.0 high.0 (is_true low.1) (is_true high.1) b
