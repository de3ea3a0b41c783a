-- The span of cells that a selection asks for.
use Rattle.std.specs.Prelude.{List, [], ◌∷◌, if◌then◌else◌, Option, Some, None}
use Rattle.cell_core.specs.declared.cell.Cell.{Cell}
use Rattle.cell_core.specs.declared.cut.Cut.{Cut}
use Rattle.cell_core.specs.declared.cut.Cut.TheVariants.{Low, Before, After, High}
use Rattle.cell_core.specs.declared.cut.Span.{Span}
use Rattle.cell_core.specs.declared.operator.Op.TheVariants.{Select}
use Rattle.cell_core.specs.Pairs.{is_true, is_nil}
use Rattle.cell_core.specs.SameInstr.{same_op}
use Rattle.lineage_key.specs.declared.key.Key.{Key}
use Rattle.lineage_key.specs.declared.key.KeyArg.{KeyArg}
use Rattle.lineage_key.specs.declared.key.KeyArg.TheVariants.{Const}

-- a selection begins at Low where it has no bound, before a bound that is included, and else after it
abbrev pub low_cut : Cell → Cell → Cut
low_cut low li = if is_nil low then Low else (if is_true li then Before low else After low)

-- it ends at High where it has no bound, after a bound that is included, and else before it
abbrev pub high_cut : Cell → Cell → Cut
high_cut high hi = if is_nil high then High else (if is_true hi then After high else Before high)

-- the span between two bounds, where both and what is said of them are constants
abbrev pub span_of_bounds : KeyArg → KeyArg → KeyArg → KeyArg → Option Span
span_of_bounds (Const low) (Const high) (Const li) (Const hi) = Some (record { low = low_cut low li; high = high_cut high hi })
span_of_bounds _ _ _ _ = None

-- the span of a selection's arguments: what is selected from, the bounds, and whether they are included
abbrev pub span_between : List KeyArg → Option Span
span_between (of ∷ low ∷ high ∷ li ∷ hi ∷ []) = span_of_bounds low high li hi
span_between _ = None

-- the span that a key asks for, where it is a selection's
abbrev pub span_asked : Key → Option Span
span_asked key = if same_op key.op Select then span_between key.args else None
