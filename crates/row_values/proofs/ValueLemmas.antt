-- The cell of a column, found step by step.
use Rattle.std.proofs.Common.{◌≡◌, ℕ, List, ap, ◌∙◌, Option, Some}
use Rattle.std.specs.Prelude.{unwrap_or}
use Rattle.std.specs.Option.{option_and_then}
use Rattle.cell_core.specs.declared.cell.Cell.{Cell}
use Rattle.cell_core.specs.declared.cell.Cell.TheVariants.{Nil}
use Rattle.sql_tree.specs.declared.tree.ColRef.{ColRef}
use Rattle.sql_definitions.specs.Sources.{NamedSource, place_of}
use Rattle.sql_definitions.specs.Values.{Choice, cell_at, column_cell}

pub column_cell_is : (sources : List NamedSource) (choice : Choice) (ref : ColRef) (table : Option (List ℕ)) (place : ℕ × ℕ) (found cell : Cell)
    → table ≡ ref.table → Some place ≡ place_of sources (record { table = table; column = ref.column }) → Some found ≡ cell_at choice place → cell ≡ found
    → cell ≡ column_cell sources choice ref
column_cell_is sources choice ref table place found cell is_table is_place is_found is_cell =
    is_cell ∙ ap (λ (o : Option Cell). unwrap_or o Nil) is_found
    ∙ ap (λ (p : Option (ℕ × ℕ)). unwrap_or (option_and_then (cell_at choice) p) Nil) (is_place ∙ ap (λ t. place_of sources (record { table = t; column = ref.column })) is_table)
