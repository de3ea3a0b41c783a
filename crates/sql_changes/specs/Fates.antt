-- What becomes of the rows of a table; only private contracts cite it.
use Rattle.std.specs.Prelude.{List, [], ◌∷◌, ◌++◌, Bool, true, false, Option, Some, None}
use Rattle.std.specs.Option.{option_to_list}
use Rattle.cell_core.specs.declared.cell.Cell.{Cell}
use Rattle.sql_changes.specs.declared.fate.Fate.{Fate}
use Rattle.sql_changes.specs.declared.fate.Fate.TheVariants.{Stays, Goes, Becomes}

-- the row doesn't stay as it is
abbrev pub is_touched : Fate → Bool
is_touched Stays = false
is_touched Goes = true
is_touched (Becomes other) = true

-- what is left in a row's place
abbrev pub left_of : Fate → List Cell → Option (List Cell)
left_of Stays row = Some row
left_of Goes row = None
left_of (Becomes other) row = Some other

-- what is left of rows, each with its fate
abbrev pub settled : List Fate → List (List Cell) → List (List Cell)
settled [] rows = []
settled (fate ∷ fates) [] = []
settled (fate ∷ fates) (row ∷ rows) = option_to_list (left_of fate row) ++ settled fates rows
