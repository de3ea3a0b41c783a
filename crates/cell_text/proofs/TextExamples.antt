-- Texts of cells.
use Rattle.std.proofs.Common.{◌≡◌, ◌∷◌, [], true, false, refl, pos, negsuc}
use Rattle.std.specs.Prelude.{codes}
use Rattle.std.specs.Fmt.{digits}
use Rattle.jiff_core.specs.Calendar.{days_of_years, days_of_months, day_count, days_from_civil}
use Rattle.cell_core.specs.declared.cell.Cell.TheVariants.{Nil, Int, Huge, Text, Day, Bit, Oid}
use Rattle.cell_core.specs.CellText.{cell_text}
use Rattle.cell_core.specs.Day.{place_after, place_of_year, place_of_month, day_text}

-- a cell of each kind; 92 is a backslash and 97 is `a`
pub known_cells : (cell_text Nil ≡ 92 ∷ codes "N") × (cell_text (Int (negsuc 41)) ≡ codes "-42")
    × (cell_text (Huge (pos 9_223_372_036_854_775_808)) ≡ codes "9223372036854775808")
    × (cell_text (Text (97 ∷ 92 ∷ 97 ∷ [])) ≡ 97 ∷ 92 ∷ 92 ∷ 97 ∷ [])
    × (cell_text (Day (pos 8_840)) ≡ codes "1994-03-16")
    × (cell_text (Bit true) ≡ codes "true") × (cell_text (Bit false) ≡ codes "false")
    × (cell_text (Oid 7) ≡ codes "7@0")
unfolding day_text place_of_year place_of_month place_after days_from_civil day_count days_of_years days_of_months digits
known_cells = (refl, refl, refl, refl, refl, refl, refl, refl)
