-- Texts of days, as calendars show them.
use Rattle.std.proofs.Common.{◌≡◌, refl, pos, negsuc}
use Rattle.std.specs.Prelude.{codes}
use Rattle.std.specs.Fmt.{digits}
use Rattle.jiff_core.specs.Calendar.{days_of_years, days_of_months, day_count, days_from_civil}
use Rattle.cell_core.specs.Day.{place_after, place_of_year, place_of_month, day_text}

-- the first day and the last, day 0 and the day before it, a leap day, and a day of March
pub known_dates : (day_text (negsuc 719_161) ≡ codes "0001-01-01") × (day_text (pos 2_932_896) ≡ codes "9999-12-31")
    × (day_text (pos 0) ≡ codes "1970-01-01") × (day_text (negsuc 0) ≡ codes "1969-12-31")
    × (day_text (pos 11_016) ≡ codes "2000-02-29") × (day_text (pos 8_840) ≡ codes "1994-03-16")
unfolding day_text place_of_year place_of_month place_after days_from_civil day_count days_of_years days_of_months
known_dates = (refl, refl, refl, refl, refl, refl)

-- the days before the first and after the last
pub known_numbers : (day_text (negsuc 719_162) ≡ codes "-719163") × (day_text (pos 2_932_897) ≡ codes "2932897")
unfolding day_text place_of_year place_of_month place_after days_from_civil day_count days_of_years days_of_months digits
known_numbers = (refl, refl)
