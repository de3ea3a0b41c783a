-- Whether a text names a day, as a test.
use Rattle.std.specs.Prelude.{ℕ, ◌+◌, ◌==◌, List, length, Bool, ◌&&◌, nat_le, slice_index, if◌then◌else◌, Option, Some, None, ℤ, pos}
use Rattle.jiff_core.specs.Calendar.{days_in_month}
use Rattle.cell_core.specs.Day.{year_in, month_in, day_of_month_in, day_in}

-- two digits are at a place
abbrev pub are_two_digits : List ℕ → ℕ → Bool
are_two_digits text place =
    (nat_le 48 (slice_index text place) && nat_le (slice_index text place) 57) && (nat_le 48 (slice_index text (place + 1)) && nat_le (slice_index text (place + 1)) 57)

abbrev pub are_day_digits : List ℕ → Bool
are_day_digits text = (are_two_digits text 0 && are_two_digits text 2) && (are_two_digits text 5 && are_two_digits text 8)

abbrev pub are_day_marks : List ℕ → Bool
are_day_marks text = (length text == 10) && ((slice_index text 4 == 45) && (slice_index text 7 == 45))

-- the calendar has the date, in a year from 1 to 9999
abbrev pub is_calendar_day : ℕ → ℕ → ℕ → Bool
is_calendar_day year month day =
    (nat_le 1 year && nat_le year 9999) && ((nat_le 1 month && nat_le month 12) && (nat_le 1 day && nat_le day (days_in_month (pos year) month)))

-- the text is `YYYY-MM-DD` and names a date
abbrev pub is_day_text : List ℕ → Bool
is_day_text text = are_day_marks text && (are_day_digits text && is_calendar_day (year_in text) (month_in text) (day_of_month_in text))

-- the day that the text names, if it names one
abbrev pub day_named : List ℕ → Option ℤ
day_named text = if is_day_text text then Some (day_in text) else None
