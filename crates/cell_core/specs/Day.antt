-- Civil days and their texts. A day is a number: 1970-01-01 is day 0, and each day is one more than the day before.
use Rattle.std.specs.Prelude.{◌≡◌, ◌≢◌, ℕ, zero, suc, ◌+◌, ◌-◌, ◌*◌, ◌/◌, ◌%◌, Bool, ◌&&◌, nat_lt, int_le, if◌then◌else◌, List, ◌∷◌, [], ◌++◌, length, slice_index, ℤ, pos, ◌-ℤ◌, unsigned_abs}
use Rattle.std.specs.Int.{IsInRange}
use Rattle.std.specs.Fmt.{signed_decimal}
use Rattle.std.specs.Char.{IsAsciiDigit}
use Rattle.jiff_core.specs.Calendar.{days_in_year, days_in_month, days_from_civil, IsBetween, IsCivilDate}

-- ## Reading

-- the text has two digits at a place
abbrev pub HasTwoDigits : List ℕ → ℕ → Type 0
HasTwoDigits text place =
    IsAsciiDigit (slice_index text place) × IsAsciiDigit (slice_index text (place + 1))

-- the number that they write, where 48 is the byte of `0`
abbrev pub number_at : List ℕ → ℕ → ℕ
number_at text place = (slice_index text place - 48) * 10 + (slice_index text (place + 1) - 48)

-- the year in `YYYY-MM-DD`
abbrev pub year_in : List ℕ → ℕ
year_in text = number_at text 0 * 100 + number_at text 2

-- its month
abbrev pub month_in : List ℕ → ℕ
month_in text = number_at text 5

-- its day of the month
abbrev pub day_of_month_in : List ℕ → ℕ
day_of_month_in text = number_at text 8

-- the text is `YYYY-MM-DD`, and names a date of the years 0001 to 9999 that the calendar has; 45 is the byte of `-`
pub record IsDayText (text : List ℕ) : Type 0 where
  pub long : length text ≡ 10
  pub century_digits : HasTwoDigits text 0
  pub year_digits : HasTwoDigits text 2
  pub dash_before_month : slice_index text 4 ≡ 45
  pub month_digits : HasTwoDigits text 5
  pub dash_before_day : slice_index text 7 ≡ 45
  pub day_digits : HasTwoDigits text 8
  pub after_year_zero : year_in text ≢ 0
  pub date : IsCivilDate (pos (year_in text)) (month_in text) (day_of_month_in text)

-- the day that the text names
abbrev pub day_in : List ℕ → ℤ
day_in text = days_from_civil (pos (year_in text)) (month_in text) (day_of_month_in text)

-- ## Printing

-- a number below 100, in two digits
abbrev pub two_digits : ℕ → List ℕ
two_digits n = (48 + n / 10) ∷ (48 + n % 10) ∷ []

-- a date as `YYYY-MM-DD`
abbrev pub date_text : ℕ → ℕ → ℕ → List ℕ
date_text year month day =
    two_digits (year / 100) ++ two_digits (year % 100) ++ 45 ∷ two_digits month ++ 45 ∷ two_digits day

-- a date of the years 0001 to 9999 that the calendar has
pub record IsPrintedDate (year month day : ℕ) : Type 0 where
  pub year_in_range : IsInRange 1 9999 year
  pub month_in_range : IsInRange 1 12 month
  pub day_in_range : IsInRange 1 (days_in_month (pos year) month) day

-- a day from 0001-01-01 to 9999-12-31
abbrev pub IsPrintedDay : ℤ → Type 0
IsPrintedDay n = IsBetween (days_from_civil (pos 1) 1 1) (days_from_civil (pos 9999) 12 31) n

-- the same as a test
abbrev pub is_printed_day : ℤ → Bool
is_printed_day n =
    int_le (days_from_civil (pos 1) 1 1) n && int_le n (days_from_civil (pos 9999) 12 31)

-- a period, which is a year or a month, and how many of its days come before some day
pub record DayPlace : Type 0 where
  pub period : ℕ
  pub before : ℕ

-- where so many days from the start of a period lead: whole periods are taken off the count, one after the other, `most` of them at most
unfoldable pub place_after : (ℕ → ℕ) → ℕ → ℕ → ℕ → DayPlace
place_after days_in zero period days = record { period = period; before = days }
place_after days_in (suc most) period days =
    if nat_lt days (days_in period) then record { period = period; before = days }
    else place_after days_in most (period + 1) (days - days_in period)

-- the year of a day, where years are taken off the days since 0001-01-01
unfoldable pub place_of_year : ℤ → DayPlace
place_of_year n =
    place_after (λ year. days_in_year (pos year)) 9998 1 (unsigned_abs (n -ℤ days_from_civil (pos 1) 1 1))

-- the month of a day, where months are taken off the days since 1 January
unfoldable pub place_of_month : DayPlace → DayPlace
place_of_month year = place_after (days_in_month (pos year.period)) 11 1 year.before

-- the text of a day: its date, or its number where the date is of no year from 0001 to 9999
unfoldable pub day_text : ℤ → List ℕ
day_text n =
    let year = place_of_year n in
    let month = place_of_month year in
    if is_printed_day n then date_text year.period month.period (month.before + 1) else signed_decimal n
