-- A day is read as it was printed.
use Rattle.std.proofs.Common.{◌≡◌, inl, inr, ℕ, zero, suc, ◌+◌, ◌-◌, ◌<◌, ◌≤◌, Bool, true, false, ◌↔◌, IsTrue, List, refl, sym, ap, ◌∙◌, subst, arith, rules, ℤ, pos, negsuc, ◌+ℤ◌, ◌-ℤ◌, ◌≤ℤ◌, unsigned_abs, ◌*ℤ◌, int_div, FitsSigned, w8, w16, w64, to_z, of_z, to_z-of_z}
use Rattle.std.proofs.lemmas.Int.{by_lt_z, to_z_pos}
use Rattle.std.proofs.lemmas.Bool.{cases_lt, lt-ltb, le-ltb}
use Rattle.jiff_core.specs.declared.civil.date.Date.{Date}
use Rattle.jiff_core.specs.Calendar.{days_in_year, days_in_month, day_count, days_from_civil, IsCivilDate, IsDate, IsEpochDay}
use Rattle.jiff_core.specs.Date.{epoch_day, IsYmd}
use Rattle.jiff_core.proofs.SignedLemmas.{signed_arith}
use Rattle.jiff_core.proofs.CalendarLemmas.{day_count-end, day_count-next_year, day_count-later_year, day_count-next_month, day_count-day, day_count-day_of_year, days_of_months_all, days_in_month_bounds, day_count_bounds, day_count-lt_year, days_from_civil-day_count}
use Rattle.jiff_core.proofs.MarchLemmas.{day_count-early}
use Rattle.jiff_core.proofs.DateLemmas.{civil, days_from_civil-max, epoch_day_injective}
use Rattle.std.specs.Fmt.{signed_decimal}
use Rattle.std.specs.Int.{IsInRange}
use Rattle.std.proofs.lemmas.Slice.Eq.{text_from_reads}
use Rattle.cell_core.specs.Day.{DayPlace, place_after, place_of_year, place_of_month, IsPrintedDay, is_printed_day, IsPrintedDate, day_text, date_text, IsDayText, day_in, year_in, month_in, day_of_month_in}

-- ## The first day

day_count-first : day_count (pos 1) 1 1 ≡ 3_652_791
day_count-first = day_count-early (pos 1) 10000 1 1 refl (omega arith) (omega arith) (omega arith)

pub days_from_civil-first : days_from_civil (pos 1) 1 1 ≡ negsuc 719_161
days_from_civil-first = omega (arith, signed_arith, days_from_civil-day_count, day_count-first)

-- jiff has each day of the years 0001 to 9999
pub is_epoch_day : (n : ℤ) → IsPrintedDay n → IsEpochDay n
is_epoch_day n h =
    let range = rw (days_from_civil-first, days_from_civil-max) at h in
    omega (arith, signed_arith, range)

-- and a span can have that many days
pub fits_span : (n : ℤ) → IsEpochDay n → unsigned_abs n ≤ 7_304_484
fits_span (pos n) h = omega (arith, signed_arith, h)
fits_span (negsuc n) h = omega (arith, signed_arith, h)

-- ## Days by the clock

days_from_civil-epoch : days_from_civil (pos 1970) 1 1 ≡ pos 0
days_from_civil-epoch = omega (arith, signed_arith, days_from_civil-day_count, day_count-early (pos 1970) 11969 1 1 refl (omega arith) (omega arith) (omega arith))

-- 1970-01-01 is day 0
pub epoch_is_zero : (date : Date) → IsYmd (pos 1970) (pos 1) (pos 1) date → epoch_day date ≡ pos 0
epoch_is_zero date h =
    let month : date.month ≡ 1 = cc in
    let day : date.day ≡ 1 = cc in
    rw (h.0, month, day) days_from_civil-epoch

-- a date of numbers that aren't negative, as jiff takes it
signed_date : (year month day : ℕ) → IsCivilDate (pos year) month day → IsDate (pos year) (pos month) (pos day)
signed_date year month day is =
    let in_year : IsInRange 1 12 month = is.1 in
    let in_month : IsInRange 1 (days_in_month (pos year) month) day = is.2 in
    (is.0, (omega (arith, signed_arith), omega (arith, signed_arith)), (omega (arith, signed_arith), omega (arith, signed_arith)))

-- what jiff refuses is no date
pub refused_date : (year month day : ℕ) → year < 10000 → month < 100 → day < 100 → (IsDate (to_z w16 year) (to_z w8 month) (to_z w8 day) → false ≡ true) → IsCivilDate (pos year) month day → ⊥
refused_date year month day years months days none is =
    let never = rw (to_z_pos w16 year (omega (arith, years)), to_z_pos w8 month (omega (arith, months)), to_z_pos w8 day (omega (arith, days))) at none in
    let both : false ≡ true = never (signed_date year month day is) in
    cc

-- what it takes is one, and has that day's number
pub taken_date : (date : Date) (year month day : ℕ) → year < 10000 → month < 100 → day < 100 → IsYmd (to_z w16 year) (to_z w8 month) (to_z w8 day) date
    → IsCivilDate (pos year) month day × (epoch_day date ≡ days_from_civil (pos year) month day)
taken_date date year month day years months days is =
    let same = rw (to_z_pos w16 year (omega (arith, years)), to_z_pos w8 month (omega (arith, months)), to_z_pos w8 day (omega (arith, days))) at is in
    let in_year : date.year ≡ pos year = same.0 in
    let in_month : date.month ≡ month = cc in
    let in_day : date.day ≡ day = cc in
    let civil : IsCivilDate date.year date.month date.day = (date.year_in, date.month_in, date.day_in) in
    let civil_year : IsCivilDate (pos year) date.month date.day = subst (λ y. IsCivilDate y date.month date.day) in_year civil in
    let civil_month : IsCivilDate (pos year) month date.day = subst (λ m. IsCivilDate (pos year) m date.day) in_month civil_year in (
      subst (λ d. IsCivilDate (pos year) month d) in_day civil_month,
      ap (λ y. days_from_civil y date.month date.day) in_year ∙ ap (λ m. days_from_civil (pos year) m date.day) in_month ∙ ap (days_from_civil (pos year) month) in_day,
    )

-- so many whole days have so many times 24 hours
pub hours_of_days : (n : ℤ) → int_div (n *ℤ pos 86_400_000_000_000) (pos 3_600_000_000_000) ≡ n *ℤ pos 24
hours_of_days (pos n) = omega (arith, signed_arith)
hours_of_days (negsuc n) = omega (arith, signed_arith)

pub days_of_hours : (n : ℤ) → int_div (n *ℤ pos 24) (pos 24) ≡ n
days_of_hours (pos n) = omega (arith, signed_arith)
days_of_hours (negsuc n) = omega (arith, signed_arith)

-- the same in words of 64 bits, where the days are those of the calendar
pub days_back : (n : ℤ) → IsEpochDay n → to_z w64 (of_z w64 (int_div (to_z w64 (of_z w64 (n *ℤ pos 24))) (pos 24))) ≡ n
days_back n h =
    let hours : FitsSigned w64 (n *ℤ pos 24) = omega (arith, signed_arith, h) in
    let days : FitsSigned w64 n = omega (arith, signed_arith, h) in
    ap (λ m. to_z w64 (of_z w64 (int_div m (pos 24)))) (to_z-of_z hours)
    ∙ ap (λ m. to_z w64 (of_z w64 m)) (days_of_hours n)
    ∙ to_z-of_z days

-- ## Counting off

-- the place lies so many days after the start of the period `from`, and at most `most` periods on
record IsPlace (days_in start : ℕ → ℕ) (most from days : ℕ) (place : DayPlace) : Type 0 where
  sum : start place.period + place.before ≡ start from + days
  within : place.before < days_in place.period
  low : from ≤ place.period
  high : place.period ≤ from + most

-- each period starts where the one before it ends
abbrev IsRun : (ℕ → ℕ) → (ℕ → ℕ) → Type 0
IsRun days_in start = (k : ℕ) → 1 ≤ k → start (k + 1) ≡ start k + days_in k

place_after_is : (days_in start : ℕ → ℕ) → IsRun days_in start → (most from days : ℕ) → 1 ≤ from → start from + days < start (from + most + 1) → IsPlace days_in start most from days (place_after days_in most from days)
unfolding place_after
place_after_is days_in start run zero from days low end =
    let same : from + 0 + 1 ≡ from + 1 = omega arith in
    let here = rw same at end in
    record { sum = refl; within = omega (arith, run from low); low = omega arith; high = omega arith }
place_after_is days_in start run (suc most) from days low end =
    elim (cases_lt days (days_in from)) [
      | inl less ↦ rw (lt-ltb _ _ less) (record { sum = refl; within = less; low = omega arith; high = omega arith })
      | inr more ↦
          let next = run from low in
          let same : from + suc most + 1 ≡ from + 1 + most + 1 = omega arith in
          let ends = rw same at end in
          let rest = place_after_is days_in start run most (from + 1) (days - days_in from) (omega arith) (omega arith) in
          rw (le-ltb _ _ more) (record { sum = omega (arith, rest.sum); within = rest.within; low = omega (arith, rest.low); high = omega (arith, rest.high) })
    ]

years_run : IsRun (λ year. days_in_year (pos year)) (λ year. day_count (pos year) 1 1)
years_run year low = day_count-next_year (pos year) (pos (year + 1)) (omega (arith, signed_arith)) (omega (arith, signed_arith))

months_run : (year : ℕ) → IsRun (days_in_month (pos year)) (λ month. day_count (pos year) month 1)
months_run year month low = day_count-next_month (pos year) month low

-- a year ends where its thirteenth month would start
day_count-thirteenth : (year : ℕ) → day_count (pos year) 13 1 ≡ day_count (pos year) 1 1 + days_in_year (pos year)
day_count-thirteenth year =
    omega (arith, day_count-day_of_year (pos year) 13 1 (omega arith), days_of_months_all (pos year))

pos-unsigned_abs : (z : ℤ) → pos 0 ≤ℤ z → pos (unsigned_abs z) ≡ z
pos-unsigned_abs (pos n) h = refl
pos-unsigned_abs (negsuc n) h = absurd (omega (arith, signed_arith))

-- the days since 0001-01-01
days_since_first : (n : ℤ) → IsPrintedDay n → (pos (unsigned_abs (n -ℤ days_from_civil (pos 1) 1 1)) ≡ n +ℤ pos 719_162) × (unsigned_abs (n -ℤ days_from_civil (pos 1) 1 1) ≤ 3_652_058)
days_since_first n h =
    let range = rw (days_from_civil-first, days_from_civil-max) at h in
    let since = pos-unsigned_abs (n +ℤ pos 719_162) (omega (arith, signed_arith)) in
    rw days_from_civil-first (since, omega (arith, signed_arith, since))

year_is : (n : ℤ) → IsPrintedDay n → IsPlace (λ year. days_in_year (pos year)) (λ year. day_count (pos year) 1 1) 9998 1 (unsigned_abs (n -ℤ days_from_civil (pos 1) 1 1)) (place_of_year n)
unfolding place_of_year
year_is n h =
    place_after_is _ _ years_run 9998 1 _ (omega arith) (omega (arith, day_count-first, day_count-end, days_since_first n h))

month_is : (year : DayPlace) → year.before < days_in_year (pos year.period) → IsPlace (days_in_month (pos year.period)) (λ month. day_count (pos year.period) month 1) 11 1 year.before (place_of_month year)
unfolding place_of_month
month_is year within =
    place_after_is _ _ (months_run year.period) 11 1 year.before (omega arith) (omega (arith, day_count-thirteenth year.period))

-- ## From a day to its date

-- the date is that of the day
record IsDateOf (n : ℤ) (year month day : ℕ) : Type 0 where
  date : IsPrintedDate year month day
  number : days_from_civil (pos year) month day ≡ n

place_is_date : (n : ℤ) → IsPrintedDay n → (year : DayPlace) → IsPlace (λ y. days_in_year (pos y)) (λ y. day_count (pos y) 1 1) 9998 1 (unsigned_abs (n -ℤ days_from_civil (pos 1) 1 1)) year → (month : DayPlace) → IsPlace (days_in_month (pos year.period)) (λ m. day_count (pos year.period) m 1) 11 1 year.before month → IsDateOf n year.period month.period (month.before + 1)
place_is_date n h year y month m =
    let count = day_count-day (pos year.period) month.period 1 (month.before + 1) (omega arith) (omega arith) in
    record {
      date = record { year_in_range = omega arith; month_in_range = omega arith; day_in_range = omega arith };
      number = omega (arith, signed_arith, days_from_civil-day_count, count, y.sum, m.sum, day_count-first, days_since_first n h);
    }

date_found : (n : ℤ) → IsPrintedDay n → IsDateOf n (place_of_year n).period (place_of_month (place_of_year n)).period ((place_of_month (place_of_year n)).before + 1)
date_found n h =
    let year = year_is n h in
    place_is_date n h (place_of_year n) year (place_of_month (place_of_year n)) (month_is (place_of_year n) year.within)

is_printed_day-true : (n : ℤ) → IsPrintedDay n → is_printed_day n ≡ true
is_printed_day-true n h = search rules

is_printed_day-false : (n : ℤ) → ¬ IsPrintedDay n → is_printed_day n ≡ false
is_printed_day-false n h = search rules

-- a bit that says whether it is one is the test
pub is_printed_day-told : (b : Bool) (n : ℤ) → (IsTrue b ↔ IsPrintedDay n) → b ≡ is_printed_day n
is_printed_day-told true n h = sym (is_printed_day-true n (h.0 refl))
is_printed_day-told false n h = sym (is_printed_day-false n (λ printed. let yes = h.1 printed in cc))

-- the text of a day of the years 1 to 9999 is that of the date that was counted off
day_text-found : (n : ℤ) → IsPrintedDay n → day_text n ≡ date_text (place_of_year n).period (place_of_month (place_of_year n)).period ((place_of_month (place_of_year n)).before + 1)
unfolding day_text
day_text-found n h = rw (is_printed_day-true n h) refl

-- any other day is written as its number
pub day_text-number : (n : ℤ) → ¬ IsPrintedDay n → day_text n ≡ signed_decimal n
unfolding day_text
day_text-number n h = rw (is_printed_day-false n h) refl

-- ## From a date to its day

civil_date : (year month day : ℕ) → IsPrintedDate year month day → IsCivilDate (pos year) month day
civil_date year month day h = (omega (arith, signed_arith, h.year_in_range), h.month_in_range, h.day_in_range)

-- the date as jiff has it
unfoldable as_date : (year month day : ℕ) → IsPrintedDate year month day → Date
as_date year month day h =
    let civil = civil_date year month day h in
    record { year = pos year; month = month; day = day; year_in = civil.0; month_in = civil.1; day_in = civil.2 }

same_date_text : (year month day year₂ month₂ day₂ : ℕ) → year ≡ year₂ → month ≡ month₂ → day ≡ day₂ → date_text year month day ≡ date_text year₂ month₂ day₂
same_date_text year month day year₂ month₂ day₂ a b c = rw (a, b, c)

same_day : (year month day year₂ month₂ day₂ : ℕ) → year ≡ year₂ → month ≡ month₂ → day ≡ day₂ → days_from_civil (pos year) month day ≡ days_from_civil (pos year₂) month₂ day₂
same_day year month day year₂ month₂ day₂ a b c = rw (a, b, c)

same_civil : (year month day year₂ month₂ day₂ : ℕ) → year ≡ year₂ → month ≡ month₂ → day ≡ day₂ → IsCivilDate (pos year₂) month₂ day₂ → IsCivilDate (pos year) month day
same_civil year month day year₂ month₂ day₂ a b c h = rw (a, b, c) h

-- no date of these years has fewer days before it than 0001-01-01
day_count-printed : (year month day : ℕ) → IsPrintedDate year month day → 3_652_791 ≤ day_count (pos year) month day
day_count-printed year month day h =
    let in_year = day_count-day_of_year (pos year) month day h.day_in_range.0 in
    elim (cases_lt 1 year) [
      | inl later ↦ omega (arith, day_count-first, day_count-later_year (pos 1) (pos year) (omega (arith, signed_arith)) (omega (arith, signed_arith)))
      | inr first ↦
          let e : year ≡ 1 = omega (arith, h.year_in_range) in
          rw e (omega (arith, day_count-first, rw e at in_year))
    ]

-- a date of these years lies from 0001-01-01 to 9999-12-31
days_from_civil-printed : (year month day : ℕ) → IsPrintedDate year month day → IsPrintedDay (days_from_civil (pos year) month day)
days_from_civil-printed year month day h =
    let civil = civil_date year month day h in
    rw (days_from_civil-first, days_from_civil-max) (omega (arith, signed_arith, days_from_civil-day_count, day_count_bounds (pos year) month day civil, day_count-printed year month day h))

-- a day has one date
one_date : (year month day year₂ month₂ day₂ : ℕ) → IsPrintedDate year month day → IsPrintedDate year₂ month₂ day₂ → days_from_civil (pos year) month day ≡ days_from_civil (pos year₂) month₂ day₂ → (year ≡ year₂) × (month ≡ month₂) × (day ≡ day₂)
unfolding as_date
one_date year month day year₂ month₂ day₂ h k e =
    let same = epoch_day_injective (as_date year month day h) (as_date year₂ month₂ day₂ k) e in
    (cc, same.1, same.2)

pub day_text-date : (year month day : ℕ) → IsPrintedDate year month day → day_text (days_from_civil (pos year) month day) ≡ date_text year month day
day_text-date year month day h =
    let n = days_from_civil (pos year) month day in
    let printed = days_from_civil-printed year month day h in
    let found = date_found n printed in
    let same = one_date _ _ _ year month day found.date h found.number in
    day_text-found n printed ∙ same_date_text _ _ _ year month day same.0 same.1 same.2

-- a date whose day lies in these years has such a year
printed_year : (date : Date) → IsPrintedDay (epoch_day date) → pos 1 ≤ℤ date.year
printed_year date h =
    let range = rw (days_from_civil-first, days_from_civil-max) at h in
    by_lt_z date.year (pos 1)
    (λ less. absurd (omega (arith, signed_arith, days_from_civil-day_count, day_count-first, day_count-lt_year date.year date.month date.day (pos 1) 1 1 (civil date) (omega arith) less)))
    (λ more. more)

-- the date that jiff returns for a day of these years
pub record IsJiffDate (n : ℤ) (date : Date) : Type 0 where
  pub year : pos 1 ≤ℤ date.year
  pub text : day_text n ≡ date_text (unsigned_abs date.year) date.month date.day

pub jiff_date : (n : ℤ) (date : Date) → epoch_day date ≡ n → IsPrintedDay n → IsJiffDate n date
jiff_date n date e h =
    let year = printed_year date (rw e h) in
    let same = pos-unsigned_abs date.year (omega (arith, signed_arith)) in
    let printed : IsPrintedDate (unsigned_abs date.year) date.month date.day = record { year_in_range = omega (arith, signed_arith, date.year_in, same); month_in_range = date.month_in; day_in_range = subst (λ (y : ℤ). IsInRange 1 (days_in_month y date.month) date.day) (sym same) date.day_in } in
    let day : days_from_civil (pos (unsigned_abs date.year)) date.month date.day ≡ n = rw same e in
    record { year = year; text = sym (ap day_text day) ∙ day_text-date _ _ _ printed }

-- ## Reading what was printed

year_in-date_text : (year month day : ℕ) → year < 10000 → year_in (date_text year month day) ≡ year
year_in-date_text year month day h = omega arith

month_in-date_text : (year month day : ℕ) → month < 100 → month_in (date_text year month day) ≡ month
month_in-date_text year month day h = omega arith

day_of_month_in-date_text : (year month day : ℕ) → day < 100 → day_of_month_in (date_text year month day) ≡ day
day_of_month_in-date_text year month day h = omega arith

-- the parts of a date have no more digits than its text has room for
record HasRoom (year month day : ℕ) : Type 0 where
  year_digits : year < 10000
  month_digits : month < 100
  day_digits : day < 100

has_room : (year month day : ℕ) → IsPrintedDate year month day → HasRoom year month day
has_room year month day h =
    let days = days_in_month_bounds (pos year) month in
    record { year_digits = omega (arith, h.year_in_range); month_digits = omega (arith, h.month_in_range); day_digits = omega (arith, h.day_in_range) }

day_in-date_text : (year month day : ℕ) → IsPrintedDate year month day → day_in (date_text year month day) ≡ days_from_civil (pos year) month day
day_in-date_text year month day h =
    let room = has_room year month day h in
    let y = year_in-date_text year month day room.year_digits in
    let m = month_in-date_text year month day room.month_digits in
    let d = day_of_month_in-date_text year month day room.day_digits in
    same_day _ _ _ _ _ _ y m d

IsDayText-date_text : (year month day : ℕ) → IsPrintedDate year month day → IsDayText (date_text year month day)
IsDayText-date_text year month day h =
    let room = has_room year month day h in
    let y = year_in-date_text year month day room.year_digits in
    let m = month_in-date_text year month day room.month_digits in
    let d = day_of_month_in-date_text year month day room.day_digits in
    record {
      long = refl;
      century_digits = omega (arith, room.year_digits);
      year_digits = omega (arith, room.year_digits);
      dash_before_month = refl;
      month_digits = omega (arith, room.month_digits);
      dash_before_day = refl;
      day_digits = omega (arith, room.day_digits);
      after_year_zero = omega (arith, y, h.year_in_range);
      date = same_civil _ _ _ _ _ _ y m d (civil_date year month day h);
    }

-- each printed day is a text of a day, and of that day
pub IsDayText-day_text : (n : ℤ) → IsPrintedDay n → IsDayText (day_text n)
IsDayText-day_text n h =
    rw (day_text-found n h) (IsDayText-date_text _ _ _ (date_found n h).date)

pub day_in-day_text : (n : ℤ) → IsPrintedDay n → day_in (day_text n) ≡ n
day_in-day_text n h =
    ap day_in (day_text-found n h) ∙ day_in-date_text _ _ _ (date_found n h).date ∙ (date_found n h).number

-- ## Printing what was read

printed_date : (text : List ℕ) → IsDayText text → IsPrintedDate (year_in text) (month_in text) (day_of_month_in text)
printed_date text h =
    record { year_in_range = omega (arith, signed_arith, h.after_year_zero, h.date.0); month_in_range = h.date.1; day_in_range = h.date.2 }

-- the day that a text names is a printed one
pub day_in-printed : (text : List ℕ) → IsDayText text → is_printed_day (day_in text) ≡ true
day_in-printed text h = is_printed_day-true (day_in text) (days_from_civil-printed (year_in text) (month_in text) (day_of_month_in text) (printed_date text h))

-- a text that names a date is the text of that date
date_text-parts : (text : List ℕ) → IsDayText text → date_text (year_in text) (month_in text) (day_of_month_in text) ≡ text
date_text-parts text h =
    let century = h.century_digits in
    let year = h.year_digits in
    let month = h.month_digits in
    let day = h.day_digits in
    sym (text_from_reads text _ h.long (omega arith, (omega arith, (omega arith, (omega arith, (h.dash_before_month, (omega arith, (omega arith, (h.dash_before_day, (omega arith, (omega arith, tt)))))))))))

-- a text of a day is what that day prints
pub day_text-day_in : (text : List ℕ) → IsDayText text → day_text (day_in text) ≡ text
day_text-day_in text h =
    day_text-date _ _ _ (printed_date text h) ∙ date_text-parts text h
