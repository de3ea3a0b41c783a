-- The test of a day's text decides whether it names a day.
use Rattle.std.proofs.Common.{◌≡◌, ℕ, ◌≤◌, List, Bool, true, false, cond, Option, Some, None, ℤ, pos, ◌≢◌, length, refl, ap, sym, ◌∙◌, arith}
use Rattle.std.specs.Prelude.{nat_le, slice_index, IfSome, IfNone}
use Rattle.std.specs.Bool.{Decides}
use Rattle.std.proofs.lemmas.Bool.Decides.{nat_tests, Decides-and, Decides-eqb, Decides-like}
use Rattle.std.proofs.lemmas.Int.{ints}
use Rattle.jiff_core.specs.Calendar.{IsYear, days_in_month}
use Rattle.cell_core.specs.Day.{HasTwoDigits, IsDayText, year_in, month_in, day_of_month_in, day_in}
use Rattle.text_bytes.specs.Days.{are_two_digits, are_day_digits, are_day_marks, is_calendar_day, is_day_text, day_named}

le : (a b : ℕ) → Decides (nat_le a b) (a ≤ b)
le a b = (λ h. grind (arith, nat_tests), λ h. grind (arith, nat_tests))

two : (text : List ℕ) (place : ℕ) → Decides (are_two_digits text place) (HasTwoDigits text place)
two text place = Decides-and _ _ (Decides-and _ _ (le _ _) (le _ _)) (Decides-and _ _ (le _ _) (le _ _))

marks : (text : List ℕ) → Decides (are_day_marks text) ((length text ≡ 10) × ((slice_index text 4 ≡ 45) × (slice_index text 7 ≡ 45)))
marks text = Decides-and _ _ (Decides-eqb _ _) (Decides-and _ _ (Decides-eqb _ _) (Decides-eqb _ _))

four : (text : List ℕ) → Decides (are_day_digits text) ((HasTwoDigits text 0 × HasTwoDigits text 2) × (HasTwoDigits text 5 × HasTwoDigits text 8))
four text = Decides-and _ _ (Decides-and _ _ (two text 0) (two text 2)) (Decides-and _ _ (two text 5) (two text 8))

calendar : (y m d : ℕ) → Decides (is_calendar_day y m d) (((1 ≤ y) × (y ≤ 9999)) × (((1 ≤ m) × (m ≤ 12)) × ((1 ≤ d) × (d ≤ days_in_month (pos y) m))))
calendar y m d = Decides-and _ _ (Decides-and _ _ (le _ _) (le _ _)) (Decides-and _ _ (Decides-and _ _ (le _ _) (le _ _)) (Decides-and _ _ (le _ _) (le _ _)))

year_fits : (y : ℕ) → y ≤ 9999 → IsYear (pos y)
year_fits y h = omega (arith, ints)

fits_year : (y : ℕ) → IsYear (pos y) → y ≤ 9999
fits_year y h = omega (arith, ints)

some_year : (y : ℕ) → 1 ≤ y → y ≢ 0
some_year y h = λ e. omega arith

year_some : (y : ℕ) → y ≢ 0 → 1 ≤ y
year_some y h = omega arith

-- the test holds exactly of texts of days
pub day_text_decides : (text : List ℕ) → Decides (is_day_text text) (IsDayText text)
day_text_decides text =
    Decides-like _
    (λ h. record {
      long = h.0.0;
      century_digits = h.1.0.0.0;
      year_digits = h.1.0.0.1;
      dash_before_month = h.0.1.0;
      month_digits = h.1.0.1.0;
      dash_before_day = h.0.1.1;
      day_digits = h.1.0.1.1;
      after_year_zero = some_year (year_in text) h.1.1.0.0;
      date = (year_fits (year_in text) h.1.1.0.1, h.1.1.1.0, h.1.1.1.1);
    })
    (λ is. (
      (is.long, (is.dash_before_month, is.dash_before_day)),
      (
        ((is.century_digits, is.year_digits), (is.month_digits, is.day_digits)),
        ((year_some (year_in text) is.after_year_zero, fits_year (year_in text) is.date.0), (is.date.1, is.date.2)),
      ),
    ))
    (Decides-and _ _ (marks text) (Decides-and _ _ (four text) (calendar (year_in text) (month_in text) (day_of_month_in text))))

-- a text of a day names its day
pub day_told : (text : List ℕ) → IsDayText text → day_named text ≡ Some (day_in text)
day_told text is = ap (λ b. cond b (Some (day_in text)) None) ((day_text_decides text).1 is)

-- and what names a day is a text of it
pub day_found : (text : List ℕ) (day : ℤ) → day_named text ≡ Some day → IsDayText text × (day_in text ≡ day)
day_found text day h = at (is_day_text text) refl h
  where
    at : (b : Bool) → is_day_text text ≡ b → cond b (Some (day_in text)) None ≡ Some day → IsDayText text × (day_in text ≡ day)
    at true e h = ((day_text_decides text).0 e, cc)
    at false e h = cc

-- what the reader of days answers
pub day_read : (result : Option ℤ) (text : List ℕ) → IfSome result (λ day. IsDayText text × (day ≡ day_in text)) → IfNone result (¬ IsDayText text) → result ≡ day_named text
day_read (Some day) text some none = ap Some some.1 ∙ sym (day_told text some.0)
day_read None text some none = at (is_day_text text) refl
  where
    at : (b : Bool) → is_day_text text ≡ b → None ≡ cond (is_day_text text) (Some (day_in text)) None
    at true e = absurd (none ((day_text_decides text).0 e))
    at false e = sym (ap (λ b. cond b (Some (day_in text)) None) e)
