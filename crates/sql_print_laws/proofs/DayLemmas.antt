-- The text of a day in a literal: it is the day's, and has no mark.
use Rattle.std.proofs.Common.{◌≡◌, ℕ, ◌==◌, List, [], ◌∷◌, ◌++◌, flat_map, true, false, cond, ℤ, refl, ap, sym, ◌∙◌, arith}
use Rattle.std.specs.Char.{IsAsciiDigit}
use Rattle.std.proofs.lemmas.Bool.Decides.{nat_tests}
use Rattle.cell_core.specs.Day.{day_text, day_in, is_printed_day, IsDayText}
use Rattle.cell_text.proofs.DayLemmas.{day_text-day_in, day_in-printed}
use Rattle.sql_tree.specs.Bytes.{doubled}

-- ## No mark

no_mark_first : (b : ℕ) (bs : List ℕ) → (b == 39) ≡ false → flat_map (doubled 39) bs ≡ bs → flat_map (doubled 39) (b ∷ bs) ≡ b ∷ bs
no_mark_first b bs h more = ap (λ t. cond t (39 ∷ 39 ∷ []) (b ∷ []) ++ flat_map (doubled 39) bs) h ∙ ap (λ cs. b ∷ cs) more

digit_no_mark : (b : ℕ) → IsAsciiDigit b → (b == 39) ≡ false
digit_no_mark b h = grind (arith, nat_tests)

dash_no_mark : (b : ℕ) → b ≡ 45 → (b == 39) ≡ false
dash_no_mark b h = ap (λ b. b == 39) h

no_marks : (text : List ℕ) → IsDayText text → flat_map (doubled 39) text ≡ text
no_marks [] is = absurd (omega (arith, is.long))
no_marks (a ∷ []) is = absurd (omega (arith, is.long))
no_marks (a ∷ b ∷ []) is = absurd (omega (arith, is.long))
no_marks (a ∷ b ∷ c ∷ []) is = absurd (omega (arith, is.long))
no_marks (a ∷ b ∷ c ∷ d ∷ []) is = absurd (omega (arith, is.long))
no_marks (a ∷ b ∷ c ∷ d ∷ e ∷ []) is = absurd (omega (arith, is.long))
no_marks (a ∷ b ∷ c ∷ d ∷ e ∷ f ∷ []) is = absurd (omega (arith, is.long))
no_marks (a ∷ b ∷ c ∷ d ∷ e ∷ f ∷ g ∷ []) is = absurd (omega (arith, is.long))
no_marks (a ∷ b ∷ c ∷ d ∷ e ∷ f ∷ g ∷ h ∷ []) is = absurd (omega (arith, is.long))
no_marks (a ∷ b ∷ c ∷ d ∷ e ∷ f ∷ g ∷ h ∷ i ∷ []) is = absurd (omega (arith, is.long))
no_marks (a ∷ b ∷ c ∷ d ∷ e ∷ f ∷ g ∷ h ∷ i ∷ j ∷ []) is =
    no_mark_first a _ (digit_no_mark a is.century_digits.0) (no_mark_first b _ (digit_no_mark b is.century_digits.1)
    (no_mark_first c _ (digit_no_mark c is.year_digits.0) (no_mark_first d _ (digit_no_mark d is.year_digits.1)
    (no_mark_first e _ (dash_no_mark e is.dash_before_month)
    (no_mark_first f _ (digit_no_mark f is.month_digits.0) (no_mark_first g _ (digit_no_mark g is.month_digits.1)
    (no_mark_first h _ (dash_no_mark h is.dash_before_day)
    (no_mark_first i _ (digit_no_mark i is.day_digits.0) (no_mark_first j [] (digit_no_mark j is.day_digits.1) refl)))))))))
no_marks (a ∷ b ∷ c ∷ d ∷ e ∷ f ∷ g ∷ h ∷ i ∷ j ∷ k ∷ text) is = absurd (omega (arith, is.long))

-- ## Literals

-- what a literal of a day prints
pub record PrintsDay (text : List ℕ) (day : ℤ) : Type 0 where
  pub dated_is : is_printed_day day ≡ true
  pub text_is : day_text day ≡ text
  pub no_mark : flat_map (doubled 39) text ≡ text

pub prints_day : (text : List ℕ) (day : ℤ) → IsDayText text → day_in text ≡ day → PrintsDay text day
prints_day text day is same = record {
  dated_is = ap is_printed_day (sym same) ∙ day_in-printed text is;
  text_is = ap day_text (sym same) ∙ day_text-day_in text is;
  no_mark = no_marks text is;
}
