-- Words, numbers and texts in quotes, with their tokens, before what ends them.
use Rattle.std.proofs.Common.{◌≡◌, ℕ, ◌<◌, ◌+◌, ◌^◌, List, [], ◌∷◌, ◌++◌, flat_map, Bool, true, false, not, ◌&&◌, ◌||◌, codes, decimal, refl, ap, sym, subst, append_assoc, arith}
use Rattle.std.specs.Int.{IsInRange}
use Rattle.std.specs.List.{list_all}
use Rattle.std.specs.Str.Parse.{AllDigits, IsNumeral, digits_value}
use Rattle.std.proofs.lemmas.Bool.Decides.{nat_tests}
use Rattle.std.proofs.lemmas.Fmt.{decimal_digit, decimal_is_IsNumeral_wide}
use Rattle.std.proofs.lemmas.Str.Parse.{digit_from_value}
use Rattle.std.proofs.lemmas.Bool.{and_from}
use Rattle.text_bytes.specs.Classes.{is_letter, is_digit, is_word_byte, begins}
use Rattle.text_bytes.proofs.ByteLemmas.{digits_word_bytes}
use Rattle.mal_print.specs.Canon.{quoted, variable}
use Rattle.mal_tokens.specs.Tokens.{AreTokens, spelled}
use Rattle.mal_tokens.specs.Tokens.Part.{Letters, Number, Quoted, Sign}
use Rattle.mal_tokens.specs.declared.token.Mark.TheVariants as mark
use Rattle.mal_tokens.specs.declared.token.MalToken.TheVariants.{Name, Digits, Text, Mark}
use Rattle.mal_print_laws.proofs.CutLemmas.{put, ends, Lead, Printed}

-- ## Words

-- a letter, and bytes of words
abbrev pub is_word : List ℕ → Bool
is_word [] = false
is_word (b ∷ bs) = is_letter b && list_all is_word_byte bs

pub word_printed : (word : List ℕ) → is_word word ≡ true → Printed word (λ ts. Name word ∷ ts)
word_printed [] is = cc
word_printed (b ∷ bs) is = record { printed = λ rest ts cut h. put (Letters b bs) rest ts (and_from (is_letter b && list_all is_word_byte bs) (ends rest) is h) cut }

-- ## Numbers

digit_is : (b : ℕ) → IsInRange 48 57 b → is_digit b ≡ true
digit_is b h = grind (arith, nat_tests)

digits_are : (bs : List ℕ) → AllDigits 10 bs → list_all is_digit bs ≡ true
digits_are [] h = refl
digits_are (b ∷ bs) h = and_from (is_digit b) (list_all is_digit bs) (digit_is b (digit_from_value b h.0)) (digits_are bs h.1)

-- where no byte of a word begins the rest, no digit does
ends_digits : (rest : List ℕ) → ends rest ≡ true → not (begins is_digit rest) ≡ true
ends_digits [] h = refl
ends_digits (b ∷ rest) h = no_digit (is_letter b) (is_digit b) h
  where
    no_digit : (letter digit : Bool) → not (letter || digit) ≡ true → not digit ≡ true
    no_digit true digit h = cc
    no_digit false digit h = h

-- digits that write a number
pub numeral_printed : (ds : List ℕ) → IsNumeral 10 ds → Printed ds (λ ts. Digits ds ∷ ts)
numeral_printed [] is = absurd (omega (arith, is.0))
numeral_printed (b ∷ bs) is = record { printed = λ rest ts cut h. put (Number b bs) rest ts (and_from (is_digit b && list_all is_digit bs) (not (begins is_digit rest)) (digits_are (b ∷ bs) is.1) (ends_digits rest h)) cut }

pub decimal_printed : (n : ℕ) → n < 10 ^ 64 → Printed (decimal n) (λ ts. Digits (decimal n) ∷ ts)
decimal_printed n h = numeral_printed (decimal n) (decimal_is_IsNumeral_wide n h).0

pub zero_printed : Printed (codes "0") (λ ts. Digits (codes "0") ∷ ts)
zero_printed = numeral_printed (codes "0") (subst (IsNumeral 10) (decimal_digit 0 (omega arith)) (decimal_is_IsNumeral_wide 0 (omega arith)).0)

pub decimal_value : (n : ℕ) → n < 10 ^ 64 → digits_value 10 (decimal n) ≡ n
decimal_value n h = (decimal_is_IsNumeral_wide n h).1

-- a `-`
pub minus : Lead (45 ∷ []) (λ ts. Mark mark.Minus ∷ ts)
minus = record { lead = λ rest ts cut. put (Sign mark.Minus) rest ts refl cut }

-- ## Variables

pub variable_word : (n : ℕ) → n + 1 < 10 ^ 64 → is_word (variable n) ≡ true
variable_word n h = digits_word_bytes (decimal (n + 1)) (digits_are (decimal (n + 1)) (decimal_is_IsNumeral_wide (n + 1) h).0.1)

-- ## Texts in quotes

quoted_before : (text rest : List ℕ) → 34 ∷ flat_map spelled text ++ 34 ∷ rest ≡ quoted text ++ rest
quoted_before text rest = ap (λ bs. 34 ∷ bs) (sym (append_assoc (flat_map spelled text) (34 ∷ []) rest))

pub text_printed : (text : List ℕ) → Lead (quoted text) (λ ts. Text text ∷ ts)
text_printed text = record { lead = λ rest ts cut. subst (λ bs. AreTokens bs (Text text ∷ ts)) (quoted_before text rest) (put (Quoted text) rest ts tt cut) }
