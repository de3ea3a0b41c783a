-- Bytes of words in lower case, and digits that no letter follows.
use Rattle.std.proofs.Common.{◌≡◌, ℕ, List, [], ◌∷◌, map, take, Bool, true, false, not, ◌||◌, refl, ap, ◌∙◌, arith}
use Rattle.std.specs.Prelude.{IsAscii}
use Rattle.std.specs.Char.{to_ascii_lowercase}
use Rattle.std.specs.List.{list_all, prefix_len}
use Rattle.std.proofs.lemmas.Bool.Decides.{nat_tests}
use Rattle.std.proofs.lemmas.Str.Ascii.{IsAscii-map, lowercase_ascii}
use Rattle.sql_tree.specs.Bytes.{is_letter, is_digit, is_word_byte, low, begins}
use Rattle.text_bytes.proofs.ByteLemmas.{ascii_word_bytes}
use Rattle.text_bytes.proofs.ByteLemmas as shared

-- where no byte of a word follows, no digit does
pub no_digit : (bs : List ℕ) → begins is_word_byte bs ≡ false → begins is_digit bs ≡ false
no_digit [] h = refl
no_digit (b ∷ bs) h = second (is_letter b) (is_digit b) h
  where
    second : (l d : Bool) → (l || d) ≡ false → d ≡ false
    second l true h = elim l as (λ l. (l || true) ≡ false → true ≡ false) [ true ↦ λ h. h | false ↦ λ h. h ] h
    second l false h = refl

pub not_holds : (t : Bool) → not t ≡ true → t ≡ false
not_holds true h = cc
not_holds false h = refl

pub ascii_low_bytes : (bs : List ℕ) → list_all is_word_byte bs ≡ true → IsAscii (map to_ascii_lowercase bs)
ascii_low_bytes bs all = IsAscii-map to_ascii_lowercase bs lowercase_ascii (ascii_word_bytes bs all)

-- std's lower case is that of the definitions
low_is : (b : ℕ) → to_ascii_lowercase b ≡ low b
low_is b = grind (arith, nat_tests)

pub low_all : (bs : List ℕ) → map to_ascii_lowercase bs ≡ map low bs
low_all [] = refl
low_all (b ∷ bs) = ap (λ c. c ∷ map to_ascii_lowercase bs) (low_is b) ∙ ap (λ cs. low b ∷ cs) (low_all bs)

-- a letter and the front of a word after it are a word's bytes
pub word_front : (b : ℕ) (bs : List ℕ) → is_letter b ≡ true → list_all is_word_byte (b ∷ take (prefix_len is_word_byte bs) bs) ≡ true
word_front b bs h = shared.word_front b bs h
