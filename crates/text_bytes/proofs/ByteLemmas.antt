-- Classes of bytes, and the longest front that passes a test.
use Rattle.std.proofs.Common.{◌≡◌, ℕ, suc, ◌<◌, ◌+◌, List, [], ◌∷◌, ◌++◌, length, take, drop, Bool, true, false, not, ◌&&◌, ◌||◌, cond, refl, ap, sym, ◌∙◌, arith, ⊎_elim, subst, append_assoc}
use Rattle.std.specs.Prelude.{◌==◌, IsAscii}
use Rattle.std.specs.List.{list_all, prefix_len}
use Rattle.std.proofs.lemmas.Bool.{and_parts, or_cases, eqb-true}
use Rattle.std.proofs.lemmas.Bool.Decides.{nat_tests}
use Rattle.std.proofs.lemmas.List.{take-append-drop}
use Rattle.std.proofs.lemmas.Str.Ascii.{IsAscii-nil, IsAscii-cons}
use Rattle.text_bytes.specs.Classes.{is_blank, is_letter, is_digit, is_word_byte, begins}

pub word_byte_ascii : (b : ℕ) → is_word_byte b ≡ true → b < 128
word_byte_ascii b h = grind (arith, nat_tests)

pub digit_no_letter : (b : ℕ) → is_digit b ≡ true → is_letter b ≡ false
digit_no_letter b h = grind (arith, nat_tests)

pub letter_word_byte : (b : ℕ) → is_letter b ≡ true → is_word_byte b ≡ true
letter_word_byte b h = ap (λ l. l || is_digit b) h

-- what holds of four bytes holds of a byte that is one of them
module _ (P : ℕ → Type 0) (m n o p : ℕ) (at_m : P m) (at_n : P n) (at_o : P o) (at_p : P p) where
  one_of_four : (b : ℕ) → ((b == m) || (b == n) || (b == o) || (b == p)) ≡ true → P b
  one_of_four b h =
      ⊎_elim (λ left. ⊎_elim (λ left. ⊎_elim (here m at_m) (here n at_n) (or_cases (b == m) (b == n) left)) (here o at_o) (or_cases ((b == m) || (b == n)) (b == o) left)) (here p at_p) (or_cases ((b == m) || (b == n) || (b == o)) (b == p) h)
    where
      here : (k : ℕ) → P k → (b == k) ≡ true → P b
      here k at e = subst P (sym (eqb-true b k e)) at

pub blank_cases : (P : ℕ → Type 0) → P 32 → P 9 → P 13 → P 10 → (b : ℕ) → is_blank b ≡ true → P b
blank_cases P space tab cr lf b h = one_of_four P 32 9 13 10 space tab cr lf b h

-- ## The longest front that passes a test

one_more : (n : ℕ) → 1 + n ≡ suc n
one_more n = omega arith

module _ (p : ℕ → Bool) where
  pub front_passes : (bs : List ℕ) → list_all p (take (prefix_len p bs) bs) ≡ true
  front_passes [] = refl
  front_passes (b ∷ bs) =
      elim (p b) as (λ t. p b ≡ t → list_all p (take (cond t (1 + prefix_len p bs) 0) (b ∷ bs)) ≡ true) [
        | true ↦ λ e. rw (one_more (prefix_len p bs)) (ap (λ t. t && list_all p (take (prefix_len p bs) bs)) e ∙ front_passes bs)
        | false ↦ λ e. refl
      ] refl

  pub front_stops : (bs : List ℕ) → begins p (drop (prefix_len p bs) bs) ≡ false
  front_stops [] = refl
  front_stops (b ∷ bs) =
      elim (p b) as (λ t. p b ≡ t → begins p (drop (cond t (1 + prefix_len p bs) 0) (b ∷ bs)) ≡ false) [
        | true ↦ λ e. rw (one_more (prefix_len p bs)) (front_stops bs)
        | false ↦ λ e. e
      ] refl

  -- the front is found again after what passes and before what stops
  pub front_again : (bs rest : List ℕ) → list_all p bs ≡ true → begins p rest ≡ false → prefix_len p (bs ++ rest) ≡ length bs
  front_again [] [] all stop = refl
  front_again [] (b ∷ rest) all stop = ap (λ t. cond t (1 + prefix_len p rest) 0) stop
  front_again (b ∷ bs) rest all stop =
      let parts = and_parts (p b) (list_all p bs) all in
      let again = front_again bs rest parts.1 stop in
      let here : cond (p b) (1 + prefix_len p (bs ++ rest)) 0 ≡ 1 + prefix_len p (bs ++ rest) = ap (λ t. cond t (1 + prefix_len p (bs ++ rest)) 0) parts.0 in
      here ∙ omega (arith, again)

pub not_holds : (t : Bool) → not t ≡ true → t ≡ false
not_holds true h = cc
not_holds false h = refl

-- ## Bytes of words

pub ascii_word_bytes : (bs : List ℕ) → list_all is_word_byte bs ≡ true → IsAscii bs
ascii_word_bytes [] all = IsAscii-nil
ascii_word_bytes (b ∷ bs) all =
    let parts = and_parts (is_word_byte b) (list_all is_word_byte bs) all in
    IsAscii-cons b bs (word_byte_ascii b parts.0) (ascii_word_bytes bs parts.1)

pub digits_word_bytes : (bs : List ℕ) → list_all is_digit bs ≡ true → list_all is_word_byte bs ≡ true
digits_word_bytes [] all = refl
digits_word_bytes (b ∷ bs) all =
    let parts = and_parts (is_digit b) (list_all is_digit bs) all in
    let here : is_word_byte b ≡ true = elim (is_letter b) as (λ l. (l || is_digit b) ≡ true) [ true ↦ refl | false ↦ parts.0 ] in
    ap (λ t. t && list_all is_word_byte bs) here ∙ digits_word_bytes bs parts.1

-- a letter and the front of a word after it are a word's bytes; a digit and the front of digits are digits,
-- and so a word's bytes
pub word_front : (b : ℕ) (bs : List ℕ) → is_letter b ≡ true → list_all is_word_byte (b ∷ take (prefix_len is_word_byte bs) bs) ≡ true
word_front b bs h = ap (λ t. t && list_all is_word_byte (take (prefix_len is_word_byte bs) bs)) (letter_word_byte b h) ∙ front_passes is_word_byte bs

pub digits_front : (b : ℕ) (bs : List ℕ) → is_digit b ≡ true → list_all is_digit (b ∷ take (prefix_len is_digit bs) bs) ≡ true
digits_front b bs h = ap (λ t. t && list_all is_digit (take (prefix_len is_digit bs) bs)) h ∙ front_passes is_digit bs

pub digits_front_word : (b : ℕ) (bs : List ℕ) → is_digit b ≡ true → list_all is_word_byte (b ∷ take (prefix_len is_digit bs) bs) ≡ true
digits_front_word b bs h = digits_word_bytes (b ∷ take (prefix_len is_digit bs) bs) (digits_front b bs h)

-- ## Parts of lists

-- after a text and one mark more
pub behind_one : (xs rest : List ℕ) (x : ℕ) → drop (length xs + 1) (xs ++ x ∷ rest) ≡ rest
behind_one [] rest x = refl
behind_one (z ∷ xs) rest x = let more : length (z ∷ xs) + 1 ≡ suc (length xs + 1) = omega arith in rw more (behind_one xs rest x)

-- a part moves in front
pub part_moved : (before : List ℕ) (b n : ℕ) (bs text : List ℕ) → before ++ b ∷ bs ≡ text → (before ++ b ∷ take n bs) ++ drop n bs ≡ text
part_moved before b n bs text whole = append_assoc before (b ∷ take n bs) (drop n bs) ∙ ap (λ cs. before ++ b ∷ cs) (take-append-drop n bs) ∙ whole
