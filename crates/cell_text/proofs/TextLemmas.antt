-- Texts with each backslash doubled.
use Rattle.std.proofs.Common.{◌≡◌, ℕ, ◌+◌, ◌<◌, ◌≤◌, Bool, false, cond, ◌==◌, List, [], ◌∷◌, length, take, get_or, length-append, refl, arith}
use Rattle.std.specs.List.{count_by}
use Rattle.std.proofs.lemmas.Bool.Decides.{nat_tests}
use Rattle.std.proofs.lemmas.List.Sums.{sum_by-cons}
use Rattle.std.proofs.lemmas.List.Folds.{length-flat_map-take}
use Rattle.cell_core.specs.CellText.{escaped_text, escaped_byte}

abbrev is_backslash : ℕ → Bool
is_backslash byte = byte == 92

length-escaped_byte : (byte : ℕ) → 1 + cond (is_backslash byte) 1 0 ≡ length (escaped_byte byte)
length-escaped_byte byte = grind (arith, nat_tests)

escaped_cons : (byte : ℕ) (rest : List ℕ) → is_backslash byte ≡ false → escaped_text rest ≡ rest → escaped_text (byte ∷ rest) ≡ byte ∷ rest
escaped_cons byte rest here after = rw (here, after) refl

-- a text with no backslash is written as it is
pub escaped_text-plain : (text : List ℕ) → count_by is_backslash text ≡ 0 → escaped_text text ≡ text
escaped_text-plain [] h = refl
escaped_text-plain (byte ∷ rest) h =
    let more = sum_by-cons (λ b. cond (is_backslash b) 1 0) byte rest in
    let after : count_by is_backslash rest ≡ 0 = omega arith in
    let here : is_backslash byte ≡ false = grind (arith, nat_tests) in
    escaped_cons byte rest here (escaped_text-plain rest after)

-- each backslash takes one byte more
pub length-escaped_text : (text : List ℕ) → length text + count_by is_backslash text ≡ length (escaped_text text)
length-escaped_text [] = refl
length-escaped_text (byte ∷ rest) =
    let more = sum_by-cons (λ b. cond (is_backslash b) 1 0) byte rest in
    simp length-append (omega (arith, more, length-escaped_text rest, length-escaped_byte byte))

-- what is written before a byte leaves room for that byte
pub room_for_byte : (text : List ℕ) (i : ℕ) → i < length text → length (escaped_text (take i text)) + 1 ≤ length (escaped_text text)
room_for_byte text i h =
    omega (arith, length-flat_map-take escaped_byte text i 0 h, length-escaped_byte (get_or text i 0))

-- and for the second byte of a backslash
pub room_for_backslash : (text : List ℕ) (i : ℕ) → i < length text → get_or text i 0 ≡ 92 → length (escaped_text (take i text)) + 2 ≤ length (escaped_text text)
room_for_backslash text i h e =
    let two : length (escaped_byte (get_or text i 0)) ≡ 2 = rw e refl in
    omega (arith, length-flat_map-take escaped_byte text i 0 h, two)
