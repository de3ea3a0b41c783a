-- Classes of bytes.
use Rattle.std.specs.Prelude.{ℕ, ◌+◌, ◌==◌, List, [], ◌∷◌, Bool, false, not, ◌&&◌, ◌||◌, nat_le, if◌then◌else◌}

-- space, tab, CR and LF
abbrev pub is_blank : ℕ → Bool
is_blank b = (b == 32) || (b == 9) || (b == 13) || (b == 10)

-- a letter of ASCII in lower case, or `_`
abbrev pub is_low_letter : ℕ → Bool
is_low_letter b = (nat_le 97 b && nat_le b 122) || (b == 95)

-- a digit of ASCII
abbrev pub is_digit : ℕ → Bool
is_digit b = nat_le 48 b && nat_le b 57

-- a letter of ASCII or `_`
abbrev pub is_letter : ℕ → Bool
is_letter b = is_low_letter b || (nat_le 65 b && nat_le b 90)

-- a letter, a digit or `_`
abbrev pub is_word_byte : ℕ → Bool
is_word_byte b = is_letter b || is_digit b

-- a byte in lower case
abbrev pub low : ℕ → ℕ
low b = if nat_le 65 b && nat_le b 90 then b + 32 else b

-- a byte of a `--` comment: any but LF
abbrev pub is_in_line : ℕ → Bool
is_in_line b = not (b == 10)

-- the bytes begin with one that passes
abbrev pub begins : (ℕ → Bool) → List ℕ → Bool
begins p [] = false
begins p (b ∷ bs) = p b

-- the bytes begin with this one
abbrev pub begins_with : ℕ → List ℕ → Bool
begins_with byte bs = begins (λ b. b == byte) bs

-- a byte between two marks: the mark is doubled, any other byte is unchanged
abbrev pub doubled : ℕ → ℕ → List ℕ
doubled mark b = if b == mark then mark ∷ mark ∷ [] else b ∷ []

-- a `*/` occurs in the bytes
abbrev pub holds_close : List ℕ → Bool
holds_close [] = false
holds_close (b ∷ bs) = ((b == 42) && begins_with 47 bs) || holds_close bs
