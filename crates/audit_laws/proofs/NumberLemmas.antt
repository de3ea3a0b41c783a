-- What is printed of a number of at most 64 digits is a free number.
use Rattle.std.proofs.Common.{◌≡◌, ℕ, ◌+◌, ◌/◌, ◌%◌, ◌<◌, ◌≤◌, ◌^◌, ◌==◌, List, [], ◌∷◌, ◌++◌, map, Bool, true, false, not, ◌&&◌, decimal, leb, refl, ap, ◌∙◌, arith, le-leb, ne_eqb}
use Rattle.std.specs.List.{AllByRecursion, list_all}
use Rattle.std.proofs.lemmas.Bool.{and_from}
use Rattle.std.proofs.lemmas.Fmt.{decimal_by_steps_wide}
use Rattle.std.proofs.lemmas.List.Folds.{list_all-append}
use Rattle.sql_tree.specs.Bytes.{is_digit}
use Rattle.audit_definitions.specs.Lines.{is_number}

-- the first byte is no 0
abbrev leads : List ℕ → Bool
leads [] = false
leads (d ∷ ds) = not (d == 48)

digit_of : (m : ℕ) → m < 10 → is_digit (48 + m) ≡ true
digit_of m small = and_from (leb 48 (48 + m)) (leb (48 + m) 57) (le-leb 48 (48 + m) (omega arith)) (le-leb (48 + m) 57 (omega arith))

pub and_parts : (a b : Bool) → (a && b) ≡ true → (a ≡ true) × (b ≡ true)
and_parts true b is = (refl, is)
and_parts false b is = cc

-- one digit after others of which the first is no 0
longer : (ds : List ℕ) (d : ℕ) → is_digit d ≡ true → is_number ds ≡ true → leads ds ≡ true → is_number (ds ++ d ∷ []) ≡ true
longer [] d digit is lead = digit
longer (a ∷ []) d digit is lead =
    and_from (is_digit a && not (a == 48)) (is_digit d && true) (and_from (is_digit a) (not (a == 48)) is lead) (and_from (is_digit d) true digit refl)
longer (a ∷ b ∷ ds) d digit is lead =
    let parts = and_parts (is_digit a && not (a == 48)) (list_all is_digit (b ∷ ds)) is in
    and_from (is_digit a && not (a == 48)) (list_all is_digit (b ∷ ds ++ d ∷ [])) parts.0
    (list_all-append is_digit (b ∷ ds) (d ∷ []) ∙ and_from (list_all is_digit (b ∷ ds)) (is_digit d && true) parts.1 (and_from (is_digit d) true digit refl))

leads_longer : (ds : List ℕ) (d : ℕ) → leads ds ≡ true → leads (ds ++ d ∷ []) ≡ true
leads_longer [] d lead = cc
leads_longer (a ∷ ds) d lead = lead

-- a number and what is printed of it: no 0 is in front of another digit
abbrev IsTold : ℕ → List ℕ → Type 0
IsTold n ds = (is_number ds ≡ true) × (0 < n → leads ds ≡ true)

one_digit : (n : ℕ) → n < 10 → IsTold n ((48 + n) ∷ [])
one_digit n small = (digit_of n small, λ some. ap not (ne_eqb (48 + n) 48 (λ e. omega arith)))

one_more : (n : ℕ) (ds : List ℕ) → 10 ≤ n → IsTold (n / 10) ds → IsTold n (ds ++ (48 + n % 10) ∷ [])
one_more n ds large is =
    let lead : leads ds ≡ true = is.1 (omega arith) in
    (longer ds (48 + n % 10) (digit_of (n % 10) (omega arith)) is.0 lead, λ some. leads_longer ds (48 + n % 10) lead)

pub decimal_number : (n : ℕ) → n < 10 ^ 64 → is_number (decimal n) ≡ true
decimal_number n small = (decimal_by_steps_wide IsTold one_digit one_more n small).0

pub decimal_short : (n : ℕ) → n < 2 ^ 64 → is_number (decimal n) ≡ true
decimal_short n short = decimal_number n (omega arith)

pub decimal_wide : (n : ℕ) → n < 2 ^ 128 → is_number (decimal n) ≡ true
decimal_wide n short = decimal_number n (omega arith)

pub decimals_short : (ns : List ℕ) → AllByRecursion (λ n. n < 2 ^ 64) ns → list_all is_number (map decimal ns) ≡ true
decimals_short [] short = refl
decimals_short (n ∷ ns) short = and_from (is_number (decimal n)) (list_all is_number (map decimal ns)) (decimal_short n short.0) (decimals_short ns short.1)
