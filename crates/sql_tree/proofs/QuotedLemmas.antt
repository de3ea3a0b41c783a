-- A text between marks, each mark in it doubled, is UTF-8 where the text is.
use Rattle.std.proofs.Common.{◌≡◌, ℕ, ◌<◌, ◌≤◌, ◌+◌, ◌/◌, ◌==◌, Bool, true, false, cond, List, [], ◌∷◌, ◌++◌, refl, sym, ap, ◌∙◌, arith, subst, ltb, inl, inr}
use Rattle.std.specs.Prelude.{flat_map}
use Rattle.std.specs.Str.{IsUtf8}
use Rattle.std.proofs.lemmas.Bool.Decides.{nat_tests}
use Rattle.std.proofs.lemmas.Bool.{and_parts, cases_lt}
use Rattle.std.proofs.lemmas.List.{append-nil}
use Rattle.std.proofs.lemmas.List.Concat.{flat_map-append}
use Rattle.std.proofs.lemmas.Str.{IsUtf8-append, IsUtf8-nil, encode_ascii}
use Rattle.sql_tree.specs.Bytes.{doubled}
use lib.Utf8.{scalar, scalars, encode, encodes, next, low_scalar}

-- a byte other than the mark is unchanged
other_byte : (mark b : ℕ) → mark < 128 → 128 ≤ b → doubled mark b ≡ b ∷ []
other_byte mark b h k = grind (arith, nat_tests)

plain_cons : (mark b : ℕ) (bs : List ℕ) → mark < 128 → 128 ≤ b → flat_map (doubled mark) bs ≡ bs → flat_map (doubled mark) (b ∷ bs) ≡ b ∷ bs
plain_cons mark b bs h k e = ap (λ t. t ++ flat_map (doubled mark) bs) (other_byte mark b h k) ∙ ap (λ t. b ∷ t) e

plain_cond : (mark : ℕ) (p : Bool) (xs ys : List ℕ) → flat_map (doubled mark) xs ≡ xs → flat_map (doubled mark) ys ≡ ys → flat_map (doubled mark) (cond p xs ys) ≡ cond p xs ys
plain_cond mark true xs ys e f = e
plain_cond mark false xs ys e f = f

-- a character of several bytes has no mark in it
other_char : (mark c : ℕ) → mark < 128 → 128 ≤ c → flat_map (doubled mark) (encode c) ≡ encode c
unfolding encode
other_char mark c h k =
    let above : ltb c 128 ≡ false = grind (arith, nat_tests) in
    let last : flat_map (doubled mark) (next c ∷ []) ≡ next c ∷ [] = plain_cons mark (next c) [] h (omega arith) refl in
    let last_two : flat_map (doubled mark) (next (c / 64) ∷ next c ∷ []) ≡ next (c / 64) ∷ next c ∷ [] = plain_cons mark _ _ h (omega arith) last in
    let last_three : flat_map (doubled mark) (next (c / 4096) ∷ next (c / 64) ∷ next c ∷ []) ≡ next (c / 4096) ∷ next (c / 64) ∷ next c ∷ [] = plain_cons mark _ _ h (omega arith) last_two in
    let two : flat_map (doubled mark) ((192 + c / 64) ∷ next c ∷ []) ≡ (192 + c / 64) ∷ next c ∷ [] = plain_cons mark _ _ h (omega arith) last in
    let three : flat_map (doubled mark) ((224 + c / 4096) ∷ next (c / 64) ∷ next c ∷ []) ≡ (224 + c / 4096) ∷ next (c / 64) ∷ next c ∷ [] = plain_cons mark _ _ h (omega arith) last_two in
    let four : flat_map (doubled mark) ((240 + c / 262144) ∷ next (c / 4096) ∷ next (c / 64) ∷ next c ∷ []) ≡ (240 + c / 262144) ∷ next (c / 4096) ∷ next (c / 64) ∷ next c ∷ [] = plain_cons mark _ _ h (omega arith) last_three in
    rw above (plain_cond mark _ _ _ two (plain_cond mark _ _ _ three four))

one_char : (c : ℕ) → scalar c ≡ true → IsUtf8 (encode c)
one_char c s = (c ∷ [], (rw s refl, append-nil (encode c)))

one_byte : (b : ℕ) → b < 128 → IsUtf8 (b ∷ [])
one_byte b h = subst IsUtf8 (encode_ascii b h) (one_char b (low_scalar b (omega arith)))

doubled_ascii : (mark c : ℕ) → mark < 128 → c < 128 → IsUtf8 (doubled mark c)
doubled_ascii mark c h k =
    elim (c == mark) as (λ p. IsUtf8 (cond p (mark ∷ mark ∷ []) (c ∷ []))) [
      | true ↦ IsUtf8-append (mark ∷ []) (mark ∷ []) (one_byte mark h) (one_byte mark h)
      | false ↦ one_byte c k
    ]

doubled_char : (mark c : ℕ) → mark < 128 → scalar c ≡ true → IsUtf8 (flat_map (doubled mark) (encode c))
doubled_char mark c h s =
    elim (cases_lt c 128) [
      | inl k ↦ rw (encode_ascii c k, append-nil (doubled mark c)) (doubled_ascii mark c h k)
      | inr k ↦ rw (other_char mark c h k) (one_char c s)
    ]

doubled_chars : (mark : ℕ) (cs : List ℕ) → mark < 128 → scalars cs ≡ true → IsUtf8 (flat_map (doubled mark) (encodes cs))
doubled_chars mark [] h s = IsUtf8-nil
doubled_chars mark (c ∷ cs) h s =
    let (here, after) = and_parts (scalar c) (scalars cs) s in
    subst IsUtf8 (sym (flat_map-append (doubled mark) (encode c) (encodes cs)))
    (IsUtf8-append (flat_map (doubled mark) (encode c)) (flat_map (doubled mark) (encodes cs)) (doubled_char mark c h here) (doubled_chars mark cs h after))

pub IsUtf8-quoted : (mark : ℕ) (text : List ℕ) → mark < 128 → IsUtf8 text → IsUtf8 (mark ∷ flat_map (doubled mark) text ++ mark ∷ [])
IsUtf8-quoted mark text h utf8 =
    let inside : IsUtf8 (flat_map (doubled mark) text) = subst (λ t. IsUtf8 (flat_map (doubled mark) t)) utf8.1.1 (doubled_chars mark utf8.0 h utf8.1.0) in
    IsUtf8-append (mark ∷ flat_map (doubled mark) text) (mark ∷ []) (IsUtf8-append (mark ∷ []) _ (one_byte mark h) inside) (one_byte mark h)
