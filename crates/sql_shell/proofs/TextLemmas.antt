-- A text that is no UTF-8: no character begins with the byte 255.
use Rattle.std.proofs.Common.{◌≡◌, ℕ, ◌<◌, ◌/◌, ◌+◌, inl, inr, List, [], ◌∷◌, ◌++◌, Bool, true, false, cond, get_or, refl, ap, arith, ltb}
use Rattle.std.specs.Prelude.{IsUtf8}
use Rattle.std.proofs.lemmas.Bool.{and_parts}
use Rattle.std.proofs.lemmas.Bool.Decides.{nat_tests}
use Rattle.std.proofs.Math.Utf8.{scalar, scalars, encode, encodes, next, scalar_cases}

small : (c : ℕ) → scalar c ≡ true → c < 1114112
small c s = elim (scalar_cases c s) [ inl h ↦ omega (arith, h) | inr h ↦ h.1 ]

-- the first byte of a character is below 248
low_first : (c : ℕ) (rest : List ℕ) → c < 1114112 → get_or (encode c ++ rest) 0 0 < 248
unfolding encode
low_first c rest h =
    elim (ltb c 128) as (λ b. ltb c 128 ≡ b → get_or (cond b (c ∷ []) (cond (ltb c 2048) ((192 + c / 64) ∷ next c ∷ []) (cond (ltb c 65536) ((224 + c / 4096) ∷ next (c / 64) ∷ next c ∷ []) ((240 + c / 262144) ∷ next (c / 4096) ∷ next (c / 64) ∷ next c ∷ []))) ++ rest) 0 0 < 248) [
      | true ↦ λ e. one e
      | false ↦ λ e. more
    ] refl
  where
    one : ltb c 128 ≡ true → c < 248
    one e = grind (arith, nat_tests)

    last : (b : Bool) → ltb c 65536 ≡ b → get_or (cond b ((224 + c / 4096) ∷ next (c / 64) ∷ next c ∷ []) ((240 + c / 262144) ∷ next (c / 4096) ∷ next (c / 64) ∷ next c ∷ []) ++ rest) 0 0 < 248
    last true e = let k : c < 65536 = grind (arith, nat_tests) in omega (arith, k)
    last false e = omega arith

    middle : (b : Bool) → ltb c 2048 ≡ b → get_or (cond b ((192 + c / 64) ∷ next c ∷ []) (cond (ltb c 65536) ((224 + c / 4096) ∷ next (c / 64) ∷ next c ∷ []) ((240 + c / 262144) ∷ next (c / 4096) ∷ next (c / 64) ∷ next c ∷ [])) ++ rest) 0 0 < 248
    middle true e = let k : c < 2048 = grind (arith, nat_tests) in omega (arith, k)
    middle false e = last (ltb c 65536) refl

    more : get_or (cond (ltb c 2048) ((192 + c / 64) ∷ next c ∷ []) (cond (ltb c 65536) ((224 + c / 4096) ∷ next (c / 64) ∷ next c ∷ []) ((240 + c / 262144) ∷ next (c / 4096) ∷ next (c / 64) ∷ next c ∷ [])) ++ rest) 0 0 < 248
    more = middle (ltb c 2048) refl

no_chars : (cs : List ℕ) → scalars cs ≡ true → encodes cs ≡ 255 ∷ [] → ⊥
no_chars [] s e = let zero : 0 ≡ 255 = ap (λ bs. get_or bs 0 0) e in absurd (omega (arith, zero))
no_chars (c ∷ cs) s e =
    let low : get_or (encode c ++ encodes cs) 0 0 < 248 = low_first c (encodes cs) (small c (and_parts (scalar c) (scalars cs) s).0) in
    let same : get_or (encode c ++ encodes cs) 0 0 ≡ 255 = ap (λ bs. get_or bs 0 0) e in
    absurd (omega (arith, low, same))

pub no_utf8 : IsUtf8 (255 ∷ []) → ⊥
no_utf8 h = no_chars h.0 h.1.0 h.1.1
