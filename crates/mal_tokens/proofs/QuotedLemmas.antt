-- Texts in quotes: what is read is there, and what is there is read.
use Rattle.std.proofs.Common.{◌≡◌, ℕ, suc, ◌<◌, ◌+◌, List, [], ◌∷◌, ◌++◌, length, drop, Bool, true, false, not, ◌||◌, cond, Some, None, refl, ap, sym, ◌∙◌, arith, subst, ⊎_elim, append_assoc}
use Rattle.std.specs.Prelude.{◌==◌, flat_map}
use Rattle.std.specs.Str.{IsUtf8}
use Rattle.std.proofs.lemmas.Bool.{eqb-true, or_cases}
use Rattle.std.proofs.lemmas.Str.{IsUtf8-append, IsUtf8-from_ascii}
use Rattle.std.proofs.lemmas.Str.Ascii.{IsAscii-nil, IsAscii-cons}
use Rattle.mal_tokens.specs.Bytes.{quoted_at, kept_byte}
use Rattle.mal_tokens.specs.Tokens.{spelled}
use Rattle.text_bytes.specs.Found.{joined}
use Rattle.text_bytes.proofs.FoundLemmas.{value_found, joined_found}
use Rattle.text_bytes.proofs.TextLemmas.{around_ascii}

spelled_other : (b : ℕ) → (b == 92) ≡ false → (b == 34) ≡ false → (b == 10) ≡ false → spelled b ≡ b ∷ []
spelled_other b p q r =
    ap (λ t. cond t (92 ∷ 92 ∷ []) (cond (b == 34) (92 ∷ 34 ∷ []) (cond (b == 10) (92 ∷ 110 ∷ []) (b ∷ [])))) p
    ∙ ap (λ t. cond t (92 ∷ 34 ∷ []) (cond (b == 10) (92 ∷ 110 ∷ []) (b ∷ []))) q
    ∙ ap (λ t. cond t (92 ∷ 110 ∷ []) (b ∷ [])) r

add_one : (n : ℕ) → n + 1 ≡ suc n
add_one n = omega arith

-- ## What is read is there

-- the text and its closing quote are at the front; after an open backslash, that is part of it
pub record IsQuoted (escaped : Bool) (bs text : List ℕ) (n : ℕ) : Type 0 where
  pub text_is : flat_map spelled text ++ 34 ∷ drop n bs ≡ cond escaped (92 ∷ bs) bs

abbrev Stands : Bool → List ℕ → List ℕ × ℕ → Type 0
Stands escaped bs p = IsQuoted escaped bs p.0 p.1

-- what holds of the three bytes that may follow a backslash
three_cases : (P : ℕ → Type 0) → P 92 → P 34 → P 110 → (b : ℕ) → ((b == 92) || (b == 34) || (b == 110)) ≡ true → P b
three_cases P backslash quote letter b h =
    ⊎_elim (λ left. ⊎_elim (here 92 backslash) (here 34 quote) (or_cases (b == 92) (b == 34) left)) (here 110 letter) (or_cases ((b == 92) || (b == 34)) (b == 110) h)
  where
    here : (k : ℕ) → P k → (b == k) ≡ true → P b
    here k at e = subst P (sym (eqb-true b k e)) at

not_refused : (t : Bool) → not t ≡ false → t ≡ true
not_refused true h = refl
not_refused false h = cc

behind_backslash : (b : ℕ) (bs : List ℕ) (q : List ℕ × ℕ) → ((b == 92) || (b == 34) || (b == 110)) ≡ true → Stands false bs q → Stands true (b ∷ bs) (kept_byte true b ++ q.0, q.1 + 1)
behind_backslash b bs q h found =
    three_cases (λ b. Stands true (b ∷ bs) (kept_byte true b ++ q.0, q.1 + 1))
    (record { text_is = rw (add_one q.1) (ap (λ cs. 92 ∷ 92 ∷ cs) found.text_is) })
    (record { text_is = rw (add_one q.1) (ap (λ cs. 92 ∷ 34 ∷ cs) found.text_is) })
    (record { text_is = rw (add_one q.1) (ap (λ cs. 92 ∷ 110 ∷ cs) found.text_is) })
    b h

a_backslash : (b : ℕ) (bs : List ℕ) (q : List ℕ × ℕ) → (b == 92) ≡ true → Stands true bs q → Stands false (b ∷ bs) (q.0, q.1 + 1)
a_backslash b bs q e found = record { text_is = rw (add_one q.1) (found.text_is ∙ ap (λ c. c ∷ bs) (sym (eqb-true b 92 e))) }

another : (b : ℕ) (bs : List ℕ) (q : List ℕ × ℕ) → (b == 92) ≡ false → (b == 34) ≡ false → (b == 10) ≡ false → Stands false bs q → Stands false (b ∷ bs) (b ∷ q.0, q.1 + 1)
another b bs q x y z found = record { text_is = rw (spelled_other b x y z, add_one q.1) (ap (λ cs. b ∷ cs) found.text_is) }

the_quote : (b : ℕ) (bs : List ℕ) → (b == 34) ≡ true → Stands false (b ∷ bs) ([], 1)
the_quote b bs e = record { text_is = ap (λ c. c ∷ bs) (sym (eqb-true b 34 e)) }

pub quoted_sound : (bs : List ℕ) (escaped : Bool) (p : List ℕ × ℕ) → quoted_at escaped bs ≡ Some p → IsQuoted escaped bs p.0 p.1
quoted_sound [] escaped p h = cc
quoted_sound (b ∷ bs) true p h = by_byte (quoted_sound bs false) ((b == 92) || (b == 34) || (b == 110)) refl h
  where
    by_byte : ((p : List ℕ × ℕ) → quoted_at false bs ≡ Some p → Stands false bs p) → (t : Bool) → ((b == 92) || (b == 34) || (b == 110)) ≡ t
        → cond (not t) None (joined (kept_byte true b) (quoted_at false bs)) ≡ Some p → Stands true (b ∷ bs) p
    by_byte more true e h =
        let (q, found, same) = joined_found (kept_byte true b) (quoted_at false bs) p h in
        subst (Stands true (b ∷ bs)) same (behind_backslash b bs q e (more q found))
    by_byte more false e h = cc
quoted_sound (b ∷ bs) false p h = by_quote (quoted_sound bs) (b == 34) refl h
  where
    by_backslash : ((escaped : Bool) (p : List ℕ × ℕ) → quoted_at escaped bs ≡ Some p → Stands escaped bs p) → (t : Bool) → (b == 92) ≡ t → (b == 34) ≡ false → (b == 10) ≡ false
        → joined (cond t [] (b ∷ [])) (quoted_at t bs) ≡ Some p → Stands false (b ∷ bs) p
    by_backslash more true e y z h =
        let (q, found, same) = joined_found [] (quoted_at true bs) p h in
        subst (Stands false (b ∷ bs)) same (a_backslash b bs q e (more true q found))
    by_backslash more false e y z h =
        let (q, found, same) = joined_found (b ∷ []) (quoted_at false bs) p h in
        subst (Stands false (b ∷ bs)) same (another b bs q e y z (more false q found))

    by_end : ((escaped : Bool) (p : List ℕ × ℕ) → quoted_at escaped bs ≡ Some p → Stands escaped bs p) → (t : Bool) → (b == 10) ≡ t → (b == 34) ≡ false
        → cond t None (joined (cond (b == 92) [] (b ∷ [])) (quoted_at (b == 92) bs)) ≡ Some p → Stands false (b ∷ bs) p
    by_end more true e y h = cc
    by_end more false e y h = by_backslash more (b == 92) refl y e h

    by_quote : ((escaped : Bool) (p : List ℕ × ℕ) → quoted_at escaped bs ≡ Some p → Stands escaped bs p) → (t : Bool) → (b == 34) ≡ t
        → cond t (Some ([], 1)) (cond (b == 10) None (joined (cond (b == 92) [] (b ∷ [])) (quoted_at (b == 92) bs))) ≡ Some p → Stands false (b ∷ bs) p
    by_quote more true e h = subst (Stands false (b ∷ bs)) (value_found ([], 1) p h) (the_quote b bs e)
    by_quote more false e h = by_end more (b == 10) refl e h

-- ## What is there is read

at_other : (b : ℕ) (bs : List ℕ) → (b == 92) ≡ false → (b == 34) ≡ false → (b == 10) ≡ false → quoted_at false (b ∷ bs) ≡ joined (b ∷ []) (quoted_at false bs)
at_other b bs x y z =
    ap (λ t. cond t (Some ([], 1)) (cond (b == 10) None (joined (cond (b == 92) [] (b ∷ [])) (quoted_at (b == 92) bs)))) y
    ∙ ap (λ t. cond t None (joined (cond (b == 92) [] (b ∷ [])) (quoted_at (b == 92) bs))) z
    ∙ ap (λ t. joined (cond t [] (b ∷ [])) (quoted_at t bs)) x

abbrev IsRead : List ℕ → List ℕ → Type 0
IsRead text rest = quoted_at false (flat_map spelled text ++ 34 ∷ rest) ≡ Some (text, length (flat_map spelled text) + 1)

special : (b c : ℕ) (text rest : List ℕ) → spelled b ≡ 92 ∷ c ∷ [] → ((bs : List ℕ) → quoted_at false (92 ∷ c ∷ bs) ≡ joined [] (joined (b ∷ []) (quoted_at false bs))) → IsRead text rest → IsRead (b ∷ text) rest
special b c text rest e step more =
    let sum : length (flat_map spelled text) + 1 + 1 + 1 ≡ length (92 ∷ c ∷ flat_map spelled text) + 1 = omega arith in
    rw e (step (flat_map spelled text ++ 34 ∷ rest) ∙ ap (λ o. joined [] (joined (b ∷ []) o)) more ∙ ap (λ n. Some (b ∷ text, n)) sum)

plain : (b : ℕ) (text rest : List ℕ) → (b == 92) ≡ false → (b == 34) ≡ false → (b == 10) ≡ false → IsRead text rest → IsRead (b ∷ text) rest
plain b text rest x y z more =
    let sum : length (flat_map spelled text) + 1 + 1 ≡ length (b ∷ flat_map spelled text) + 1 = omega arith in
    rw (spelled_other b x y z) (at_other b (flat_map spelled text ++ 34 ∷ rest) x y z ∙ ap (joined (b ∷ [])) more ∙ ap (λ n. Some (b ∷ text, n)) sum)

pub quoted_told : (text rest : List ℕ) → quoted_at false (flat_map spelled text ++ 34 ∷ rest) ≡ Some (text, length (flat_map spelled text) + 1)
quoted_told [] rest = refl
quoted_told (b ∷ text) rest = by_backslash (quoted_told text rest) (b == 92) refl
  where
    by_end : IsRead text rest → (t : Bool) → (b == 10) ≡ t → (b == 92) ≡ false → (b == 34) ≡ false → IsRead (b ∷ text) rest
    by_end more true e x y = subst (λ b. IsRead (b ∷ text) rest) (sym (eqb-true b 10 e)) (special 10 110 text rest refl (λ bs. refl) more)
    by_end more false e x y = plain b text rest x y e more

    by_quote : IsRead text rest → (t : Bool) → (b == 34) ≡ t → (b == 92) ≡ false → IsRead (b ∷ text) rest
    by_quote more true e x = subst (λ b. IsRead (b ∷ text) rest) (sym (eqb-true b 34 e)) (special 34 34 text rest refl (λ bs. refl) more)
    by_quote more false e x = by_end more (b == 10) refl x e

    by_backslash : IsRead text rest → (t : Bool) → (b == 92) ≡ t → IsRead (b ∷ text) rest
    by_backslash more true e = subst (λ b. IsRead (b ∷ text) rest) (sym (eqb-true b 92 e)) (special 92 92 text rest refl (λ bs. refl) more)
    by_backslash more false e = by_quote more (b == 34) refl e

-- ## Texts

-- one byte in place of a backslash and a byte
unescaped : (c d : ℕ) → c < 128 → d < 128 → (before more : List ℕ) → IsUtf8 (before ++ 92 ∷ d ∷ more) → IsUtf8 (before ++ c ∷ more)
unescaped c d small ascii before more text =
    let outer = around_ascii before 92 (d ∷ more) (omega arith) text in
    let inner = around_ascii [] d more ascii outer.1 in
    IsUtf8-append before (c ∷ more) outer.0 (IsUtf8-append (c ∷ []) more (IsUtf8-from_ascii (c ∷ []) (IsAscii-cons c [] small IsAscii-nil)) inner.1)

-- a text whose bytes were spelled is one
pub unspelled : (text before : List ℕ) → IsUtf8 (before ++ flat_map spelled text) → IsUtf8 (before ++ text)
unspelled [] before utf8 = utf8
unspelled (b ∷ text) before utf8 = by_backslash (unspelled text) (b == 92) refl
  where
    one : ((before : List ℕ) → IsUtf8 (before ++ flat_map spelled text) → IsUtf8 (before ++ text)) → (c : ℕ) → IsUtf8 (before ++ c ∷ flat_map spelled text) → IsUtf8 (before ++ c ∷ text)
    one more c whole =
        subst IsUtf8 (append_assoc before (c ∷ []) text) (more (before ++ c ∷ []) (subst IsUtf8 (sym (append_assoc before (c ∷ []) (flat_map spelled text))) whole))

    escape : ((before : List ℕ) → IsUtf8 (before ++ flat_map spelled text) → IsUtf8 (before ++ text)) → (c d : ℕ) → c < 128 → d < 128 → spelled b ≡ 92 ∷ d ∷ [] → b ≡ c → IsUtf8 (before ++ b ∷ text)
    escape more c d small ascii e same =
        let whole : IsUtf8 (before ++ 92 ∷ d ∷ flat_map spelled text) = subst (λ ds. IsUtf8 (before ++ (ds ++ flat_map spelled text))) e utf8 in
        subst (λ b. IsUtf8 (before ++ b ∷ text)) (sym same) (one more c (unescaped c d small ascii before (flat_map spelled text) whole))

    by_end : ((before : List ℕ) → IsUtf8 (before ++ flat_map spelled text) → IsUtf8 (before ++ text)) → (t : Bool) → (b == 10) ≡ t → (b == 92) ≡ false → (b == 34) ≡ false → IsUtf8 (before ++ b ∷ text)
    by_end more true e x y = let same = eqb-true b 10 e in escape more 10 110 (omega arith) (omega arith) (ap spelled same) same
    by_end more false e x y = one more b (subst (λ ds. IsUtf8 (before ++ (ds ++ flat_map spelled text))) (spelled_other b x y e) utf8)

    by_quote : ((before : List ℕ) → IsUtf8 (before ++ flat_map spelled text) → IsUtf8 (before ++ text)) → (t : Bool) → (b == 34) ≡ t → (b == 92) ≡ false → IsUtf8 (before ++ b ∷ text)
    by_quote more true e x = let same = eqb-true b 34 e in escape more 34 34 (omega arith) (omega arith) (ap spelled same) same
    by_quote more false e x = by_end more (b == 10) refl x e

    by_backslash : ((before : List ℕ) → IsUtf8 (before ++ flat_map spelled text) → IsUtf8 (before ++ text)) → (t : Bool) → (b == 92) ≡ t → IsUtf8 (before ++ b ∷ text)
    by_backslash more true e = let same = eqb-true b 92 e in escape more 92 92 (omega arith) (omega arith) (ap spelled same) same
    by_backslash more false e = by_quote more (b == 34) refl e

-- what is read in quotes in a text is one
pub quoted_text : (bs : List ℕ) (p : List ℕ × ℕ) → IsUtf8 bs → quoted_at false bs ≡ Some p → IsUtf8 p.0
quoted_text bs p utf8 h =
    let found = quoted_sound bs false p h in
    let whole : IsUtf8 (flat_map spelled p.0 ++ 34 ∷ drop p.1 bs) = subst IsUtf8 (sym found.text_is) utf8 in
    unspelled p.0 [] (around_ascii (flat_map spelled p.0) 34 (drop p.1 bs) (omega arith) whole).0
