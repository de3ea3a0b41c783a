-- The text between marks, each mark in it doubled.
use Rattle.std.proofs.Common.{◌≡◌, ℕ, suc, ◌<◌, ◌+◌, List, [], ◌∷◌, ◌++◌, length, drop, Bool, true, false, not, cond, Some, refl, ap, sym, ◌∙◌, arith, subst, append_assoc}
use Rattle.std.specs.Prelude.{◌==◌, flat_map}
use Rattle.std.specs.Str.{IsUtf8}
use Rattle.std.proofs.lemmas.Bool.{eqb-true, eq-eqb}
use Rattle.std.proofs.lemmas.Str.{IsUtf8-append, IsUtf8-from_ascii}
use Rattle.std.proofs.lemmas.Str.Ascii.{IsAscii-nil, IsAscii-cons}
use Rattle.sql_tree.specs.Bytes.{begins_with, doubled}
use Rattle.read_laws.specs.TokenReader.{quoted_at}
use Rattle.text_bytes.specs.Found.{joined}
use Rattle.text_bytes.proofs.FoundLemmas.{value_found, joined_found}
use Rattle.text_bytes.proofs.TextLemmas.{around_ascii}

doubled_mark : (mark : ℕ) → doubled mark mark ≡ mark ∷ mark ∷ []
doubled_mark mark = ap (λ t. cond t (mark ∷ mark ∷ []) (mark ∷ [])) (eq-eqb mark mark refl)

doubled_other : (mark b : ℕ) → (b == mark) ≡ false → doubled mark b ≡ b ∷ []
doubled_other mark b h = ap (λ t. cond t (mark ∷ mark ∷ []) (b ∷ [])) h

-- ## What is read is there

-- the text and its closing mark are at the front; after a mark without its pair, that mark is part of it
pub record Quoted (mark : ℕ) (closing : Bool) (bs text : List ℕ) (n : ℕ) : Type 0 where
  pub text_is : flat_map (doubled mark) text ++ mark ∷ drop n bs ≡ cond closing (mark ∷ bs) bs
  pub ends : begins_with mark (drop n bs) ≡ false

add_one : (n : ℕ) → n + 1 ≡ suc n
add_one n = omega arith

module _ (mark : ℕ) where
  abbrev IsQuoted : Bool → List ℕ → List ℕ × ℕ → Type 0
  IsQuoted closing bs p = Quoted mark closing bs p.0 p.1

  -- a doubled mark, a mark that may close, and another byte
  two_marks : (b : ℕ) (bs : List ℕ) (q : List ℕ × ℕ) → (b == mark) ≡ true → IsQuoted false bs q → IsQuoted true (b ∷ bs) (mark ∷ q.0, q.1 + 1)
  two_marks b bs q e found =
      let same : b ≡ mark = eqb-true b mark e in
      record {
        text_is = rw (doubled_mark mark, add_one q.1) (ap (λ cs. mark ∷ mark ∷ cs) found.text_is ∙ ap (λ c. mark ∷ c ∷ bs) (sym same));
        ends = rw (add_one q.1) found.ends;
      }

  a_mark : (b : ℕ) (bs : List ℕ) (q : List ℕ × ℕ) → (b == mark) ≡ true → IsQuoted true bs q → IsQuoted false (b ∷ bs) (q.0, q.1 + 1)
  a_mark b bs q e found =
      let same : b ≡ mark = eqb-true b mark e in
      record {
        text_is = rw (add_one q.1) (found.text_is ∙ ap (λ c. c ∷ bs) (sym same));
        ends = rw (add_one q.1) found.ends;
      }

  another : (b : ℕ) (bs : List ℕ) (q : List ℕ × ℕ) → (b == mark) ≡ false → IsQuoted false bs q → IsQuoted false (b ∷ bs) (b ∷ q.0, q.1 + 1)
  another b bs q e found = record {
    text_is = rw (doubled_other mark b e, add_one q.1) (ap (λ cs. b ∷ cs) found.text_is);
    ends = rw (add_one q.1) found.ends;
  }

  pub quoted_sound : (bs : List ℕ) (closing : Bool) (p : List ℕ × ℕ) → quoted_at mark closing bs ≡ Some p → Quoted mark closing bs p.0 p.1
  quoted_sound [] true p h = subst (IsQuoted true []) (value_found ([], 0) p h) (record { text_is = refl; ends = refl })
  quoted_sound [] false p h = cc
  quoted_sound (b ∷ bs) true p h = by_mark (quoted_sound bs) (b == mark) refl h
    where
      by_mark : ((closing : Bool) (p : List ℕ × ℕ) → quoted_at mark closing bs ≡ Some p → IsQuoted closing bs p) → (t : Bool) → (b == mark) ≡ t
          → cond (not t) (Some ([], 0)) (joined (cond t (mark ∷ []) (b ∷ [])) (quoted_at mark (cond t false false) bs)) ≡ Some p → IsQuoted true (b ∷ bs) p
      by_mark more true e h =
          let (q, found, same) = joined_found (mark ∷ []) (quoted_at mark false bs) p h in
          subst (IsQuoted true (b ∷ bs)) same (two_marks b bs q e (more false q found))
      by_mark more false e h = subst (IsQuoted true (b ∷ bs)) (value_found ([], 0) p h) (record { text_is = refl; ends = e })
  quoted_sound (b ∷ bs) false p h = by_mark (quoted_sound bs) (b == mark) refl h
    where
      by_mark : ((closing : Bool) (p : List ℕ × ℕ) → quoted_at mark closing bs ≡ Some p → IsQuoted closing bs p) → (t : Bool) → (b == mark) ≡ t
          → joined (cond t [] (b ∷ [])) (quoted_at mark (cond t true false) bs) ≡ Some p → IsQuoted false (b ∷ bs) p
      by_mark more true e h =
          let (q, found, same) = joined_found [] (quoted_at mark true bs) p h in
          subst (IsQuoted false (b ∷ bs)) same (a_mark b bs q e (more true q found))
      by_mark more false e h =
          let (q, found, same) = joined_found (b ∷ []) (quoted_at mark false bs) p h in
          subst (IsQuoted false (b ∷ bs)) same (another b bs q e (more false q found))

  -- ## What is there is read

  -- the closing mark is followed by no other
  closed : (rest : List ℕ) → begins_with mark rest ≡ false → quoted_at mark true rest ≡ Some ([], 0)
  closed [] h = refl
  closed (b ∷ rest) h = ap (λ t. cond (not t) (Some ([], 0)) (joined (cond t (mark ∷ []) (b ∷ [])) (quoted_at mark (cond t false false) rest))) h

  at_mark : (closing : Bool) (bs : List ℕ) → quoted_at mark closing (mark ∷ bs) ≡ joined (cond closing (mark ∷ []) []) (quoted_at mark (not closing) bs)
  at_mark true bs = ap (λ t. cond (not t) (Some ([], 0)) (joined (cond t (mark ∷ []) (mark ∷ [])) (quoted_at mark (cond t false false) bs))) (eq-eqb mark mark refl)
  at_mark false bs = ap (λ t. joined (cond t [] (mark ∷ [])) (quoted_at mark (cond t true false) bs)) (eq-eqb mark mark refl)

  at_other : (b : ℕ) (bs : List ℕ) → (b == mark) ≡ false → quoted_at mark false (b ∷ bs) ≡ joined (b ∷ []) (quoted_at mark false bs)
  at_other b bs h = ap (λ t. joined (cond t [] (b ∷ [])) (quoted_at mark (cond t true false) bs)) h

  pub quoted_told : (text rest : List ℕ) → begins_with mark rest ≡ false → quoted_at mark false (flat_map (doubled mark) text ++ mark ∷ rest) ≡ Some (text, length (flat_map (doubled mark) text) + 1)
  quoted_told [] rest h = at_mark false rest ∙ ap (joined []) (closed rest h)
  quoted_told (b ∷ text) rest h = by_mark (quoted_told text rest h) (b == mark) refl
    where
      by_mark : quoted_at mark false (flat_map (doubled mark) text ++ mark ∷ rest) ≡ Some (text, length (flat_map (doubled mark) text) + 1) → (t : Bool) → (b == mark) ≡ t
          → quoted_at mark false (flat_map (doubled mark) (b ∷ text) ++ mark ∷ rest) ≡ Some (b ∷ text, length (flat_map (doubled mark) (b ∷ text)) + 1)
      by_mark more true e =
          let same : b ≡ mark = eqb-true b mark e in
          let sum : length (flat_map (doubled mark) text) + 1 + 1 + 1 ≡ length (mark ∷ mark ∷ flat_map (doubled mark) text) + 1 = omega arith in
          let rest_of : List ℕ = flat_map (doubled mark) text ++ mark ∷ rest in
          rw same (rw (doubled_mark mark) (at_mark false (mark ∷ rest_of) ∙ ap (joined []) (at_mark true rest_of ∙ ap (joined (mark ∷ [])) more) ∙ ap (λ n. Some (mark ∷ text, n)) sum))
      by_mark more false e =
          let sum : length (flat_map (doubled mark) text) + 1 + 1 ≡ length (b ∷ flat_map (doubled mark) text) + 1 = omega arith in
          rw (doubled_other mark b e) (at_other b (flat_map (doubled mark) text ++ mark ∷ rest) e ∙ ap (joined (b ∷ [])) more ∙ ap (λ n. Some (b ∷ text, n)) sum)

-- ## Texts

-- a byte moves in front
moved : (before : List ℕ) (b : ℕ) (bs : List ℕ) → IsUtf8 (before ++ b ∷ bs) → IsUtf8 ((before ++ b ∷ []) ++ bs)
moved before b bs text = subst IsUtf8 (sym (append_assoc before (b ∷ []) bs)) text

module _ (mark : ℕ) (ascii : mark < 128) where
  one_mark : IsUtf8 (mark ∷ [])
  one_mark = IsUtf8-from_ascii (mark ∷ []) (IsAscii-cons mark [] ascii IsAscii-nil)

  -- a text in which the marks were doubled is one
  pub undoubled : (text before : List ℕ) → IsUtf8 (before ++ flat_map (doubled mark) text) → IsUtf8 (before ++ text)
  undoubled [] before utf8 = utf8
  undoubled (b ∷ text) before utf8 = by_mark (undoubled text) (b == mark) refl
    where
      by_mark : ((before : List ℕ) → IsUtf8 (before ++ flat_map (doubled mark) text) → IsUtf8 (before ++ text)) → (t : Bool) → (b == mark) ≡ t → IsUtf8 (before ++ b ∷ text)
      by_mark more true e =
          let same : b ≡ mark = eqb-true b mark e in
          let whole : IsUtf8 (before ++ mark ∷ mark ∷ flat_map (doubled mark) text) = subst (λ ds. IsUtf8 (before ++ (ds ++ flat_map (doubled mark) text))) (ap (doubled mark) same ∙ doubled_mark mark) utf8 in
          let parts = around_ascii before mark (mark ∷ flat_map (doubled mark) text) ascii whole in
          let once = IsUtf8-append before (mark ∷ flat_map (doubled mark) text) parts.0 parts.1 in
          rw same (subst IsUtf8 (append_assoc before (mark ∷ []) text) (more (before ++ mark ∷ []) (moved before mark (flat_map (doubled mark) text) once)))
      by_mark more false e =
          let whole : IsUtf8 (before ++ b ∷ flat_map (doubled mark) text) = subst (λ ds. IsUtf8 (before ++ (ds ++ flat_map (doubled mark) text))) (doubled_other mark b e) utf8 in
          subst IsUtf8 (append_assoc before (b ∷ []) text) (more (before ++ b ∷ []) (moved before b (flat_map (doubled mark) text) whole))

  -- what is read between marks in a text is one
  pub quoted_text : (bs : List ℕ) (p : List ℕ × ℕ) → IsUtf8 bs → quoted_at mark false bs ≡ Some p → IsUtf8 p.0
  quoted_text bs p utf8 h =
      let found = quoted_sound mark bs false p h in
      let whole : IsUtf8 (flat_map (doubled mark) p.0 ++ mark ∷ drop p.1 bs) = subst IsUtf8 (sym found.text_is) utf8 in
      undoubled p.0 [] (around_ascii (flat_map (doubled mark) p.0) mark (drop p.1 bs) ascii whole).0
