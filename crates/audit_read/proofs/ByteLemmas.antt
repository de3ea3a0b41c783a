-- Classes of bytes and runs of bytes, at places.
use Rattle.std.proofs.Common.{◌≡◌, ℕ, ◌<◌, ◌+◌, List, length, drop, get_or, Bool, true, false, cond, refl, ap, ◌∙◌, arith}
use Rattle.std.specs.Prelude.{◌==◌, Some, None}
use Rattle.std.specs.List.{prefix_len}
use Rattle.std.proofs.lemmas.Bool.{eqb-true}
use Rattle.std.proofs.lemmas.List.{drop_more}
use Rattle.audit_read.specs.Bytes.{class_of}
use Rattle.audit_read.specs.declared.bytes.Class.{Class}
use Rattle.audit_read.specs.declared.bytes.Class.TheVariants as class
use Rattle.read_laws.specs.TokenReader.{Found, part_at, word_at, digits_at, text_part, name_part, quoted_at, mark_at}
use Rattle.sql_tree.specs.Bytes.{is_blank, is_digit, is_letter}

-- ## Runs

module _ (p : ℕ → Bool) (bs : List ℕ) (i : ℕ) (within : i < length bs) where
  front : (t : Bool) → p (get_or bs i 0) ≡ t → prefix_len p (drop i bs) ≡ cond t (1 + prefix_len p (drop (i + 1) bs)) 0
  front t e = ap (prefix_len p) (drop_more bs i 0 within) ∙ ap (λ t. cond t (1 + prefix_len p (drop (i + 1) bs)) 0) e

  pub passes_more : (n : ℕ) → n ≡ i + prefix_len p (drop i bs) → p (get_or bs i 0) ≡ true → n ≡ (i + 1) + prefix_len p (drop (i + 1) bs)
  passes_more n is e = let here = front true e in omega (arith, is, here)

  pub stops_here : (n : ℕ) → n ≡ i + prefix_len p (drop i bs) → p (get_or bs i 0) ≡ false → n ≡ i
  stops_here n is e = let here = front false e in omega (arith, is, here)

-- ## Parts by their class

-- the part that begins with a byte of the class
abbrev pub part_of : Class → ℕ → List ℕ → Found
part_of class.Letter b bs = word_at b bs
part_of class.Digit b bs = digits_at b bs
part_of class.Blank b bs = Some (None, 0)
part_of class.Apostrophe b bs = text_part (quoted_at 39 false bs)
part_of class.Quote b bs = name_part (quoted_at 34 false bs)
part_of class.Mark b bs = mark_at b bs

pub part_by_class : (b : ℕ) (bs : List ℕ) → part_of (class_of b) b bs ≡ part_at b bs
part_by_class b bs = go (is_letter b) (is_digit b) (is_blank b) (b == 39) (b == 34)
  where
    go : (l d k t n : Bool) → part_of (cond l class.Letter (cond d class.Digit (cond k class.Blank (cond t class.Apostrophe (cond n class.Quote class.Mark))))) b bs
        ≡ cond l (word_at b bs) (cond d (digits_at b bs) (cond k (Some (None, 0)) (cond t (text_part (quoted_at 39 false bs)) (cond n (name_part (quoted_at 34 false bs)) (mark_at b bs)))))
    go true d k t n = refl
    go false true k t n = refl
    go false false true t n = refl
    go false false false true n = refl
    go false false false false true = refl
    go false false false false false = refl

-- what is known of a byte of each class
abbrev pub IsOf : Class → ℕ → Type 0
IsOf class.Letter b = is_letter b ≡ true
IsOf class.Apostrophe b = b ≡ 39
IsOf class.Quote b = b ≡ 34
IsOf other b = Unit {0}

pub is_of_class : (b : ℕ) → IsOf (class_of b) b
is_of_class b = go (is_letter b) refl (is_digit b) (is_blank b) (b == 39) refl (b == 34) refl
  where
    go : (l : Bool) → is_letter b ≡ l → (d k t : Bool) → (b == 39) ≡ t → (n : Bool) → (b == 34) ≡ n
        → IsOf (cond l class.Letter (cond d class.Digit (cond k class.Blank (cond t class.Apostrophe (cond n class.Quote class.Mark))))) b
    go true e d k t f n g = e
    go false e true k t f n g = tt
    go false e false true t f n g = tt
    go false e false false true f n g = eqb-true b 39 f
    go false e false false false f true g = eqb-true b 34 g
    go false e false false false f false g = tt
