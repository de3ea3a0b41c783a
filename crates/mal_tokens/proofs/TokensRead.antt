-- The reader of tokens returns exactly the tokens into which a text is cut.
use Rattle.std.proofs.Common.{◌≡◌, ℕ, zero, suc, ◌+◌, List, [], ◌∷◌, ◌++◌, length, take, drop, Bool, true, false, not, ◌&&◌, cond, Option, Some, None, refl, ap, sym, ◌∙◌, subst, append_assoc, append-nil}
use Rattle.std.specs.Prelude.{◌==◌, flat_map}
use Rattle.std.specs.List.{list_all, prefix_len, AllByRecursion}
use Rattle.std.proofs.lemmas.Bool.{and_from, and_parts, eqb-true}
use Rattle.std.proofs.lemmas.List.{take-append-drop}
use Rattle.std.proofs.Math.Seq.{drop-append_seam, take-append_seam}
use Rattle.text_bytes.specs.Classes.{is_blank, is_letter, is_digit, is_word_byte, is_in_line, begins, begins_with}
use Rattle.mal_tokens.specs.Tokens.{Part, write_part, written, Fits, AllFit, token_of, with_token, tokens_of, AreTokens, mark_text, ends_mark, spelled}
use Rattle.mal_tokens.specs.Tokens.Part.{Blank, Comment, Letters, Number, Quoted, Sign}
use Rattle.mal_tokens.specs.declared.token.Mark.{Mark}
use Rattle.mal_tokens.specs.declared.token.Mark.TheVariants as mark
use Rattle.mal_tokens.specs.declared.token.MalToken.{MalToken}
use Rattle.mal_tokens.specs.declared.token.MalToken.TheVariants as token
use Rattle.mal_tokens.specs.declared.token.TheConstants.{MARKS}
use Rattle.mal_tokens.specs.Bytes.{Found, part_at, mark_at, digits_at, word_at, quoted_at, text_part, mark_part, mark_of, first_mark, tokens_after, listed}
use Rattle.text_bytes.specs.Found.{then_read}
use Rattle.text_bytes.proofs.ByteLemmas.{digit_no_letter, blank_cases, front_passes, front_stops, front_again, not_holds, behind_one}
use Rattle.text_bytes.proofs.FoundLemmas.{then_found, value_found, at_first, at_second, ReadAt}
use Rattle.mal_tokens.proofs.QuotedLemmas.{quoted_sound, quoted_told}

-- ## Marks

-- what holds of each entry with the byte holds of the mark that is found
first_found : (entries : List (ℕ × Mark)) (b : ℕ) (P : Mark → Type 0) → AllByRecursion (λ entry. (b == entry.0) ≡ true → P entry.1) entries → (m : Mark) → first_mark b entries ≡ Some m → P m
first_found [] b P all m h = cc
first_found (entry ∷ entries) b P all m h = by_test (first_found entries b P all.1 m) (b == entry.0) refl h
  where
    by_test : (first_mark b entries ≡ Some m → P m) → (t : Bool) → (b == entry.0) ≡ t → cond t (Some entry.1) (first_mark b entries) ≡ Some m → P m
    by_test more true e h = let same : entry.1 ≡ m = cc in subst P same (all.0 e)
    by_test more false e h = more h

byte_is : (b n : ℕ) → (b == n) ≡ true → n ∷ [] ≡ b ∷ []
byte_is b n h = ap (λ c. c ∷ []) (sym (eqb-true b n h))

mark_sound : (b : ℕ) (m : Mark) → mark_of b ≡ Some m → mark_text m ≡ b ∷ []
unfolding mark_of
mark_sound b m h =
    first_found MARKS b (λ m. mark_text m ≡ b ∷ [])
    (byte_is b 40, (byte_is b 41, (byte_is b 44, (byte_is b 45, (byte_is b 46, (byte_is b 58, (byte_is b 59, (byte_is b 64, tt))))))))
    m h

-- ## What is read is a cut

-- the part that is read fits, and has the token
record IsPart (b : ℕ) (bs : List ℕ) (found : Option MalToken × ℕ) : Type 0 where
  part : Part
  written_is : write_part part (drop found.1 bs) ≡ b ∷ bs
  fits : Fits part (drop found.1 bs)
  token_is : token_of part ≡ found.0

-- what is found at the front is a part
abbrev FoundPart : ℕ → List ℕ → Found → Type 0
FoundPart b bs None = Unit {0}
FoundPart b bs (Some found) = IsPart b bs found

-- a mark before what it makes no other mark with
mark_ends : (b : ℕ) (bs : List ℕ) (m : Mark) → mark_text m ≡ b ∷ [] → ((b == 58) && begins_with 61 bs) ≡ false → ends_mark m bs ≡ true
mark_ends b bs mark.Colon text none =
    let same : 58 ≡ b = cc in
    ap not (ap (λ t. t && begins_with 61 bs) (colon b same) ∙ none)
  where
    colon : (b : ℕ) → 58 ≡ b → true ≡ (b == 58)
    colon b same = subst (λ b. true ≡ (b == 58)) same refl
mark_ends b bs mark.Open text none = refl
mark_ends b bs mark.Close text none = refl
mark_ends b bs mark.Comma text none = refl
mark_ends b bs mark.Minus text none = refl
mark_ends b bs mark.Dot text none = refl
mark_ends b bs mark.Semicolon text none = refl
mark_ends b bs mark.At text none = refl
mark_ends b bs mark.Assign text none = refl

assign_found : (b : ℕ) (bs : List ℕ) → ((b == 58) && begins_with 61 bs) ≡ true → IsPart b bs (Some (token.Mark mark.Assign), 1)
assign_found b [] h = let parts = and_parts (b == 58) false h in let no : false ≡ true = parts.1 in cc
assign_found b (c ∷ bs) h =
    let parts = and_parts (b == 58) (c == 61) h in
    record {
      part = Sign mark.Assign;
      written_is = ap (λ x. x ∷ 61 ∷ bs) (sym (eqb-true b 58 parts.0)) ∙ ap (λ x. b ∷ x ∷ bs) (sym (eqb-true c 61 parts.1));
      fits = refl;
      token_is = refl;
    }

module _ (b : ℕ) (bs : List ℕ) where
  word_part : is_letter b ≡ true → FoundPart b bs (word_at b bs)
  word_part h =
      let n = prefix_len is_word_byte bs in
      record {
        part = Letters b (take n bs);
        written_is = ap (λ cs. b ∷ cs) (take-append-drop n bs);
        fits = and_from _ _ (and_from _ _ h (front_passes is_word_byte bs)) (ap not (front_stops is_word_byte bs));
        token_is = refl;
      }

  digits_part : is_digit b ≡ true → FoundPart b bs (digits_at b bs)
  digits_part h =
      let n = prefix_len is_digit bs in
      record {
        part = Number b (take n bs);
        written_is = ap (λ cs. b ∷ cs) (take-append-drop n bs);
        fits = and_from _ _ (and_from _ _ h (front_passes is_digit bs)) (ap not (front_stops is_digit bs));
        token_is = refl;
      }

  quoted_part : (b == 34) ≡ true → FoundPart b bs (text_part (quoted_at false bs))
  quoted_part h = by_found (quoted_at false bs) refl
    where
      by_found : (o : Option (List ℕ × ℕ)) → quoted_at false bs ≡ o → FoundPart b bs (text_part o)
      by_found None e = tt
      by_found (Some p) e =
          let found = quoted_sound bs false p e in
          record {
            part = Quoted p.0;
            written_is = ap (λ cs. 34 ∷ cs) found.text_is ∙ ap (λ c. c ∷ bs) (sym (eqb-true b 34 h));
            fits = tt;
            token_is = refl;
          }

  comment_part : (b == 35) ≡ true → FoundPart b bs (Some (None, prefix_len is_in_line bs))
  comment_part h =
      let n = prefix_len is_in_line bs in
      record {
        part = Comment (take n bs);
        written_is = ap (λ cs. 35 ∷ cs) (take-append-drop n bs) ∙ ap (λ c. c ∷ bs) (sym (eqb-true b 35 h));
        fits = and_from _ _ (front_passes is_in_line bs) (ap not (front_stops is_in_line bs));
        token_is = refl;
      }

  single_part : (o : Option Mark) → mark_of b ≡ o → ((b == 58) && begins_with 61 bs) ≡ false → FoundPart b bs (mark_part o)
  single_part None e none = tt
  single_part (Some m) e none =
      let text = mark_sound b m e in
      record {
        part = Sign m;
        written_is = ap (λ cs. cs ++ bs) text;
        fits = mark_ends b bs m text none;
        token_is = refl;
      }

  at_pair : (t : Bool) → ((b == 58) && begins_with 61 bs) ≡ t → FoundPart b bs (cond t (Some (Some (token.Mark mark.Assign), 1)) (mark_part (mark_of b)))
  at_pair true e = assign_found b bs e
  at_pair false e = single_part (mark_of b) refl e

  at_comment : (t : Bool) → (b == 35) ≡ t → FoundPart b bs (cond t (Some (None, prefix_len is_in_line bs)) (cond ((b == 58) && begins_with 61 bs) (Some (Some (token.Mark mark.Assign), 1)) (mark_part (mark_of b))))
  at_comment true e = comment_part e
  at_comment false e = at_pair ((b == 58) && begins_with 61 bs) refl

  at_text : (t : Bool) → (b == 34) ≡ t → FoundPart b bs (cond t (text_part (quoted_at false bs)) (mark_at b bs))
  at_text true e = quoted_part e
  at_text false e = at_comment (b == 35) refl

  abbrev no_blank : Found
  no_blank = cond (b == 34) (text_part (quoted_at false bs)) (mark_at b bs)

  at_blank : (t : Bool) → is_blank b ≡ t → FoundPart b bs (cond t (Some (None, 0)) no_blank)
  at_blank true e = record { part = Blank b; written_is = refl; fits = e; token_is = refl }
  at_blank false e = at_text (b == 34) refl

  abbrev no_digits : Found
  no_digits = cond (is_blank b) (Some (None, 0)) no_blank

  at_digit : (t : Bool) → is_digit b ≡ t → FoundPart b bs (cond t (digits_at b bs) no_digits)
  at_digit true e = digits_part e
  at_digit false e = at_blank (is_blank b) refl

  abbrev no_letter : Found
  no_letter = cond (is_digit b) (digits_at b bs) no_digits

  at_letter : (t : Bool) → is_letter b ≡ t → FoundPart b bs (cond t (word_at b bs) no_letter)
  at_letter true e = word_part e
  at_letter false e = at_digit (is_digit b) refl

  part_sound : (found : Option MalToken × ℕ) → part_at b bs ≡ Some found → IsPart b bs found
  part_sound found e = subst (FoundPart b bs) e (at_letter (is_letter b) refl)

-- the tokens that are read are those of a cut
cut_sound : (bs : List ℕ) (skip : ℕ) (ts : List MalToken) → tokens_after skip bs ≡ Some ts → AreTokens (drop skip bs) ts
cut_sound [] zero ts h = record { parts = []; text_is = refl; fit = tt; tokens_are = value_found [] ts h }
cut_sound [] (suc skip) ts h = record { parts = []; text_is = refl; fit = tt; tokens_are = value_found [] ts h }
cut_sound (b ∷ bs) (suc skip) ts h = cut_sound bs skip ts h
cut_sound (b ∷ bs) zero ts h =
    let (p, found, then) = then_found (part_at b bs) (λ part. then_read (tokens_after part.1 bs) (λ more. Some (with_token part.0 more))) ts h in
    let (more, told, last) = then_found (tokens_after p.1 bs) (λ more. Some (with_token p.0 more)) ts then in
    let front = part_sound b bs p found in
    let rest = cut_sound bs p.1 more told in
    record {
      parts = front.part ∷ rest.parts;
      text_is = ap (write_part front.part) rest.text_is ∙ front.written_is;
      fit = (subst (Fits front.part) (sym rest.text_is) front.fits, rest.fit);
      tokens_are =
          ap (λ t. with_token t (tokens_of rest.parts)) front.token_is
          ∙ ap (with_token p.0) rest.tokens_are
          ∙ value_found (with_token p.0 more) ts last;
    }

pub tokens_sound : (text : List ℕ) (ts : List MalToken) → tokens_after 0 text ≡ Some ts → AreTokens text ts
tokens_sound text ts h = cut_sound text 0 ts h

-- ## A cut is read

-- a skip is a cut
pub skip_drop : (skip : ℕ) (bs : List ℕ) → tokens_after skip bs ≡ tokens_after 0 (drop skip bs)
skip_drop zero bs = refl
skip_drop (suc skip) [] = refl
skip_drop (suc skip) (b ∷ bs) = skip_drop skip bs

-- a part is read where it is written
abbrev IsRead : Part → List ℕ → Type 0
IsRead part rest = ReadAt part_at (write_part part rest) (token_of part) rest

blank_read : (b : ℕ) (rest : List ℕ) → is_blank b ≡ true → IsRead (Blank b) rest
blank_read b rest h = record {
  first = b;
  after = rest;
  size = 0;
  written_is = refl;
  told = blank_cases (λ b. part_at b rest ≡ Some (None, 0)) refl refl refl refl b h;
  rest_is = refl;
}

word_read : (b : ℕ) (bs rest : List ℕ) → Fits (Letters b bs) rest → IsRead (Letters b bs) rest
word_read b bs rest fits =
    let ends = and_parts (is_letter b && list_all is_word_byte bs) (not (begins is_word_byte rest)) fits in
    let front = and_parts (is_letter b) (list_all is_word_byte bs) ends.0 in
    let size : prefix_len is_word_byte (bs ++ rest) ≡ length bs = front_again is_word_byte bs rest front.1 (not_holds (begins is_word_byte rest) ends.1) in
    record {
      first = b;
      after = bs ++ rest;
      size = length bs;
      written_is = refl;
      told =
          at_first (is_letter b) (word_at b (bs ++ rest)) (no_letter b (bs ++ rest)) front.0
          ∙ ap (λ n. Some (Some (token.Name (b ∷ take n (bs ++ rest))), n)) size
          ∙ ap (λ cs. Some (Some (token.Name (b ∷ cs)), length bs)) (take-append_seam bs rest);
      rest_is = drop-append_seam bs rest;
    }

digits_read : (b : ℕ) (bs rest : List ℕ) → Fits (Number b bs) rest → IsRead (Number b bs) rest
digits_read b bs rest fits =
    let ends = and_parts (is_digit b && list_all is_digit bs) (not (begins is_digit rest)) fits in
    let front = and_parts (is_digit b) (list_all is_digit bs) ends.0 in
    let size : prefix_len is_digit (bs ++ rest) ≡ length bs = front_again is_digit bs rest front.1 (not_holds (begins is_digit rest) ends.1) in
    record {
      first = b;
      after = bs ++ rest;
      size = length bs;
      written_is = refl;
      told =
          at_second (is_letter b) (word_at b (bs ++ rest)) (no_letter b (bs ++ rest)) (digit_no_letter b front.0)
          ∙ at_first (is_digit b) (digits_at b (bs ++ rest)) (no_digits b (bs ++ rest)) front.0
          ∙ ap (λ n. Some (Some (token.Digits (b ∷ take n (bs ++ rest))), n)) size
          ∙ ap (λ cs. Some (Some (token.Digits (b ∷ cs)), length bs)) (take-append_seam bs rest);
      rest_is = drop-append_seam bs rest;
    }

comment_read : (bs rest : List ℕ) → Fits (Comment bs) rest → IsRead (Comment bs) rest
comment_read bs rest fits =
    let ends = and_parts (list_all is_in_line bs) (not (begins is_in_line rest)) fits in
    let size : prefix_len is_in_line (bs ++ rest) ≡ length bs = front_again is_in_line bs rest ends.0 (not_holds (begins is_in_line rest) ends.1) in
    record {
      first = 35;
      after = bs ++ rest;
      size = length bs;
      written_is = refl;
      told = ap (λ n. Some (None, n)) size;
      rest_is = drop-append_seam bs rest;
    }

text_read : (bs rest : List ℕ) → IsRead (Quoted bs) rest
text_read bs rest = record {
  first = 34;
  after = flat_map spelled bs ++ 34 ∷ rest;
  size = length (flat_map spelled bs) + 1;
  written_is = refl;
  told = ap text_part (quoted_told bs rest);
  rest_is = behind_one (flat_map spelled bs) rest 34;
}

colon_read : (rest : List ℕ) → not (begins_with 61 rest) ≡ true → IsRead (Sign mark.Colon) rest
unfolding mark_of
colon_read [] h = record { first = 58; after = []; size = 0; written_is = refl; told = refl; rest_is = refl }
colon_read (c ∷ cs) h = record { first = 58; after = c ∷ cs; size = 0; written_is = refl; told = at_second (c == 61) (Some (Some (token.Mark mark.Assign), 1)) (Some (Some (token.Mark mark.Colon), 0)) (not_holds (c == 61) h); rest_is = refl }

mark_read : (m : Mark) (rest : List ℕ) → Fits (Sign m) rest → IsRead (Sign m) rest
unfolding mark_of
mark_read mark.Colon rest fits = colon_read rest fits
mark_read mark.Open rest fits = record { first = 40; after = rest; size = 0; written_is = refl; told = refl; rest_is = refl }
mark_read mark.Close rest fits = record { first = 41; after = rest; size = 0; written_is = refl; told = refl; rest_is = refl }
mark_read mark.Comma rest fits = record { first = 44; after = rest; size = 0; written_is = refl; told = refl; rest_is = refl }
mark_read mark.Minus rest fits = record { first = 45; after = rest; size = 0; written_is = refl; told = refl; rest_is = refl }
mark_read mark.Dot rest fits = record { first = 46; after = rest; size = 0; written_is = refl; told = refl; rest_is = refl }
mark_read mark.Semicolon rest fits = record { first = 59; after = rest; size = 0; written_is = refl; told = refl; rest_is = refl }
mark_read mark.At rest fits = record { first = 64; after = rest; size = 0; written_is = refl; told = refl; rest_is = refl }
mark_read mark.Assign rest fits = record { first = 58; after = 61 ∷ rest; size = 1; written_is = refl; told = refl; rest_is = refl }

part_read : (part : Part) (rest : List ℕ) → Fits part rest → IsRead part rest
part_read (Blank b) rest fits = blank_read b rest fits
part_read (Comment bs) rest fits = comment_read bs rest fits
part_read (Letters b bs) rest fits = word_read b bs rest fits
part_read (Number b bs) rest fits = digits_read b bs rest fits
part_read (Quoted bs) rest fits = text_read bs rest
part_read (Sign m) rest fits = mark_read m rest fits

parts_read : (parts : List Part) → AllFit parts → tokens_after 0 (written parts) ≡ Some (tokens_of parts)
parts_read [] fit = refl
parts_read (part ∷ parts) fit = step (part_read part (written parts) fit.0) (parts_read parts fit.1)
  where
    step : IsRead part (written parts) → tokens_after 0 (written parts) ≡ Some (tokens_of parts) → tokens_after 0 (write_part part (written parts)) ≡ Some (tokens_of (part ∷ parts))
    step read more =
        ap (tokens_after 0) read.written_is
        ∙ ap (λ o. then_read o (λ p. then_read (tokens_after p.1 read.after) (λ ts. Some (with_token p.0 ts)))) read.told
        ∙ ap (λ o. then_read o (λ ts. Some (with_token (token_of part) ts))) (skip_drop read.size read.after ∙ ap (tokens_after 0) read.rest_is ∙ more)

-- the tokens of a cut are those that are read
pub tokens_complete : (text : List ℕ) (ts : List MalToken) → AreTokens text ts → tokens_after 0 text ≡ Some ts
tokens_complete text ts cut = ap (tokens_after 0) (sym cut.text_is) ∙ parts_read cut.parts cut.fit ∙ ap Some cut.tokens_are

pub no_tokens : (text : List ℕ) → tokens_after 0 text ≡ None → (ts : List MalToken) → AreTokens text ts → ⊥
no_tokens text none ts cut = let both : None ≡ Some ts = sym none ∙ tokens_complete text ts cut in cc

-- a text has one list of tokens at most
pub one_list_of : (text : List ℕ) (a b : List MalToken) → AreTokens text a → AreTokens text b → a ≡ b
one_list_of text a b one other = value_found a b (sym (tokens_complete text a one) ∙ tokens_complete text b other)

-- ## The loop over the parts

-- the tokens of the rest follow the tokens so far
abbrev pub Continues : Option (List MalToken) → List MalToken → List ℕ → Type 0
Continues whole tokens rest = whole ≡ then_read (tokens_after 0 rest) (λ more. Some (tokens ++ more))

pub tokens_start : (bs : List ℕ) → Continues (tokens_after 0 bs) [] bs
tokens_start bs = elim (tokens_after 0 bs) as (λ o. o ≡ then_read o (λ more. Some ([] ++ more))) [ None ↦ refl | Some ts ↦ refl ]

pub tokens_end : (whole : Option (List MalToken)) (tokens : List MalToken) → Continues whole tokens [] → whole ≡ Some tokens
tokens_end whole tokens told = told ∙ ap Some (append-nil tokens)

module _ (whole : Option (List MalToken)) (tokens : List MalToken) (b : ℕ) (bs : List ℕ) (told : Continues whole tokens (b ∷ bs)) where
  pub tokens_step : (new : List MalToken) (n : ℕ) (t : Option MalToken) → part_at b bs ≡ Some (t, n) → new ≡ tokens ++ listed t → Continues whole new (drop n bs)
  tokens_step new n t part added =
      told
      ∙ ap (λ o. then_read (then_read o (λ part. then_read (tokens_after part.1 bs) (λ more. Some (with_token part.0 more)))) (λ more. Some (tokens ++ more))) part
      ∙ inner (tokens_after n bs)
      ∙ ap (λ o. then_read o (λ more. Some (new ++ more))) (skip_drop n bs)
    where
      joined : (more : List MalToken) → tokens ++ with_token t more ≡ new ++ more
      joined more = elim t as (λ t. new ≡ tokens ++ listed t → tokens ++ with_token t more ≡ new ++ more) [
        | None ↦ λ e. sym (ap (λ ts. ts ++ more) (e ∙ append-nil tokens))
        | Some t ↦ λ e. sym (ap (λ ts. ts ++ more) e ∙ append_assoc tokens _ more)
      ] added

      inner : (o : Option (List MalToken)) → then_read (then_read o (λ more. Some (with_token t more))) (λ more. Some (tokens ++ more)) ≡ then_read o (λ more. Some (new ++ more))
      inner None = refl
      inner (Some more) = ap Some (joined more)

  pub tokens_stop : part_at b bs ≡ None → whole ≡ None
  tokens_stop part =
      told ∙ ap (λ o. then_read (then_read o (λ part. then_read (tokens_after part.1 bs) (λ more. Some (with_token part.0 more)))) (λ more. Some (tokens ++ more))) part
