-- The reader of tokens returns exactly the tokens into which a text is cut.
use Rattle.std.proofs.Common.{◌≡◌, ℕ, zero, suc, ◌+◌, List, [], ◌∷◌, ◌++◌, length, take, drop, map, Bool, true, false, not, ◌&&◌, ◌||◌, cond, Option, Some, None, refl, ap, sym, ◌∙◌, arith, subst}
use Rattle.std.specs.Prelude.{◌==◌, flat_map}
use Rattle.std.specs.List.{list_all, prefix_len}
use Rattle.std.proofs.lemmas.Bool.{and_from, and_parts, eqb-true}
use Rattle.std.proofs.lemmas.List.{take-append-drop}
use Rattle.std.proofs.Math.Seq.{drop-append_seam, take-append_seam}
use Rattle.sql_tree.specs.Bytes.{is_blank, is_letter, is_digit, is_word_byte, is_in_line, low, begins, begins_with, doubled, holds_close}
use Rattle.sql_tree.specs.Tokens.{Part, write_part, written, Fits, AllFit, token_of, with_token, tokens_of, AreTokens, symbol_text, ends_symbol}
use Rattle.sql_tree.specs.Tokens.Part.{Blank, Line, Block, Letters, Number, QuotedName, QuotedText, Mark}
use Rattle.sql_tree.specs.Words.{word_token}
use Rattle.sql_tree.specs.declared.token.Placed.{Placed}
use Rattle.sql_tree.specs.declared.token.Symbol.{Symbol}
use Rattle.sql_tree.specs.declared.token.Symbol.TheVariants as symbol
use Rattle.sql_tree.specs.declared.token.Token.{Token}
use Rattle.sql_tree.specs.declared.token.Token.TheVariants as token
use Rattle.read_laws.specs.TokenReader.{Found, part_at, mark_at, digits_at, word_at, quoted_at, text_part, name_part, block_part, block_length, symbol_part, pair_at, pair_of, single_of, tokens_after}
use Rattle.read_laws.proofs.ByteLemmas.{no_digit}
use Rattle.text_bytes.specs.Found.{then_read}
use Rattle.text_bytes.proofs.ByteLemmas.{digit_no_letter, blank_cases, front_passes, front_stops, front_again, not_holds, behind_one}
use Rattle.read_laws.proofs.BlockLemmas.{block_sound, block_told}
use Rattle.text_bytes.proofs.FoundLemmas.{then_found, value_found, at_first, at_second, ReadAt}
use Rattle.read_laws.proofs.QuotedLemmas.{quoted_sound, quoted_told}
use Rattle.read_laws.proofs.SymbolLemmas.{single_sound, pair_sound, single_ends}
use Rattle.read_laws.proofs.TokenLemmas.{skip_drop}

-- ## What is read is a cut

-- the part that is read fits, and has the token
record IsPart (b : ℕ) (bs : List ℕ) (found : Option Token × ℕ) : Type 0 where
  part : Part
  written_is : write_part part (drop found.1 bs) ≡ b ∷ bs
  fits : Fits part (drop found.1 bs)
  token_is : token_of part ≡ found.0

-- what is found at the front is a part
abbrev FoundPart : ℕ → List ℕ → Found → Type 0
FoundPart b bs None = Unit {0}
FoundPart b bs (Some found) = IsPart b bs found

module _ (b : ℕ) (bs : List ℕ) where
  word_part : is_letter b ≡ true → FoundPart b bs (word_at b bs)
  word_part h =
      let n = prefix_len is_word_byte bs in
      record {
        part = Letters b (take n bs);
        written_is = ap (λ cs. b ∷ cs) (take-append-drop n bs);
        fits = and_from _ _ (and_from _ _ h (front_passes is_word_byte bs)) (ap not (front_stops is_word_byte bs));
        token_is = refl;
      }

  digits_part : is_digit b ≡ true → FoundPart b bs (digits_at b bs)
  digits_part h = by_end (begins is_word_byte (drop (prefix_len is_digit bs) bs)) refl
    where
      by_end : (t : Bool) → begins is_word_byte (drop (prefix_len is_digit bs) bs) ≡ t → FoundPart b bs (cond t None (Some (Some (token.Digits (b ∷ take (prefix_len is_digit bs) bs)), prefix_len is_digit bs)))
      by_end true e = tt
      by_end false e = record {
        part = Number b (take (prefix_len is_digit bs) bs);
        written_is = ap (λ cs. b ∷ cs) (take-append-drop (prefix_len is_digit bs) bs);
        fits = and_from _ _ (and_from _ _ h (front_passes is_digit bs)) (ap not e);
        token_is = refl;
      }

  quoted_text_part : (b == 39) ≡ true → FoundPart b bs (text_part (quoted_at 39 false bs))
  quoted_text_part h = by_found (quoted_at 39 false bs) refl
    where
      by_found : (o : Option (List ℕ × ℕ)) → quoted_at 39 false bs ≡ o → FoundPart b bs (text_part o)
      by_found None e = tt
      by_found (Some p) e =
          let found = quoted_sound 39 bs false p e in
          record {
            part = QuotedText p.0;
            written_is = ap (λ cs. 39 ∷ cs) found.text_is ∙ ap (λ c. c ∷ bs) (sym (eqb-true b 39 h));
            fits = ap not found.ends;
            token_is = refl;
          }

  quoted_name_part : (b == 34) ≡ true → FoundPart b bs (name_part (quoted_at 34 false bs))
  quoted_name_part h = by_found (quoted_at 34 false bs) refl
    where
      by_size : (p : List ℕ × ℕ) (t : Bool) → (length p.0 == 0) ≡ t → quoted_at 34 false bs ≡ Some p → FoundPart b bs (cond t None (Some (Some (token.Quoted p.0), p.1)))
      by_size p true size e = tt
      by_size p false size e =
          let found = quoted_sound 34 bs false p e in
          record {
            part = QuotedName p.0;
            written_is = ap (λ cs. 34 ∷ cs) found.text_is ∙ ap (λ c. c ∷ bs) (sym (eqb-true b 34 h));
            fits = and_from _ _ (ap not size) (ap not found.ends);
            token_is = refl;
          }

      by_found : (o : Option (List ℕ × ℕ)) → quoted_at 34 false bs ≡ o → FoundPart b bs (name_part o)
      by_found None e = tt
      by_found (Some p) e = by_size p (length p.0 == 0) refl e

  symbol_found : ((b == 45) && begins_with 45 bs) ≡ false → ((b == 47) && begins_with 42 bs) ≡ false → FoundPart b bs (symbol_part (pair_at b bs) (single_of b))
  symbol_found line block = by_pair bs (pair_at b bs) (single_of b) refl refl line block
    where
      by_pair : (bs : List ℕ) (pair single : Option Symbol) → pair_at b bs ≡ pair → single_of b ≡ single → ((b == 45) && begins_with 45 bs) ≡ false → ((b == 47) && begins_with 42 bs) ≡ false → FoundPart b bs (symbol_part pair single)
      by_pair [] (Some s) single e f line block = cc
      by_pair (c ∷ bs) (Some s) single e f line block =
          let text = pair_sound b c s e in
          record {
            part = Mark s;
            written_is = ap (λ cs. cs ++ bs) text;
            fits = ap (λ cs. ends_symbol cs bs) text;
            token_is = refl;
          }
      by_pair bs None (Some s) e f line block =
          let text = single_sound b s f in
          record {
            part = Mark s;
            written_is = ap (λ cs. cs ++ bs) text;
            fits = ap (λ cs. ends_symbol cs bs) text ∙ single_ends b bs e line block;
            token_is = refl;
          }
      by_pair bs None None e f line block = tt

line_found : (b : ℕ) (bs : List ℕ) → ((b == 45) && begins_with 45 bs) ≡ true → IsPart b bs (None, prefix_len is_in_line bs)
line_found b [] h = let parts = and_parts (b == 45) false h in let no : false ≡ true = parts.1 in cc
line_found b (c ∷ bs) h =
    let parts = and_parts (b == 45) (c == 45) h in
    let first : b ≡ 45 = eqb-true b 45 parts.0 in
    let second : c ≡ 45 = eqb-true c 45 parts.1 in
    let n = prefix_len is_in_line bs in
    let more : 1 + n ≡ suc n = omega arith in
    rw (first, second, more) (record {
      part = Line (take n bs);
      written_is = ap (λ cs. 45 ∷ 45 ∷ cs) (take-append-drop n bs);
      fits = and_from _ _ (front_passes is_in_line bs) (ap not (front_stops is_in_line bs));
      token_is = refl;
    })

block_found : (b : ℕ) (bs : List ℕ) → ((b == 47) && begins_with 42 bs) ≡ true → FoundPart b bs (block_part (block_length 0 (drop 1 bs)))
block_found b [] h = let parts = and_parts (b == 47) false h in let no : false ≡ true = parts.1 in cc
block_found b (c ∷ bs) h = by_found (block_length 0 bs) refl
  where
    by_found : (o : Option ℕ) → block_length 0 bs ≡ o → FoundPart b (c ∷ bs) (block_part o)
    by_found None e = tt
    by_found (Some n) e =
        let parts = and_parts (b == 47) (c == 42) h in
        let first : b ≡ 47 = eqb-true b 47 parts.0 in
        let second : c ≡ 42 = eqb-true c 42 parts.1 in
        let (k, sum, closes) = block_sound bs 0 n e in
        let same : n ≡ k = omega (arith, sum) in
        let more : k + 3 ≡ suc (k + 2) = omega arith in
        rw (first, second, same, more) (record {
          part = Block (take k bs);
          written_is = ap (λ cs. 47 ∷ 42 ∷ cs) closes.text_is;
          fits = ap not closes.inside;
          token_is = refl;
        })

module _ (b : ℕ) (bs : List ℕ) where
  at_block : (t : Bool) → ((b == 47) && begins_with 42 bs) ≡ t → ((b == 45) && begins_with 45 bs) ≡ false → FoundPart b bs (cond t (block_part (block_length 0 (drop 1 bs))) (symbol_part (pair_at b bs) (single_of b)))
  at_block true e line = block_found b bs e
  at_block false e line = symbol_found b bs line e

  at_line : (t : Bool) → ((b == 45) && begins_with 45 bs) ≡ t → FoundPart b bs (cond t (Some (None, prefix_len is_in_line bs)) (cond ((b == 47) && begins_with 42 bs) (block_part (block_length 0 (drop 1 bs))) (symbol_part (pair_at b bs) (single_of b))))
  at_line true e = line_found b bs e
  at_line false e = at_block ((b == 47) && begins_with 42 bs) refl e

  at_name : (t : Bool) → (b == 34) ≡ t → FoundPart b bs (cond t (name_part (quoted_at 34 false bs)) (mark_at b bs))
  at_name true e = quoted_name_part b bs e
  at_name false e = at_line ((b == 45) && begins_with 45 bs) refl

  at_text : (t : Bool) → (b == 39) ≡ t → FoundPart b bs (cond t (text_part (quoted_at 39 false bs)) (cond (b == 34) (name_part (quoted_at 34 false bs)) (mark_at b bs)))
  at_text true e = quoted_text_part b bs e
  at_text false e = at_name (b == 34) refl

  abbrev no_blank : Found
  no_blank = cond (b == 39) (text_part (quoted_at 39 false bs)) (cond (b == 34) (name_part (quoted_at 34 false bs)) (mark_at b bs))

  at_blank : (t : Bool) → is_blank b ≡ t → FoundPart b bs (cond t (Some (None, 0)) no_blank)
  at_blank true e = record { part = Blank b; written_is = refl; fits = e; token_is = refl }
  at_blank false e = at_text (b == 39) refl

  abbrev no_digits : Found
  no_digits = cond (is_blank b) (Some (None, 0)) no_blank

  at_digit : (t : Bool) → is_digit b ≡ t → FoundPart b bs (cond t (digits_at b bs) no_digits)
  at_digit true e = digits_part b bs e
  at_digit false e = at_blank (is_blank b) refl

  abbrev no_letter : Found
  no_letter = cond (is_digit b) (digits_at b bs) no_digits

  at_letter : (t : Bool) → is_letter b ≡ t → FoundPart b bs (cond t (word_at b bs) no_letter)
  at_letter true e = word_part b bs e
  at_letter false e = at_digit (is_digit b) refl

  part_sound : (found : Option Token × ℕ) → part_at b bs ≡ Some found → IsPart b bs found
  part_sound found e = subst (FoundPart b bs) e (at_letter (is_letter b) refl)

-- the tokens that are read are those of a cut
record IsCut (all : ℕ) (bs : List ℕ) (ts : List Placed) : Type 0 where
  parts : List Part
  text_is : written parts ≡ bs
  fit : AllFit parts
  tokens_are : tokens_of all parts ≡ ts

cut_sound : (all : ℕ) (bs : List ℕ) (skip : ℕ) (ts : List Placed) → tokens_after all skip bs ≡ Some ts → IsCut all (drop skip bs) ts
cut_sound all [] zero ts h = record { parts = []; text_is = refl; fit = tt; tokens_are = value_found [] ts h }
cut_sound all [] (suc skip) ts h = record { parts = []; text_is = refl; fit = tt; tokens_are = value_found [] ts h }
cut_sound all (b ∷ bs) (suc skip) ts h = cut_sound all bs skip ts h
cut_sound all (b ∷ bs) zero ts h =
    let (p, found, then) = then_found (part_at b bs) (λ part. then_read (tokens_after all part.1 bs) (λ more. Some (with_token all (length (b ∷ bs)) (length (drop part.1 bs)) part.0 more))) ts h in
    let (more, told, last) = then_found (tokens_after all p.1 bs) (λ more. Some (with_token all (length (b ∷ bs)) (length (drop p.1 bs)) p.0 more)) ts then in
    let front = part_sound b bs p found in
    let rest = cut_sound all bs p.1 more told in
    let whole : write_part front.part (written rest.parts) ≡ b ∷ bs = ap (write_part front.part) rest.text_is ∙ front.written_is in
    record {
      parts = front.part ∷ rest.parts;
      text_is = whole;
      fit = (subst (Fits front.part) (sym rest.text_is) front.fits, rest.fit);
      tokens_are =
          ap (λ w. with_token all (length w) (length (written rest.parts)) (token_of front.part) (tokens_of all rest.parts)) whole
          ∙ ap (λ w. with_token all (length (b ∷ bs)) (length w) (token_of front.part) (tokens_of all rest.parts)) rest.text_is
          ∙ ap (λ t. with_token all (length (b ∷ bs)) (length (drop p.1 bs)) t (tokens_of all rest.parts)) front.token_is
          ∙ ap (with_token all (length (b ∷ bs)) (length (drop p.1 bs)) p.0) rest.tokens_are
          ∙ value_found (with_token all (length (b ∷ bs)) (length (drop p.1 bs)) p.0 more) ts last;
    }

pub tokens_sound : (text : List ℕ) (ts : List Placed) → tokens_after (length text) 0 text ≡ Some ts → AreTokens text ts
tokens_sound text ts h =
    let cut = cut_sound (length text) text 0 ts h in
    record { parts = cut.parts; text_is = cut.text_is; fit = cut.fit; tokens_are = cut.tokens_are }

-- ## A cut is read

-- a part is read where it is written
abbrev IsRead : Part → List ℕ → Type 0
IsRead part rest = ReadAt part_at (write_part part rest) (token_of part) rest

blank_read : (b : ℕ) (rest : List ℕ) → is_blank b ≡ true → IsRead (Blank b) rest
blank_read b rest h = record {
  first = b;
  after = rest;
  size = 0;
  written_is = refl;
  told = blank_cases (λ b. part_at b rest ≡ Some (None, 0)) refl refl refl refl b h;
  rest_is = refl;
}

word_read : (b : ℕ) (bs rest : List ℕ) → Fits (Letters b bs) rest → IsRead (Letters b bs) rest
word_read b bs rest fits =
    let ends = and_parts (is_letter b && list_all is_word_byte bs) (not (begins is_word_byte rest)) fits in
    let front = and_parts (is_letter b) (list_all is_word_byte bs) ends.0 in
    let size : prefix_len is_word_byte (bs ++ rest) ≡ length bs = front_again is_word_byte bs rest front.1 (not_holds (begins is_word_byte rest) ends.1) in
    record {
      first = b;
      after = bs ++ rest;
      size = length bs;
      written_is = refl;
      told =
          at_first (is_letter b) (word_at b (bs ++ rest)) (no_letter b (bs ++ rest)) front.0
          ∙ ap (λ n. Some (Some (word_token (map low (b ∷ take n (bs ++ rest)))), n)) size
          ∙ ap (λ cs. Some (Some (word_token (map low (b ∷ cs))), length bs)) (take-append_seam bs rest);
      rest_is = drop-append_seam bs rest;
    }

digits_read : (b : ℕ) (bs rest : List ℕ) → Fits (Number b bs) rest → IsRead (Number b bs) rest
digits_read b bs rest fits =
    let ends = and_parts (is_digit b && list_all is_digit bs) (not (begins is_word_byte rest)) fits in
    let front = and_parts (is_digit b) (list_all is_digit bs) ends.0 in
    let stop : begins is_word_byte rest ≡ false = not_holds (begins is_word_byte rest) ends.1 in
    let size : prefix_len is_digit (bs ++ rest) ≡ length bs = front_again is_digit bs rest front.1 (no_digit rest stop) in
    record {
      first = b;
      after = bs ++ rest;
      size = length bs;
      written_is = refl;
      told =
          at_second (is_letter b) (word_at b (bs ++ rest)) (no_letter b (bs ++ rest)) (digit_no_letter b front.0)
          ∙ at_first (is_digit b) (digits_at b (bs ++ rest)) (no_digits b (bs ++ rest)) front.0
          ∙ ap (λ n. cond (begins is_word_byte (drop n (bs ++ rest))) None (Some (Some (token.Digits (b ∷ take n (bs ++ rest))), n))) size
          ∙ at_second (begins is_word_byte (drop (length bs) (bs ++ rest))) None _ (ap (begins is_word_byte) (drop-append_seam bs rest) ∙ stop)
          ∙ ap (λ cs. Some (Some (token.Digits (b ∷ cs)), length bs)) (take-append_seam bs rest);
      rest_is = drop-append_seam bs rest;
    }

line_read : (bs rest : List ℕ) → Fits (Line bs) rest → IsRead (Line bs) rest
line_read bs rest fits =
    let ends = and_parts (list_all is_in_line bs) (not (begins is_in_line rest)) fits in
    let size : prefix_len is_in_line (bs ++ rest) ≡ length bs = front_again is_in_line bs rest ends.0 (not_holds (begins is_in_line rest) ends.1) in
    let more : 1 + length bs ≡ suc (length bs) = omega arith in
    record {
      first = 45;
      after = 45 ∷ bs ++ rest;
      size = 1 + length bs;
      written_is = refl;
      told = ap (λ n. Some (None, 1 + n)) size;
      rest_is = rw more (drop-append_seam bs rest);
    }

-- after a text and two marks more
behind : (xs rest : List ℕ) (x y : ℕ) → drop (length xs + 2) (xs ++ x ∷ y ∷ rest) ≡ rest
behind [] rest x y = refl
behind (z ∷ xs) rest x y = let more : length (z ∷ xs) + 2 ≡ suc (length xs + 2) = omega arith in rw more (behind xs rest x y)

block_read : (bs rest : List ℕ) → Fits (Block bs) rest → IsRead (Block bs) rest
block_read bs rest fits =
    let more : length bs + 3 ≡ suc (length bs + 2) = omega arith in
    record {
      first = 47;
      after = 42 ∷ bs ++ 42 ∷ 47 ∷ rest;
      size = length bs + 3;
      written_is = refl;
      told = ap block_part (block_told bs rest 0 (not_holds (holds_close bs) fits)) ∙ zero_first (length bs);
      rest_is = rw more (behind bs rest 42 47);
    }
  where
    zero_first : (n : ℕ) → block_part (Some (0 + n)) ≡ Some (None, n + 3)
    zero_first n = let same : 0 + n ≡ n = omega arith in ap (λ n. Some (None, n + 3)) same

text_read : (bs rest : List ℕ) → Fits (QuotedText bs) rest → IsRead (QuotedText bs) rest
text_read bs rest fits = record {
  first = 39;
  after = flat_map (doubled 39) bs ++ 39 ∷ rest;
  size = length (flat_map (doubled 39) bs) + 1;
  written_is = refl;
  told = ap text_part (quoted_told 39 bs rest (not_holds (begins_with 39 rest) fits));
  rest_is = behind_one (flat_map (doubled 39) bs) rest 39;
}

name_read : (bs rest : List ℕ) → Fits (QuotedName bs) rest → IsRead (QuotedName bs) rest
name_read bs rest fits =
    let ends = and_parts (not (length bs == 0)) (not (begins_with 34 rest)) fits in
    record {
      first = 34;
      after = flat_map (doubled 34) bs ++ 34 ∷ rest;
      size = length (flat_map (doubled 34) bs) + 1;
      written_is = refl;
      told =
          ap name_part (quoted_told 34 bs rest (not_holds (begins_with 34 rest) ends.1))
          ∙ at_second (length bs == 0) None _ (not_holds (length bs == 0) ends.0);
      rest_is = behind_one (flat_map (doubled 34) bs) rest 34;
    }

-- a single symbol before what makes no pair with it
single_read : (b : ℕ) (s : Symbol) (rest : List ℕ) → symbol_text s ≡ b ∷ [] → ((c : ℕ) (cs : List ℕ) → ends_symbol (b ∷ []) (c ∷ cs) ≡ true → part_at b (c ∷ cs) ≡ Some (Some (token.Symbol s), 0)) → part_at b [] ≡ Some (Some (token.Symbol s), 0) → Fits (Mark s) rest → IsRead (Mark s) rest
single_read b s [] text more last fits = record { first = b; after = []; size = 0; written_is = ap (λ cs. cs ++ []) text; told = last; rest_is = refl }
single_read b s (c ∷ cs) text more last fits = record {
  first = b;
  after = c ∷ cs;
  size = 0;
  written_is = ap (λ bs. bs ++ (c ∷ cs)) text;
  told = more c cs (sym (ap (λ bs. ends_symbol bs (c ∷ cs)) text) ∙ fits);
  rest_is = refl;
}

less_more : (p q : Bool) → not (p || false || q || false || false || false || false) ≡ true → symbol_part (cond p (Some symbol.LessEqual) (cond q (Some symbol.NotEqual) None)) (Some symbol.Less) ≡ Some (Some (token.Symbol symbol.Less), 0)
less_more true q h = cc
less_more false true h = cc
less_more false false h = refl

greater_more : (p : Bool) → not (p || false || false || false || false || false) ≡ true → symbol_part (cond p (Some symbol.GreaterEqual) None) (Some symbol.Greater) ≡ Some (Some (token.Symbol symbol.Greater), 0)
greater_more true h = cc
greater_more false h = refl

minus_more : (p : Bool) (o : Found) → not (p || false) ≡ true → cond {A = Found} p o (Some (Some (token.Symbol symbol.Minus), 0)) ≡ Some (Some (token.Symbol symbol.Minus), 0)
minus_more true o h = cc
minus_more false o h = refl

slash_more : (p : Bool) (o : Found) → not p ≡ true → cond {A = Found} p o (Some (Some (token.Symbol symbol.Slash), 0)) ≡ Some (Some (token.Symbol symbol.Slash), 0)
slash_more true o h = cc
slash_more false o h = refl

mark_read : (s : Symbol) (rest : List ℕ) → Fits (Mark s) rest → IsRead (Mark s) rest
unfolding pair_of single_of
mark_read symbol.Open rest fits = single_read 40 symbol.Open rest refl (λ c cs e. refl) refl fits
mark_read symbol.Close rest fits = single_read 41 symbol.Close rest refl (λ c cs e. refl) refl fits
mark_read symbol.Comma rest fits = single_read 44 symbol.Comma rest refl (λ c cs e. refl) refl fits
mark_read symbol.Dot rest fits = single_read 46 symbol.Dot rest refl (λ c cs e. refl) refl fits
mark_read symbol.Star rest fits = single_read 42 symbol.Star rest refl (λ c cs e. refl) refl fits
mark_read symbol.Plus rest fits = single_read 43 symbol.Plus rest refl (λ c cs e. refl) refl fits
mark_read symbol.Equal rest fits = single_read 61 symbol.Equal rest refl (λ c cs e. refl) refl fits
mark_read symbol.Percent rest fits = single_read 37 symbol.Percent rest refl (λ c cs e. refl) refl fits
mark_read symbol.Minus rest fits = single_read 45 symbol.Minus rest refl (λ c cs e. minus_more (c == 45) (Some (None, prefix_len is_in_line (c ∷ cs))) e) refl fits
mark_read symbol.Slash rest fits = single_read 47 symbol.Slash rest refl (λ c cs e. slash_more (c == 42) (block_part (block_length 0 cs)) e) refl fits
mark_read symbol.Less rest fits = single_read 60 symbol.Less rest refl (λ c cs e. less_more (c == 61) (c == 62) e) refl fits
mark_read symbol.Greater rest fits = single_read 62 symbol.Greater rest refl (λ c cs e. greater_more (c == 61) e) refl fits
mark_read symbol.LessEqual rest fits = record { first = 60; after = 61 ∷ rest; size = 1; written_is = refl; told = refl; rest_is = refl }
mark_read symbol.GreaterEqual rest fits = record { first = 62; after = 61 ∷ rest; size = 1; written_is = refl; told = refl; rest_is = refl }
mark_read symbol.NotEqual rest fits = record { first = 60; after = 62 ∷ rest; size = 1; written_is = refl; told = refl; rest_is = refl }
mark_read symbol.BangEqual rest fits = record { first = 33; after = 61 ∷ rest; size = 1; written_is = refl; told = refl; rest_is = refl }
mark_read symbol.Bars rest fits = record { first = 124; after = 124 ∷ rest; size = 1; written_is = refl; told = refl; rest_is = refl }

parts_read : (all : ℕ) (parts : List Part) → AllFit parts → tokens_after all 0 (written parts) ≡ Some (tokens_of all parts)
parts_read all [] fit = refl
parts_read all (part ∷ parts) fit = step (part_is part (written parts) fit.0) (parts_read all parts fit.1)
  where
    part_is : (part : Part) (rest : List ℕ) → Fits part rest → IsRead part rest
    part_is (Blank b) rest fits = blank_read b rest fits
    part_is (Line bs) rest fits = line_read bs rest fits
    part_is (Block bs) rest fits = block_read bs rest fits
    part_is (Letters b bs) rest fits = word_read b bs rest fits
    part_is (Number b bs) rest fits = digits_read b bs rest fits
    part_is (QuotedName bs) rest fits = name_read bs rest fits
    part_is (QuotedText bs) rest fits = text_read bs rest fits
    part_is (Mark s) rest fits = mark_read s rest fits

    step : IsRead part (written parts) → tokens_after all 0 (written parts) ≡ Some (tokens_of all parts) → tokens_after all 0 (write_part part (written parts)) ≡ Some (tokens_of all (part ∷ parts))
    step read more =
        ap (tokens_after all 0) read.written_is
        ∙ ap (λ o. then_read o (λ p. then_read (tokens_after all p.1 read.after) (λ ts. Some (with_token all (length (read.first ∷ read.after)) (length (drop p.1 read.after)) p.0 ts)))) read.told
        ∙ ap (λ o. then_read o (λ ts. Some (with_token all (length (read.first ∷ read.after)) (length (drop read.size read.after)) (token_of part) ts))) (skip_drop all read.size read.after ∙ ap (tokens_after all 0) read.rest_is ∙ more)
        ∙ ap (λ w. Some (with_token all (length w) (length (drop read.size read.after)) (token_of part) (tokens_of all parts))) (sym read.written_is)
        ∙ ap (λ w. Some (with_token all (length (write_part part (written parts))) (length w) (token_of part) (tokens_of all parts))) read.rest_is

-- the tokens of a cut are those that are read
pub tokens_complete : (text : List ℕ) (ts : List Placed) → AreTokens text ts → tokens_after (length text) 0 text ≡ Some ts
tokens_complete text ts cut = ap (tokens_after (length text) 0) (sym cut.text_is) ∙ parts_read (length text) cut.parts cut.fit ∙ ap Some cut.tokens_are

pub no_tokens : (text : List ℕ) → tokens_after (length text) 0 text ≡ None → (ts : List Placed) → AreTokens text ts → ⊥
no_tokens text none ts cut = let found : Some ts ≡ None = sym (tokens_complete text ts cut) ∙ none in cc

pub one_list_of : (text : List ℕ) (a b : List Placed) → AreTokens text a → AreTokens text b → a ≡ b
one_list_of text a b one other = value_found a b (sym (tokens_complete text a one) ∙ tokens_complete text b other)
