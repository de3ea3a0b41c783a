-- A text that is cut into parts is one run, and says something where one of its parts is a token.
use Rattle.std.proofs.Common.{◌≡◌, ℕ, suc, List, [], ◌∷◌, ◌++◌, length, Bool, true, false, cond, Option, Some, None, refl, ap, sym, ◌∙◌, subst, arith}
use Rattle.std.specs.Prelude.{◌==◌, not, ◌&&◌, ◌||◌, flat_map}
use Rattle.std.specs.List.{list_all}
use Rattle.std.proofs.lemmas.Bool.{eqb-true, and_parts}
use Rattle.std.proofs.lemmas.Bool.Decides.{nat_tests}
use Rattle.sql_tree.specs.Bytes.{is_blank, is_letter, is_digit, is_word_byte, is_in_line, begins, begins_with, doubled, holds_close}
use Rattle.sql_tree.specs.Pieces.{runs_of, with_byte, ends_piece, next_inside, opened, is_told, begins_comment, says_something}
use Rattle.sql_tree.specs.Tokens.{Part, AllFit, Fits, ends_symbol, is_pair, symbol_text, token_of, tokens_of, with_token, write_part, written}
use Rattle.sql_tree.specs.Tokens.Part.{Blank, Line, Block, Letters, Number, QuotedName, QuotedText, Mark}
use Rattle.sql_tree.specs.declared.inside.Inside.{Inside}
use Rattle.sql_tree.specs.declared.inside.Inside.TheVariants.{Outside, InText, InName, InLine, OpensBlock, InBlock, ClosesBlock}
use Rattle.sql_tree.specs.declared.token.Placed.{Placed}
use Rattle.sql_tree.specs.declared.token.Symbol.{Symbol}
use Rattle.sql_tree.specs.declared.token.Symbol.TheVariants as symbol
use Rattle.sql_tree.specs.declared.token.Token.{Token}
use Rattle.read_laws.proofs.BlockLemmas.{no_end, or_parts}
use Rattle.read_laws.proofs.ByteLemmas.{not_holds}
use Rattle.read_laws.specs.PieceLaws.{PiecesByTokens}

-- ## Byte by byte

-- no `;` of these bytes ends a piece
abbrev Whole : Inside → List ℕ → Type 0
Whole place bs = runs_of place bs ≡ bs ∷ []

whole_step : (place : Inside) (b : ℕ) (bs : List ℕ) → ends_piece place b ≡ false → Whole (next_inside place b bs) bs → Whole place (b ∷ bs)
whole_step place b bs goes_on more = ap (λ t. cond t ([] ∷ runs_of Outside bs) (with_byte b (runs_of (next_inside place b bs) bs))) goes_on ∙ ap (with_byte b) more

-- bytes that say nothing, before a rest that is read from outside
record Skips (place : Inside) (bs rest : List ℕ) : Type 0 where
  whole : Whole Outside rest → Whole place bs
  says : says_something place bs ≡ says_something Outside rest

skip_step : (place : Inside) (b : ℕ) (bs rest : List ℕ) → ends_piece place b ≡ false → is_told place b bs ≡ false → Skips (next_inside place b bs) bs rest → Skips place (b ∷ bs) rest
skip_step place b bs rest goes_on untold more = record {
  whole = λ w. whole_step place b bs goes_on (more.whole w);
  says = ap (λ t. t || says_something (next_inside place b bs) bs) untold ∙ more.says;
}

no_skip : (rest : List ℕ) → Skips Outside rest rest
no_skip rest = record { whole = λ w. w; says = refl }

-- two bytes differ where a test tells them apart
differs : (p : ℕ → Bool) (b k : ℕ) (t : Bool) → p b ≡ t → p k ≡ not t → (b == k) ≡ false
differs p b k t x y = by_test (b == k) refl
  where
    apart : (t : Bool) → t ≡ not t → true ≡ false
    apart true e = e
    apart false e = sym e

    by_test : (same : Bool) → (b == k) ≡ same → same ≡ false
    by_test false e = refl
    by_test true e = apart t (sym x ∙ ap p (eqb-true b k e) ∙ y)

-- a byte that opens and ends nothing
record IsPlain (b : ℕ) : Type 0 where
  ends : (b == 59) ≡ false
  text : (b == 39) ≡ false
  name : (b == 34) ≡ false
  minus : (b == 45) ≡ false
  slash : (b == 47) ≡ false

plain_byte : (p : ℕ → Bool) (b : ℕ) → p b ≡ true → p 59 ≡ false → p 39 ≡ false → p 34 ≡ false → p 45 ≡ false → p 47 ≡ false → IsPlain b
plain_byte p b h a c d e f = record {
  ends = differs p b 59 true h a;
  text = differs p b 39 true h c;
  name = differs p b 34 true h d;
  minus = differs p b 45 true h e;
  slash = differs p b 47 true h f;
}

plain_opens : (b : ℕ) (bs : List ℕ) → IsPlain b → opened b bs ≡ Outside
plain_opens b bs plain =
    ap (λ t. cond t InText (cond (b == 34) InName (cond ((b == 45) && begins_with 45 bs) InLine (cond ((b == 47) && begins_with 42 bs) OpensBlock Outside)))) plain.text
    ∙ ap (λ t. cond t InName (cond ((b == 45) && begins_with 45 bs) InLine (cond ((b == 47) && begins_with 42 bs) OpensBlock Outside))) plain.name
    ∙ ap (λ t. cond (t && begins_with 45 bs) InLine (cond ((b == 47) && begins_with 42 bs) OpensBlock Outside)) plain.minus
    ∙ ap (λ t. cond (t && begins_with 42 bs) OpensBlock Outside) plain.slash

plain_whole : (b : ℕ) (bs : List ℕ) → IsPlain b → Whole Outside bs → Whole Outside (b ∷ bs)
plain_whole b bs plain more = whole_step Outside b bs plain.ends (subst (λ place. Whole place bs) (sym (plain_opens b bs plain)) more)

no_comment : (b : ℕ) (bs : List ℕ) → IsPlain b → begins_comment b bs ≡ false
no_comment b bs plain = ap (λ t. (t && begins_with 45 bs) || ((b == 47) && begins_with 42 bs)) plain.minus ∙ ap (λ t. t && begins_with 42 bs) plain.slash

-- a byte that says something
says_first : (b : ℕ) (bs : List ℕ) → is_told Outside b bs ≡ true → says_something Outside (b ∷ bs) ≡ true
says_first b bs told = ap (λ t. t || says_something (next_inside Outside b bs) bs) told

plain_says : (b : ℕ) (bs : List ℕ) → IsPlain b → is_blank b ≡ false → says_something Outside (b ∷ bs) ≡ true
plain_says b bs plain solid = says_first b bs (ap (λ t. not (t || begins_comment b bs)) solid ∙ ap not (no_comment b bs plain))

-- ## Blanks and comments

blank_skips : (b : ℕ) (rest : List ℕ) → is_blank b ≡ true → Skips Outside (b ∷ rest) rest
blank_skips b rest blank =
    let plain = plain_byte is_blank b blank refl refl refl refl refl in
    skip_step Outside b rest rest plain.ends (ap (λ t. not (t || begins_comment b rest)) blank) (subst (λ place. Skips place rest rest) (sym (plain_opens b rest plain)) (no_skip rest))

line_ends : (b : ℕ) (bs : List ℕ) → is_in_line b ≡ false → Skips InLine (b ∷ bs) (b ∷ bs)
line_ends b bs out = subst (λ c. Skips InLine (c ∷ bs) (c ∷ bs)) (sym (eqb-true b 10 (is_end (b == 10) out))) (record { whole = λ w. w; says = refl })
  where
    is_end : (t : Bool) → not t ≡ false → t ≡ true
    is_end true e = refl
    is_end false e = sym e

line_skips : (bs rest : List ℕ) → list_all is_in_line bs ≡ true → begins is_in_line rest ≡ false → Skips InLine (bs ++ rest) rest
line_skips [] [] all out = record { whole = λ w. refl; says = refl }
line_skips [] (c ∷ rest) all out = line_ends c rest out
line_skips (b ∷ bs) rest all out =
    let parts = and_parts (is_in_line b) (list_all is_in_line bs) all in
    let stays : (b == 10) ≡ false = not_holds (b == 10) parts.0 in
    skip_step InLine b (bs ++ rest) rest refl refl (subst (λ place. Skips place (bs ++ rest) rest) (sym (ap (λ t. cond t Outside InLine) stays)) (line_skips bs rest parts.1 out))

block_skips : (bs rest : List ℕ) → holds_close bs ≡ false → Skips InBlock (bs ++ 42 ∷ 47 ∷ rest) rest
block_skips [] rest none = skip_step InBlock 42 (47 ∷ rest) rest refl refl (skip_step ClosesBlock 47 rest rest refl refl (no_skip rest))
block_skips (b ∷ bs) rest none =
    let parts = or_parts ((b == 42) && begins_with 47 bs) (holds_close bs) none in
    skip_step InBlock b (bs ++ 42 ∷ 47 ∷ rest) rest refl refl
    (subst (λ place. Skips place (bs ++ 42 ∷ 47 ∷ rest) rest) (sym (ap (λ t. cond t ClosesBlock InBlock) (no_end b bs rest parts.0))) (block_skips bs rest parts.1))

-- ## Words and digits

plain_all : (p : ℕ → Bool) → ((b : ℕ) → p b ≡ true → IsPlain b) → (bs rest : List ℕ) → list_all p bs ≡ true → Whole Outside rest → Whole Outside (bs ++ rest)
plain_all p plain [] rest all more = more
plain_all p plain (b ∷ bs) rest all more =
    let parts = and_parts (p b) (list_all p bs) all in
    plain_whole b (bs ++ rest) (plain b parts.0) (plain_all p plain bs rest parts.1 more)

plain_letter : (b : ℕ) → is_letter b ≡ true → IsPlain b
plain_letter b h = plain_byte is_letter b h refl refl refl refl refl

plain_word : (b : ℕ) → is_word_byte b ≡ true → IsPlain b
plain_word b h = plain_byte is_word_byte b h refl refl refl refl refl

plain_digit : (b : ℕ) → is_digit b ≡ true → IsPlain b
plain_digit b h = plain_byte is_digit b h refl refl refl refl refl

no_blank : (p : ℕ → Bool) (b : ℕ) → p b ≡ true → p 32 ≡ false → p 9 ≡ false → p 13 ≡ false → p 10 ≡ false → is_blank b ≡ false
no_blank p b h x y z w =
    ap (λ t. t || (b == 9) || (b == 13) || (b == 10)) (differs p b 32 true h x) ∙ ap (λ t. t || (b == 13) || (b == 10)) (differs p b 9 true h y)
    ∙ ap (λ t. t || (b == 10)) (differs p b 13 true h z) ∙ differs p b 10 true h w

-- ## Strings and quoted names

-- bytes between marks, of which each is doubled
module _ (mark : ℕ) (place : Inside) (shuts : (bs : List ℕ) → next_inside place mark bs ≡ Outside) (opens : (bs : List ℕ) → next_inside Outside mark bs ≡ place)
    (stays : (b : ℕ) (bs : List ℕ) → (b == mark) ≡ false → next_inside place b bs ≡ place) (inside : (b : ℕ) → ends_piece place b ≡ false) (out : ends_piece Outside mark ≡ false) where
  quoted_whole : (bs rest : List ℕ) → Whole Outside rest → Whole place (flat_map (doubled mark) bs ++ mark ∷ rest)
  quoted_whole [] rest more = whole_step place mark rest (inside mark) (subst (λ p. Whole p rest) (sym (shuts rest)) more)
  quoted_whole (b ∷ bs) rest more = by_mark (b == mark) refl (quoted_whole bs rest more)
    where
      by_mark : (t : Bool) → (b == mark) ≡ t → Whole place (flat_map (doubled mark) bs ++ mark ∷ rest) → Whole place ((cond t (mark ∷ mark ∷ []) (b ∷ []) ++ flat_map (doubled mark) bs) ++ mark ∷ rest)
      by_mark true e w =
          let behind : List ℕ = flat_map (doubled mark) bs ++ mark ∷ rest in
          whole_step place mark (mark ∷ behind) (inside mark)
          (subst (λ p. Whole p (mark ∷ behind)) (sym (shuts (mark ∷ behind))) (whole_step Outside mark behind out (subst (λ p. Whole p behind) (sym (opens behind)) w)))
      by_mark false e w =
          let behind : List ℕ = flat_map (doubled mark) bs ++ mark ∷ rest in
          whole_step place b behind (inside b) (subst (λ p. Whole p behind) (sym (stays b behind e)) w)

text_whole : (bs rest : List ℕ) → Whole Outside rest → Whole InText (flat_map (doubled 39) bs ++ 39 ∷ rest)
text_whole = quoted_whole 39 InText (λ bs. refl) (λ bs. refl) (λ b bs e. ap (λ t. cond t Outside InText) e) (λ b. refl) refl

name_whole : (bs rest : List ℕ) → Whole Outside rest → Whole InName (flat_map (doubled 34) bs ++ 34 ∷ rest)
name_whole = quoted_whole 34 InName (λ bs. refl) (λ bs. refl) (λ b bs e. ap (λ t. cond t Outside InName) e) (λ b. refl) refl

-- ## Symbols

-- no pair with the byte follows
no_pair : (b k : ℕ) (rest : List ℕ) → is_pair b k ≡ true → not (begins (is_pair b) rest) ≡ true → begins_with k rest ≡ false
no_pair b k [] pair ends = refl
no_pair b k (c ∷ rest) pair ends = differs (is_pair b) c k false (not_holds (is_pair b c) ends) pair

-- a part that is a token
record Tells (bs rest : List ℕ) : Type 0 where
  whole : Whole Outside rest → Whole Outside bs
  says : says_something Outside bs ≡ true

minus_tells : (rest : List ℕ) → not (begins (is_pair 45) rest) ≡ true → Tells (45 ∷ rest) rest
minus_tells rest ends =
    let none = no_pair 45 45 rest refl ends in
    record {
      whole = λ w. whole_step Outside 45 rest refl (subst (λ place. Whole place rest) (sym (ap (λ t. cond t InLine Outside) none)) w);
      says = says_first 45 rest (ap (λ t. not (t || false)) none);
    }

slash_tells : (rest : List ℕ) → not (begins (is_pair 47) rest) ≡ true → Tells (47 ∷ rest) rest
slash_tells rest ends =
    let none = no_pair 47 42 rest refl ends in
    record {
      whole = λ w. whole_step Outside 47 rest refl (subst (λ place. Whole place rest) (sym (ap (λ t. cond t OpensBlock Outside) none)) w);
      says = says_first 47 rest (ap not none);
    }

-- a symbol of one byte or of two that begin nothing
one_tells : (b : ℕ) (rest : List ℕ) → IsPlain b → is_blank b ≡ false → Tells (b ∷ rest) rest
one_tells b rest plain solid = record { whole = plain_whole b rest plain; says = plain_says b rest plain solid }

two_tells : (b c : ℕ) (rest : List ℕ) → IsPlain b → is_blank b ≡ false → IsPlain c → Tells (b ∷ c ∷ rest) rest
two_tells b c rest plain solid also = record { whole = λ w. plain_whole b (c ∷ rest) plain (plain_whole c rest also w); says = plain_says b (c ∷ rest) plain solid }

plain_is : (b : ℕ) → (b == 59) ≡ false → (b == 39) ≡ false → (b == 34) ≡ false → (b == 45) ≡ false → (b == 47) ≡ false → IsPlain b
plain_is b a c d e f = record { ends = a; text = c; name = d; minus = e; slash = f }

mark_tells : (s : Symbol) (rest : List ℕ) → ends_symbol (symbol_text s) rest ≡ true → Tells (symbol_text s ++ rest) rest
mark_tells symbol.Open rest ends = one_tells 40 rest (plain_is 40 refl refl refl refl refl) refl
mark_tells symbol.Close rest ends = one_tells 41 rest (plain_is 41 refl refl refl refl refl) refl
mark_tells symbol.Comma rest ends = one_tells 44 rest (plain_is 44 refl refl refl refl refl) refl
mark_tells symbol.Dot rest ends = one_tells 46 rest (plain_is 46 refl refl refl refl refl) refl
mark_tells symbol.Star rest ends = one_tells 42 rest (plain_is 42 refl refl refl refl refl) refl
mark_tells symbol.Plus rest ends = one_tells 43 rest (plain_is 43 refl refl refl refl refl) refl
mark_tells symbol.Minus rest ends = minus_tells rest ends
mark_tells symbol.Equal rest ends = one_tells 61 rest (plain_is 61 refl refl refl refl refl) refl
mark_tells symbol.Less rest ends = one_tells 60 rest (plain_is 60 refl refl refl refl refl) refl
mark_tells symbol.LessEqual rest ends = two_tells 60 61 rest (plain_is 60 refl refl refl refl refl) refl (plain_is 61 refl refl refl refl refl)
mark_tells symbol.Greater rest ends = one_tells 62 rest (plain_is 62 refl refl refl refl refl) refl
mark_tells symbol.GreaterEqual rest ends = two_tells 62 61 rest (plain_is 62 refl refl refl refl refl) refl (plain_is 61 refl refl refl refl refl)
mark_tells symbol.NotEqual rest ends = two_tells 60 62 rest (plain_is 60 refl refl refl refl refl) refl (plain_is 62 refl refl refl refl refl)
mark_tells symbol.BangEqual rest ends = two_tells 33 61 rest (plain_is 33 refl refl refl refl refl) refl (plain_is 61 refl refl refl refl refl)
mark_tells symbol.Slash rest ends = slash_tells rest ends
mark_tells symbol.Percent rest ends = one_tells 37 rest (plain_is 37 refl refl refl refl refl) refl
mark_tells symbol.Bars rest ends = two_tells 124 124 rest (plain_is 124 refl refl refl refl refl) refl (plain_is 124 refl refl refl refl refl)

-- ## Parts

-- what a part adds to a rest, by whether it is a token
abbrev Adds : Option Token → List ℕ → List ℕ → Type 0
Adds None bs rest = Skips Outside bs rest
Adds (Some token) bs rest = Tells bs rest

part_adds : (part : Part) (rest : List ℕ) → Fits part rest → Adds (token_of part) (write_part part rest) rest
part_adds (Blank b) rest fits = blank_skips b rest fits
part_adds (Line bs) rest fits =
    let parts = and_parts (list_all is_in_line bs) (not (begins is_in_line rest)) fits in
    let more : Skips InLine (bs ++ rest) rest = line_skips bs rest parts.0 (not_holds (begins is_in_line rest) parts.1) in
    skip_step Outside 45 (45 ∷ bs ++ rest) rest refl refl (skip_step InLine 45 (bs ++ rest) rest refl refl more)
part_adds (Block bs) rest fits =
    let more : Skips InBlock (bs ++ 42 ∷ 47 ∷ rest) rest = block_skips bs rest (not_holds (holds_close bs) fits) in
    skip_step Outside 47 (42 ∷ bs ++ 42 ∷ 47 ∷ rest) rest refl refl (skip_step OpensBlock 42 (bs ++ 42 ∷ 47 ∷ rest) rest refl refl more)
part_adds (Letters b bs) rest fits =
    let parts = and_parts (is_letter b) (list_all is_word_byte bs) (and_parts (is_letter b && list_all is_word_byte bs) (not (begins is_word_byte rest)) fits).0 in
    record {
      whole = λ w. plain_whole b (bs ++ rest) (plain_letter b parts.0) (plain_all is_word_byte plain_word bs rest parts.1 w);
      says = plain_says b (bs ++ rest) (plain_letter b parts.0) (no_blank is_letter b parts.0 refl refl refl refl);
    }
part_adds (Number b bs) rest fits =
    let parts = and_parts (is_digit b) (list_all is_digit bs) (and_parts (is_digit b && list_all is_digit bs) (not (begins is_word_byte rest)) fits).0 in
    record {
      whole = λ w. plain_whole b (bs ++ rest) (plain_digit b parts.0) (plain_all is_digit plain_digit bs rest parts.1 w);
      says = plain_says b (bs ++ rest) (plain_digit b parts.0) (no_blank is_digit b parts.0 refl refl refl refl);
    }
part_adds (QuotedName bs) rest fits = record {
  whole = λ w. whole_step Outside 34 (flat_map (doubled 34) bs ++ 34 ∷ rest) refl (name_whole bs rest w);
  says = refl;
}
part_adds (QuotedText bs) rest fits = record {
  whole = λ w. whole_step Outside 39 (flat_map (doubled 39) bs ++ 39 ∷ rest) refl (text_whole bs rest w);
  says = refl;
}
part_adds (Mark s) rest fits = mark_tells s rest fits

-- ## The law

record AreRead (bs : List ℕ) (tokens : List Placed) : Type 0 where
  whole : Whole Outside bs
  says : says_something Outside bs ≡ not (length tokens == 0)

some_there : (n : ℕ) → true ≡ not (suc n == 0)
some_there n = grind (arith, nat_tests)

read_more : (token : Option Token) (bs rest : List ℕ) (all long left : ℕ) (tokens : List Placed) → Adds token bs rest → AreRead rest tokens → AreRead bs (with_token all long left token tokens)
read_more None bs rest all long left tokens adds read = record { whole = adds.whole read.whole; says = adds.says ∙ read.says }
read_more (Some token) bs rest all long left tokens adds read = record { whole = adds.whole read.whole; says = adds.says ∙ some_there (length tokens) }

are_read : (all : ℕ) (parts : List Part) → AllFit parts → AreRead (written parts) (tokens_of all parts)
are_read all [] fit = record { whole = refl; says = refl }
are_read all (part ∷ parts) fit =
    read_more (token_of part) (write_part part (written parts)) (written parts) all (length (write_part part (written parts))) (length (written parts)) (tokens_of all parts)
    (part_adds part (written parts) fit.0) (are_read all parts fit.1)

pub pieces_by_tokens_for : PiecesByTokens
pieces_by_tokens_for text tokens are =
    let read : AreRead text tokens = subst (AreRead text) are.tokens_are (subst (λ bs. AreRead bs (tokens_of (length text) are.parts)) are.text_is (are_read (length text) are.parts are.fit)) in
    record { says = read.says; whole = read.whole }
