-- Texts with their tokens, put together part by part before the rest of a text.
use Rattle.std.proofs.Common.{◌≡◌, ℕ, List, [], ◌∷◌, ◌++◌, Bool, true, not, ◌&&◌, refl, ap, sym, subst, append_assoc}
use Rattle.std.specs.List.{list_all}
use Rattle.std.proofs.lemmas.Bool.{and_parts}
use Rattle.text_bytes.specs.Classes.{is_blank, is_letter, is_digit, is_word_byte, is_in_line, begins}
use Rattle.mal_tokens.specs.Tokens.{Part, write_part, ends_mark, Fits, token_of, with_token, AreTokens}
use Rattle.mal_tokens.specs.Tokens.Part.{Blank, Comment, Letters, Number, Quoted, Sign}
use Rattle.mal_tokens.specs.declared.token.MalToken.{MalToken}

-- ## Parts before a text

pub nothing : AreTokens [] []
nothing = record { parts = []; text_is = refl; fit = tt; tokens_are = refl }

-- a part more
pub put : (part : Part) (rest : List ℕ) (ts : List MalToken) → Fits part rest → AreTokens rest ts → AreTokens (write_part part rest) (with_token (token_of part) ts)
put part rest ts fits cut = record {
  parts = part ∷ cut.parts;
  text_is = ap (write_part part) cut.text_is;
  fit = (subst (Fits part) (sym cut.text_is) fits, cut.fit);
  tokens_are = ap (with_token (token_of part)) cut.tokens_are;
}

-- a part may come before the rest, as a test
abbrev pub is_fit : Part → List ℕ → Bool
is_fit (Blank b) rest = is_blank b
is_fit (Comment bs) rest = list_all is_in_line bs && not (begins is_in_line rest)
is_fit (Letters b bs) rest = is_letter b && list_all is_word_byte bs && not (begins is_word_byte rest)
is_fit (Number b bs) rest = is_digit b && list_all is_digit bs && not (begins is_digit rest)
is_fit (Quoted bs) rest = true
is_fit (Sign m) rest = ends_mark m rest

fit_part : (part : Part) (rest : List ℕ) → is_fit part rest ≡ true → Fits part rest
fit_part (Blank b) rest h = h
fit_part (Comment bs) rest h = h
fit_part (Letters b bs) rest h = h
fit_part (Number b bs) rest h = h
fit_part (Quoted bs) rest h = tt
fit_part (Sign m) rest h = h

-- parts before the rest of a text
abbrev pub write_parts : List Part → List ℕ → List ℕ
write_parts [] rest = rest
write_parts (part ∷ parts) rest = write_part part (write_parts parts rest)

abbrev pub are_fit : List Part → List ℕ → Bool
are_fit [] rest = true
are_fit (part ∷ parts) rest = is_fit part (write_parts parts rest) && are_fit parts rest

-- their tokens before others
abbrev pub tokens_before : List Part → List MalToken → List MalToken
tokens_before [] ts = ts
tokens_before (part ∷ parts) ts = with_token (token_of part) (tokens_before parts ts)

pub put_all : (parts : List Part) (rest : List ℕ) (ts : List MalToken) → are_fit parts rest ≡ true → AreTokens rest ts → AreTokens (write_parts parts rest) (tokens_before parts ts)
put_all [] rest ts fit cut = cut
put_all (part ∷ parts) rest ts fit cut =
    let both = and_parts (is_fit part (write_parts parts rest)) (are_fit parts rest) fit in
    put part (write_parts parts rest) (tokens_before parts ts) (fit_part part (write_parts parts rest) both.0) (put_all parts rest ts both.1 cut)

-- ## Texts before the rest

-- no byte of a word is at the front: words and numbers end before the rest
abbrev pub ends : List ℕ → Bool
ends rest = not (begins is_word_byte rest)

-- a text with its tokens, before whatever follows
pub record Lead (text : List ℕ) (write : List MalToken → List MalToken) : Type 0 where
  pub lead : (rest : List ℕ) (ts : List MalToken) → AreTokens rest ts → AreTokens (text ++ rest) (write ts)

-- a text with its tokens, before what ends it
pub record Printed (text : List ℕ) (write : List MalToken → List MalToken) : Type 0 where
  pub printed : (rest : List ℕ) (ts : List MalToken) → AreTokens rest ts → ends rest ≡ true → AreTokens (text ++ rest) (write ts)

pub no_text : Lead [] (λ ts. ts)
no_text = record { lead = λ rest ts cut. cut }

-- a text that nothing has to end
pub from_lead : {text : List ℕ} {write : List MalToken → List MalToken} → Lead text write → Printed text write
from_lead x = record { printed = λ rest ts cut h. x.lead rest ts cut }

module _ {a b : List ℕ} {w v : List MalToken → List MalToken} where
  pub lead_lead : Lead a w → Lead b v → Lead (a ++ b) (λ ts. w (v ts))
  lead_lead x y = record { lead = λ rest ts cut. subst (λ text. AreTokens text (w (v ts))) (sym (append_assoc a b rest)) (x.lead (b ++ rest) (v ts) (y.lead rest ts cut)) }

  pub lead_then : Lead a w → Printed b v → Printed (a ++ b) (λ ts. w (v ts))
  lead_then x y = record { printed = λ rest ts cut h. subst (λ text. AreTokens text (w (v ts))) (sym (append_assoc a b rest)) (x.lead (b ++ rest) (v ts) (y.printed rest ts cut h)) }

  -- the second text ends the first
  pub then_lead : Printed a w → ((rest : List ℕ) → ends (b ++ rest) ≡ true) → Lead b v → Lead (a ++ b) (λ ts. w (v ts))
  then_lead x opens y = record { lead = λ rest ts cut. subst (λ text. AreTokens text (w (v ts))) (sym (append_assoc a b rest)) (x.printed (b ++ rest) (v ts) (y.lead rest ts cut) (opens rest)) }

  pub then_printed : Printed a w → ((rest : List ℕ) → ends (b ++ rest) ≡ true) → Printed b v → Printed (a ++ b) (λ ts. w (v ts))
  then_printed x opens y = record { printed = λ rest ts cut h. subst (λ text. AreTokens text (w (v ts))) (sym (append_assoc a b rest)) (x.printed (b ++ rest) (v ts) (y.printed rest ts cut h) (opens rest)) }
