-- The tokens of MAL text. A cut of the text into parts is plain data: how each part is written, and
-- what may follow it.
use Rattle.std.specs.Prelude.{◌≡◌, ℕ, ◌==◌, List, [], ◌∷◌, ◌++◌, flat_map, Bool, true, false, not, ◌&&◌, if◌then◌else◌, codes, Option, Some, None, IsTrue}
use Rattle.std.specs.List.{list_all}
use Rattle.text_bytes.specs.Classes.{is_blank, is_letter, is_digit, is_word_byte, is_in_line, begins, begins_with}
use Rattle.mal_tokens.specs.declared.token.Mark.{Mark}
use Rattle.mal_tokens.specs.declared.token.Mark.TheVariants as mark
use Rattle.mal_tokens.specs.declared.token.MalToken.{MalToken}
use Rattle.mal_tokens.specs.declared.token.MalToken.TheVariants as token

-- how a text is cut: blanks, `#` comments, words, digits, texts in quotes, marks
pub data Part : Type 0 where
  Blank : ℕ → Part
  Comment : List ℕ → Part
  Letters : ℕ → List ℕ → Part
  Number : ℕ → List ℕ → Part
  Quoted : List ℕ → Part
  Sign : Mark → Part

-- the bytes of a mark
abbrev pub mark_text : Mark → List ℕ
mark_text mark.Open = 40 ∷ []
mark_text mark.Close = 41 ∷ []
mark_text mark.Comma = 44 ∷ []
mark_text mark.Minus = 45 ∷ []
mark_text mark.Dot = 46 ∷ []
mark_text mark.Colon = 58 ∷ []
mark_text mark.Semicolon = 59 ∷ []
mark_text mark.At = 64 ∷ []
mark_text mark.Assign = 58 ∷ 61 ∷ []

-- a byte of a text in quotes: `\\` for a backslash (92), `\"` for a quote (34), `\n` for LF (10), another
-- byte as it is
abbrev pub spelled : ℕ → List ℕ
spelled b = if b == 92 then 92 ∷ 92 ∷ [] else (if b == 34 then 92 ∷ 34 ∷ [] else (if b == 10 then 92 ∷ 110 ∷ [] else b ∷ []))

-- the word of a bit
abbrev pub bit_word : Bool → List ℕ
bit_word true = codes "true"
bit_word false = codes "false"

-- a part, written before the rest of the text
abbrev pub write_part : Part → List ℕ → List ℕ
write_part (Blank b) rest = b ∷ rest
write_part (Comment bs) rest = 35 ∷ bs ++ rest
write_part (Letters b bs) rest = b ∷ bs ++ rest
write_part (Number b bs) rest = b ∷ bs ++ rest
write_part (Quoted bs) rest = 34 ∷ flat_map spelled bs ++ 34 ∷ rest
write_part (Sign m) rest = mark_text m ++ rest

abbrev pub written : List Part → List ℕ
written [] = []
written (part ∷ parts) = write_part part (written parts)

-- a `:` ends before what makes no `:=` with it
abbrev pub ends_mark : Mark → List ℕ → Bool
ends_mark mark.Colon rest = not (begins_with 61 rest)
ends_mark other rest = true

-- a part may come before the rest: each is as long as it can be
abbrev pub Fits : Part → List ℕ → Type 0
Fits (Blank b) rest = IsTrue (is_blank b)
Fits (Comment bs) rest = IsTrue (list_all is_in_line bs && not (begins is_in_line rest))
Fits (Letters b bs) rest = IsTrue (is_letter b && list_all is_word_byte bs && not (begins is_word_byte rest))
Fits (Number b bs) rest = IsTrue (is_digit b && list_all is_digit bs && not (begins is_digit rest))
Fits (Quoted bs) rest = Unit {0}
Fits (Sign m) rest = IsTrue (ends_mark m rest)

abbrev pub AllFit : List Part → Type 0
AllFit [] = Unit {0}
AllFit (part ∷ parts) = Fits part (written parts) × AllFit parts

-- the token of a part, where it has one
abbrev pub token_of : Part → Option MalToken
token_of (Blank b) = None
token_of (Comment bs) = None
token_of (Letters b bs) = Some (token.Name (b ∷ bs))
token_of (Number b bs) = Some (token.Digits (b ∷ bs))
token_of (Quoted bs) = Some (token.Text bs)
token_of (Sign m) = Some (token.Mark m)

-- the tokens after a token, where there is one
abbrev pub with_token : Option MalToken → List MalToken → List MalToken
with_token None tokens = tokens
with_token (Some t) tokens = t ∷ tokens

abbrev pub tokens_of : List Part → List MalToken
tokens_of [] = []
tokens_of (part ∷ parts) = with_token (token_of part) (tokens_of parts)

-- the text is cut into these tokens
pub record AreTokens (text : List ℕ) (tokens : List MalToken) : Type 0 where
  pub parts : List Part
  pub text_is : written parts ≡ text
  pub fit : AllFit parts
  pub tokens_are : tokens_of parts ≡ tokens
