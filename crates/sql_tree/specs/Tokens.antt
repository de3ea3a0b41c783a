-- The tokens of a text. A cut of the text into parts is plain data: how each part is written, and
-- what may follow it.
use Rattle.std.specs.Prelude.{◌≡◌, ℕ, ◌-◌, ◌==◌, List, [], ◌∷◌, ◌++◌, length, map, flat_map, Bool, true, not, ◌&&◌, ◌||◌, Option, Some, None, IsTrue}
use Rattle.std.specs.List.{list_all}
use Rattle.sql_tree.specs.Bytes.{is_blank, is_letter, is_digit, is_word_byte, is_in_line, low, begins, begins_with, doubled, holds_close}
use Rattle.sql_tree.specs.Words.{word_token}
use Rattle.sql_tree.specs.declared.token.Placed.{Placed}
use Rattle.sql_tree.specs.declared.token.Symbol.{Symbol}
use Rattle.sql_tree.specs.declared.token.Symbol.TheVariants as symbol
use Rattle.sql_tree.specs.declared.token.Token.{Token}
use Rattle.sql_tree.specs.declared.token.Token.TheVariants as token

-- how a text is cut: blanks, `--` comments, `/*` comments, words, digits, quoted names, strings, symbols
pub data Part : Type 0 where
  Blank : ℕ → Part
  Line : List ℕ → Part
  Block : List ℕ → Part
  Letters : ℕ → List ℕ → Part
  Number : ℕ → List ℕ → Part
  QuotedName : List ℕ → Part
  QuotedText : List ℕ → Part
  Mark : Symbol → Part

-- the bytes of a symbol
abbrev pub symbol_text : Symbol → List ℕ
symbol_text symbol.Open = 40 ∷ []
symbol_text symbol.Close = 41 ∷ []
symbol_text symbol.Comma = 44 ∷ []
symbol_text symbol.Dot = 46 ∷ []
symbol_text symbol.Star = 42 ∷ []
symbol_text symbol.Plus = 43 ∷ []
symbol_text symbol.Minus = 45 ∷ []
symbol_text symbol.Equal = 61 ∷ []
symbol_text symbol.Less = 60 ∷ []
symbol_text symbol.LessEqual = 60 ∷ 61 ∷ []
symbol_text symbol.Greater = 62 ∷ []
symbol_text symbol.GreaterEqual = 62 ∷ 61 ∷ []
symbol_text symbol.NotEqual = 60 ∷ 62 ∷ []
symbol_text symbol.BangEqual = 33 ∷ 61 ∷ []
symbol_text symbol.Slash = 47 ∷ []
symbol_text symbol.Percent = 37 ∷ []
symbol_text symbol.Bars = 124 ∷ 124 ∷ []

-- a part, written before the rest of the text
abbrev pub write_part : Part → List ℕ → List ℕ
write_part (Blank b) rest = b ∷ rest
write_part (Line bs) rest = 45 ∷ 45 ∷ bs ++ rest
write_part (Block bs) rest = 47 ∷ 42 ∷ bs ++ 42 ∷ 47 ∷ rest
write_part (Letters b bs) rest = b ∷ bs ++ rest
write_part (Number b bs) rest = b ∷ bs ++ rest
write_part (QuotedName bs) rest = 34 ∷ flat_map (doubled 34) bs ++ 34 ∷ rest
write_part (QuotedText bs) rest = 39 ∷ flat_map (doubled 39) bs ++ 39 ∷ rest
write_part (Mark s) rest = symbol_text s ++ rest

abbrev pub written : List Part → List ℕ
written [] = []
written (part ∷ parts) = write_part part (written parts)

-- two bytes stand for one symbol, or open a comment
abbrev pub is_pair : ℕ → ℕ → Bool
is_pair b c =
    ((b == 60) && (c == 61)) || ((b == 62) && (c == 61)) || ((b == 60) && (c == 62)) || ((b == 33) && (c == 61)) || ((b == 124) && (c == 124))
    || ((b == 45) && (c == 45)) || ((b == 47) && (c == 42))

-- a symbol of one byte ends before what makes no pair with it
abbrev pub ends_symbol : List ℕ → List ℕ → Bool
ends_symbol (b ∷ []) rest = not (begins (is_pair b) rest)
ends_symbol other rest = true

-- a part may come before the rest: each is as long as it can be
abbrev pub Fits : Part → List ℕ → Type 0
Fits (Blank b) rest = IsTrue (is_blank b)
Fits (Line bs) rest = IsTrue (list_all is_in_line bs && not (begins is_in_line rest))
Fits (Block bs) rest = IsTrue (not (holds_close bs))
Fits (Letters b bs) rest = IsTrue (is_letter b && list_all is_word_byte bs && not (begins is_word_byte rest))
Fits (Number b bs) rest = IsTrue (is_digit b && list_all is_digit bs && not (begins is_word_byte rest))
Fits (QuotedName bs) rest = IsTrue (not (length bs == 0) && not (begins_with 34 rest))
Fits (QuotedText bs) rest = IsTrue (not (begins_with 39 rest))
Fits (Mark s) rest = IsTrue (ends_symbol (symbol_text s) rest)

abbrev pub AllFit : List Part → Type 0
AllFit [] = Unit {0}
AllFit (part ∷ parts) = Fits part (written parts) × AllFit parts

-- the token of a part, where it has one
abbrev pub token_of : Part → Option Token
token_of (Blank b) = None
token_of (Line bs) = None
token_of (Block bs) = None
token_of (Letters b bs) = Some (word_token (map low (b ∷ bs)))
token_of (Number b bs) = Some (token.Digits (b ∷ bs))
token_of (QuotedName bs) = Some (token.Quoted bs)
token_of (QuotedText bs) = Some (token.Text bs)
token_of (Mark s) = Some (token.Symbol s)

-- the tokens, after one more where there is one: it begins where `long` of all bytes are left and
-- ends where `left` of them are
abbrev pub with_token : ℕ → ℕ → ℕ → Option Token → List Placed → List Placed
with_token all long left None tokens = tokens
with_token all long left (Some t) tokens = record { token = t; start = all - long; end = all - left } ∷ tokens

-- the tokens of the parts, in a text of so many bytes
abbrev pub tokens_of : ℕ → List Part → List Placed
tokens_of all [] = []
tokens_of all (part ∷ parts) = with_token all (length (write_part part (written parts))) (length (written parts)) (token_of part) (tokens_of all parts)

-- the text is cut into these tokens
pub record AreTokens (text : List ℕ) (tokens : List Placed) : Type 0 where
  pub parts : List Part
  pub text_is : written parts ≡ text
  pub fit : AllFit parts
  pub tokens_are : tokens_of (length text) parts ≡ tokens
