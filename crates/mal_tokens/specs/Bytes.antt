-- What the private functions on bytes compute: a definition for each, on plain lists. The public clauses
-- don't use these: proofs/ shows that they are the definition of tokens.
use Rattle.std.specs.Prelude.{ℕ, zero, suc, List, [], ◌∷◌, take, Bool, true, false, not, ◌&&◌, ◌||◌, ◌==◌, if◌then◌else◌, Option, Some, None}
use Rattle.std.specs.List.{prefix_len}
use Rattle.text_bytes.specs.Classes.{is_blank, is_letter, is_digit, is_word_byte, is_in_line, begins_with}
use Rattle.mal_tokens.specs.Tokens.{with_token}
use Rattle.text_bytes.specs.Found.{then_read, joined}
use Rattle.mal_tokens.specs.declared.token.Mark.{Mark}
use Rattle.mal_tokens.specs.declared.token.Mark.TheVariants as mark
use Rattle.mal_tokens.specs.declared.token.MalToken.{MalToken}
use Rattle.mal_tokens.specs.declared.token.MalToken.TheVariants as token
use Rattle.mal_tokens.specs.declared.token.TheConstants.{MARKS}

-- ## Texts in quotes

-- the byte that is kept of one in quotes, after a backslash or not
abbrev pub kept_byte : Bool → ℕ → List ℕ
kept_byte true b = (if b == 110 then 10 else b) ∷ []
kept_byte false b = if b == 92 then [] else b ∷ []

-- a backslash is open after the byte
abbrev pub is_open : Bool → ℕ → Bool
is_open true b = false
is_open false b = b == 92

-- no text has the byte there
abbrev pub is_refused : Bool → ℕ → Bool
is_refused true b = not ((b == 92) || (b == 34) || (b == 110))
is_refused false b = b == 10

-- the text before the closing quote, and how many bytes that takes, the quote too
abbrev pub quoted_at : Bool → List ℕ → Option (List ℕ × ℕ)
quoted_at escaped [] = None
quoted_at escaped (b ∷ bs) =
    if not escaped && (b == 34) then Some ([], 1)
    else (if is_refused escaped b then None else joined (kept_byte escaped b) (quoted_at (is_open escaped b) bs))

-- ## Parts

-- a part: its token, where it has one, and how many bytes follow its first
abbrev pub Found : Type 0
Found = Option (Option MalToken × ℕ)

-- the mark of the first entry with this byte
abbrev pub first_mark : ℕ → List (ℕ × Mark) → Option Mark
first_mark b [] = None
first_mark b (entry ∷ entries) = if b == entry.0 then Some entry.1 else first_mark b entries

-- the mark of one byte
unfoldable pub mark_of : ℕ → Option Mark
mark_of b = first_mark b MARKS

abbrev pub mark_part : Option Mark → Found
mark_part None = None
mark_part (Some m) = Some (Some (token.Mark m), 0)

abbrev pub text_part : Option (List ℕ × ℕ) → Found
text_part None = None
text_part (Some found) = Some (Some (token.Text found.0), found.1)

-- a comment or a mark
abbrev pub mark_at : ℕ → List ℕ → Found
mark_at b bs =
    if b == 35 then Some (None, prefix_len is_in_line bs)
    else (if (b == 58) && begins_with 61 bs then Some (Some (token.Mark mark.Assign), 1) else mark_part (mark_of b))

abbrev pub digits_at : ℕ → List ℕ → Found
digits_at b bs = Some (Some (token.Digits (b ∷ take (prefix_len is_digit bs) bs)), prefix_len is_digit bs)

abbrev pub word_at : ℕ → List ℕ → Found
word_at b bs = Some (Some (token.Name (b ∷ take (prefix_len is_word_byte bs) bs)), prefix_len is_word_byte bs)

-- the part at the front
abbrev pub part_at : ℕ → List ℕ → Found
part_at b bs =
    if is_letter b then word_at b bs
    else (if is_digit b then digits_at b bs
    else (if is_blank b then Some (None, 0)
    else (if b == 34 then text_part (quoted_at false bs)
    else mark_at b bs)))

-- ## Tokens

-- the token, where there is one
abbrev pub listed : Option MalToken → List MalToken
listed None = []
listed (Some t) = t ∷ []

-- the tokens of bytes, of which `skip` belong to the part before
abbrev pub tokens_after : ℕ → List ℕ → Option (List MalToken)
tokens_after skip [] = Some []
tokens_after (suc skip) (b ∷ bs) = tokens_after skip bs
tokens_after zero (b ∷ bs) =
    then_read (part_at b bs) (λ part. then_read (tokens_after part.1 bs) (λ tokens. Some (with_token part.0 tokens)))
