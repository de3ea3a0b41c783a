-- A reader of pieces and tokens, on plain lists: a definition for each of its steps. No public
-- clause cites these; proofs/ shows that they equal the definitions of pieces and tokens.
use Rattle.std.specs.Prelude.{ℕ, zero, suc, ◌+◌, List, [], ◌∷◌, length, map, filter, take, drop, Bool, false, not, ◌&&◌, ◌==◌, if◌then◌else◌, Option, Some, None}
use Rattle.std.specs.List.{prefix_len}
use Rattle.sql_tree.specs.Bytes.{is_blank, is_letter, is_digit, is_word_byte, is_in_line, low, begins, begins_with}
use Rattle.sql_tree.specs.Pieces.{ends_piece, next_inside, says_something}
use Rattle.sql_tree.specs.Tokens.{with_token}
use Rattle.sql_tree.specs.Words.{word_token}
use Rattle.sql_tree.specs.declared.inside.Inside.{Inside}
use Rattle.sql_tree.specs.declared.inside.Inside.TheVariants.{Outside}
use Rattle.sql_tree.specs.declared.token.Placed.{Placed}
use Rattle.sql_tree.specs.declared.token.Symbol.{Symbol}
use Rattle.sql_tree.specs.declared.token.Token.{Token}
use Rattle.sql_tree.specs.declared.token.Token.TheVariants as token
use Rattle.text_bytes.specs.Found.{then_read, joined}
use Rattle.sql_tree.specs.declared.token.TheConstants.{SINGLES, PAIRS}

-- ## Pieces

-- the place of the first `;` that ends a piece, counted on from `at`
abbrev pub run_length : Inside → ℕ → List ℕ → Option ℕ
run_length place at [] = None
run_length place at (b ∷ bs) = if ends_piece place b then Some at else run_length (next_inside place b bs) (at + 1) bs

-- the runs that aren't of blanks and comments alone
abbrev pub kept_runs : List (List ℕ) → List (List ℕ)
kept_runs runs = filter (says_something Outside) runs

-- ## Parts

-- what is kept of a byte between marks, after a mark without its pair or not
abbrev pub kept_byte : ℕ → Bool → ℕ → List ℕ
kept_byte mark closing b = if b == mark then (if closing then mark ∷ [] else []) else b ∷ []

-- whether a mark without its pair comes last, up to this byte
abbrev pub next_closing : ℕ → Bool → ℕ → Bool
next_closing mark closing b = if b == mark then not closing else false

-- the text before the mark that isn't doubled, and how many bytes it takes, that mark included
abbrev pub quoted_at : ℕ → Bool → List ℕ → Option (List ℕ × ℕ)
quoted_at mark closing [] = if closing then Some ([], 0) else None
quoted_at mark closing (b ∷ bs) =
    if closing && not (b == mark) then Some ([], 0)
    else joined (kept_byte mark closing b) (quoted_at mark (next_closing mark closing b) bs)

-- the place of the first `*/`, counted on from `at`
abbrev pub block_length : ℕ → List ℕ → Option ℕ
block_length at [] = None
block_length at (b ∷ bs) = if (b == 42) && begins_with 47 bs then Some at else block_length (at + 1) bs

-- the symbol of the first entry that passes
abbrev pub first_symbol : {X : Type 0} → (X → Bool) → (X → Symbol) → List X → Option Symbol
first_symbol test symbol [] = None
first_symbol test symbol (entry ∷ entries) = if test entry then Some (symbol entry) else first_symbol test symbol entries

-- the symbol of one byte
unfoldable pub single_of : ℕ → Option Symbol
single_of b = first_symbol (λ entry. b == entry.0) (λ entry. entry.1) SINGLES

-- the symbol of two bytes
unfoldable pub pair_of : ℕ → ℕ → Option Symbol
pair_of b c = first_symbol (λ entry. (b == entry.0.0) && (c == entry.0.1)) (λ entry. entry.1) PAIRS

-- the symbol of a byte and the one after it
abbrev pub pair_at : ℕ → List ℕ → Option Symbol
pair_at b [] = None
pair_at b (c ∷ bs) = pair_of b c

-- a part: its token, where it has one, and how many bytes follow its first
abbrev pub Found : Type 0
Found = Option (Option Token × ℕ)

abbrev pub symbol_part : Option Symbol → Option Symbol → Found
symbol_part (Some pair) single = Some (Some (token.Symbol pair), 1)
symbol_part None (Some single) = Some (Some (token.Symbol single), 0)
symbol_part None None = None

abbrev pub block_part : Option ℕ → Found
block_part None = None
block_part (Some n) = Some (None, n + 3)

abbrev pub text_part : Option (List ℕ × ℕ) → Found
text_part None = None
text_part (Some found) = Some (Some (token.Text found.0), found.1)

abbrev pub name_part : Option (List ℕ × ℕ) → Found
name_part None = None
name_part (Some found) = if length found.0 == 0 then None else Some (Some (token.Quoted found.0), found.1)

-- a symbol or a comment
abbrev pub mark_at : ℕ → List ℕ → Found
mark_at b bs =
    if (b == 45) && begins_with 45 bs then Some (None, prefix_len is_in_line bs)
    else (if (b == 47) && begins_with 42 bs then block_part (block_length 0 (drop 1 bs))
    else symbol_part (pair_at b bs) (single_of b))

-- digits
abbrev pub digits_at : ℕ → List ℕ → Found
digits_at b bs =
    if begins is_word_byte (drop (prefix_len is_digit bs) bs) then None
    else Some (Some (token.Digits (b ∷ take (prefix_len is_digit bs) bs)), prefix_len is_digit bs)

-- a word
abbrev pub word_at : ℕ → List ℕ → Found
word_at b bs = Some (Some (word_token (map low (b ∷ take (prefix_len is_word_byte bs) bs))), prefix_len is_word_byte bs)

-- the part at the front
abbrev pub part_at : ℕ → List ℕ → Found
part_at b bs =
    if is_letter b then word_at b bs
    else (if is_digit b then digits_at b bs
    else (if is_blank b then Some (None, 0)
    else (if b == 39 then text_part (quoted_at 39 false bs)
    else (if b == 34 then name_part (quoted_at 34 false bs)
    else mark_at b bs))))

-- ## Tokens

-- the token in its place, where there is one
abbrev pub placed : ℕ → ℕ → Option Token → List Placed
placed start end None = []
placed start end (Some t) = record { token = t; start = start; end = end } ∷ []

-- the tokens of the last bytes of a text of so many, of which `skip` belong to the part before
abbrev pub tokens_after : ℕ → ℕ → List ℕ → Option (List Placed)
tokens_after all skip [] = Some []
tokens_after all (suc skip) (b ∷ bs) = tokens_after all skip bs
tokens_after all zero (b ∷ bs) =
    then_read (part_at b bs) (λ part.
    then_read (tokens_after all part.1 bs) (λ tokens.
    Some (with_token all (length (b ∷ bs)) (length (drop part.1 bs)) part.0 tokens)))
