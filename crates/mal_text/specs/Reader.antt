-- What the functions that read tokens compute, on plain lists: a definition for each. No public
-- clause cites these; proofs/ shows that they read exactly what the grammar writes.
use Rattle.std.specs.Prelude.{ℕ, zero, suc, List, [], ◌∷◌, ◌++◌, length, Bool, true, false, bytes_eq, codes, if◌then◌else◌, Option, Some, None, slice_get}
use denote.Enum.Bare.{sameb}
use Rattle.text_bytes.specs.Found.{then_read}
use Rattle.mal_tokens.specs.contracts.token.Mark.{the_type as the_marks}
use Rattle.mal_text.specs.declared.block.Block.{Block}
use Rattle.mal_text.specs.declared.block.OrderKey.{OrderKey}
use Rattle.mal_text.specs.declared.block.Line.{Line}
use Rattle.mal_text.specs.declared.block.Term.{Term}
use Rattle.mal_text.specs.declared.block.Term.TheVariants as term
use Rattle.mal_tokens.specs.declared.token.Mark.{Mark as MarkSeen}
use Rattle.mal_tokens.specs.declared.token.Mark.TheVariants as mark
use Rattle.mal_tokens.specs.declared.token.MalToken.{MalToken}
use Rattle.mal_tokens.specs.declared.token.MalToken.TheVariants.{Name, Digits, Text, Mark}

-- what a reader finds: a value and the tokens after it
abbrev pub Found : Type 0 → Type 0
Found X = Option (X × List MalToken)

abbrev pub Parser : Type 0 → Type 0
Parser X = List MalToken → Found X

-- the first of the tokens, and those after it
abbrev pub first_token : List MalToken → Option MalToken
first_token [] = None
first_token (t ∷ tokens) = Some t

abbrev pub after_first : List MalToken → List MalToken
after_first [] = []
after_first (t ∷ tokens) = tokens

-- ## Tokens

abbrev pub name_in : Option MalToken → Option (List ℕ)
name_in (Some (Name word)) = Some word
name_in other = None

abbrev pub digits_in : Option MalToken → Option (List ℕ)
digits_in (Some (Digits digits)) = Some digits
digits_in other = None

-- the token is the word
unfoldable pub is_word : List ℕ → Option MalToken → Bool
is_word word (Some (Name found)) = bytes_eq found word
is_word word other = false

-- the token is the mark
unfoldable pub is_mark : MarkSeen → Option MalToken → Bool
is_mark m (Some (Mark found)) = sameb the_marks found m
is_mark m other = false

-- the digits are a single 0
unfoldable pub is_zero : Option MalToken → Bool
is_zero (Some (Digits digits)) = bytes_eq digits (codes "0")
is_zero other = false

-- the bit that a word is
abbrev pub bit_named : List ℕ → Option Bool
bit_named word = if bytes_eq word (codes "true") then Some true else (if bytes_eq word (codes "false") then Some false else None)

-- ## Required parts

-- what has to come next, and the tokens after it
abbrev pub Skip : Type 0
Skip = List MalToken → Option (List MalToken)

unfoldable pub skip_word : List ℕ → Skip
skip_word word tokens = if is_word word (first_token tokens) then Some (after_first tokens) else None

unfoldable pub skip_mark : MarkSeen → Skip
skip_mark m tokens = if is_mark m (first_token tokens) then Some (after_first tokens) else None

unfoldable pub skip_zero : Skip
skip_zero tokens = if is_zero (first_token tokens) then Some (after_first tokens) else None

-- a word, or digits
unfoldable pub name : Parser (List ℕ)
name tokens = then_read (name_in (first_token tokens)) (λ word. Some (word, after_first tokens))

unfoldable pub digits : Parser (List ℕ)
digits tokens = then_read (digits_in (first_token tokens)) (λ found. Some (found, after_first tokens))

-- ")" ";"
unfoldable pub closing : Skip
closing tokens = then_read (skip_mark mark.Close tokens) (skip_mark mark.Semicolon)

-- parts one after the other, in so many steps, as long as the tokens go on with one
unfoldable pub repeated : {X : Type 0} → (List MalToken → Bool) → Parser X → ℕ → List X → Parser (List X)
repeated goes part zero xs tokens = Some (xs, tokens)
repeated goes part (suc n) xs tokens =
    if goes tokens then then_read (part tokens) (λ found. repeated goes part n (xs ++ found.0 ∷ []) found.1) else Some (xs, tokens)

-- ## Arguments

-- what follows a text: `:` and `date`, or nothing of it
unfoldable pub text_after : List ℕ → Parser Term
text_after text tokens =
    if is_mark mark.Colon (first_token tokens) then then_read (skip_word (codes "date") (after_first tokens)) (λ rest. Some (term.Date text, rest))
    else Some (term.Text text, tokens)

-- what follows the digits of a number: `:` and `hge`, or nothing of it
unfoldable pub number_behind : Bool → List ℕ → Parser Term
number_behind negative found tokens =
    if is_mark mark.Colon (first_token tokens) then then_read (skip_word (codes "hge") (after_first tokens)) (λ rest. Some (term.Huge negative found, rest))
    else Some (term.Int negative found, tokens)

-- what follows digits without a sign: `@` and `0`, or what may follow those of a number
unfoldable pub digits_after : List ℕ → Parser Term
digits_after found tokens =
    if is_mark mark.At (first_token tokens) then then_read (skip_zero (after_first tokens)) (λ rest. Some (term.Oid found, rest))
    else number_behind false found tokens

-- what follows a `-`
unfoldable pub negative_after : Parser Term
negative_after tokens = then_read (digits tokens) (λ found. number_behind true found.0 found.1)

-- the argument that begins with the token
abbrev pub term_at : Option MalToken → Parser Term
term_at (Some (Name word)) rest = Some (term.Name word, rest)
term_at (Some (Text text)) rest = text_after text rest
term_at (Some (Digits found)) rest = digits_after found rest
term_at (Some (Mark mark.Minus)) rest = negative_after rest
term_at other rest = None

unfoldable pub term_of : Parser Term
term_of tokens = term_at (first_token tokens) (after_first tokens)

-- an argument after a comma
abbrev pub goes_further : List MalToken → Bool
goes_further tokens = is_mark mark.Comma (first_token tokens)

unfoldable pub further : Parser Term
further tokens = then_read (skip_mark mark.Comma tokens) term_of

-- arguments up to a `)`
unfoldable pub terms : Parser (List Term)
terms tokens =
    if is_mark mark.Close (first_token tokens) then Some ([], tokens)
    else then_read (term_of tokens) (λ first. repeated goes_further further (length first.1) (first.0 ∷ []) first.1)

-- ## Instructions

-- an instruction comes next: its second token is `:=`
abbrev pub goes_line : List MalToken → Bool
goes_line tokens = is_mark mark.Assign (slice_get tokens 1)

-- module "." function "("
unfoldable pub path : Parser (List ℕ × List ℕ)
path tokens =
    then_read (name tokens) (λ home. then_read (skip_mark mark.Dot home.1) (λ rest. then_read (name rest) (λ function.
    then_read (skip_mark mark.Open function.1) (λ rest. Some ((home.0, function.0), rest)))))

unfoldable pub line : Parser Line
line tokens =
    then_read (name tokens) (λ variable. then_read (skip_mark mark.Assign variable.1) (λ rest. then_read (path rest) (λ called.
    then_read (terms called.1) (λ args. then_read (closing args.1) (λ rest.
    Some (record { name = variable.0; of_module = called.0.0; function = called.0.1; args = args.0 }, rest))))))

-- ## The output

-- the call that comes next, if any, is that of this name of `sql`
abbrev pub goes_call : List ℕ → List MalToken → Bool
goes_call word tokens = is_word word (slice_get tokens 2)

-- sql "." name "("
unfoldable pub opening : List ℕ → Skip
opening word tokens =
    then_read (skip_word (codes "sql") tokens) (λ rest. then_read (skip_mark mark.Dot rest) (λ rest. then_read (skip_word word rest) (skip_mark mark.Open)))

-- a call with one part, which is optional
unfoldable pub optional : {X : Type 0} → List ℕ → Parser X → Parser (Option X)
optional word part tokens =
    if goes_call word tokens
    then then_read (opening word tokens) (λ rest. then_read (part rest) (λ found. then_read (closing found.1) (λ rest. Some (Some found.0, rest))))
    else Some (None, tokens)

-- `true` or `false`
unfoldable pub bit : Parser Bool
bit tokens = then_read (name tokens) (λ word. then_read (bit_named word.0) (λ found. Some (found, word.1)))

-- sql.order(digits, bit);
unfoldable pub key : Parser OrderKey
key tokens =
    then_read (opening (codes "order") tokens) (λ rest. then_read (digits rest) (λ place. then_read (skip_mark mark.Comma place.1) (λ rest.
    then_read (bit rest) (λ ascending. then_read (closing ascending.1) (λ rest. Some (record { place = place.0; ascending = ascending.0 }, rest))))))

-- ## Blocks

-- word user "." NAME
unfoldable pub named : List ℕ → Parser (List ℕ)
named word tokens =
    then_read (skip_word word tokens) (λ rest. then_read (skip_word (codes "user") rest) (λ rest. then_read (skip_mark mark.Dot rest) name))

-- "(" ")" ":" void ";"
unfoldable pub void : Skip
void tokens =
    then_read (skip_mark mark.Open tokens) (λ rest. then_read (skip_mark mark.Close rest) (λ rest. then_read (skip_mark mark.Colon rest) (λ rest.
    then_read (skip_word (codes "void") rest) (skip_mark mark.Semicolon))))

unfoldable pub header : Parser (List ℕ)
header tokens = then_read (named (codes "function") tokens) (λ found. then_read (void found.1) (λ rest. Some (found.0, rest)))

unfoldable pub lines : Parser (List Line)
lines tokens = repeated goes_line line (length tokens) [] tokens

unfoldable pub keys : Parser (List OrderKey)
keys tokens = repeated (goes_call (codes "order")) key (length tokens) [] tokens

-- no token is left
abbrev pub nothing_left : Skip
nothing_left [] = Some []
nothing_left (t ∷ tokens) = None

-- the end of a block of this name
unfoldable pub ending : List ℕ → Skip
ending word tokens =
    then_read (named (codes "end") tokens) (λ found. if bytes_eq found.0 word then then_read (skip_mark mark.Semicolon found.1) nothing_left else None)

-- a whole block
unfoldable pub block : Parser Block
block tokens =
    then_read (header tokens) (λ named. then_read (lines named.1) (λ ls. then_read (optional (codes "keep") term_of ls.1) (λ keep.
    then_read (keys keep.1) (λ order. then_read (optional (codes "limit") digits order.1) (λ limit. then_read (optional (codes "output") terms limit.1) (λ output.
    then_read (ending named.0 output.1) (λ rest.
    Some (record { name = named.0; lines = ls.0; keep = keep.0; order = order.0; limit = limit.0; output = output.0 }, rest))))))))
