-- The grammar of blocks: how a block, as plain data, is written in tokens before what follows it.
use Rattle.std.specs.Prelude.{ℕ, List, [], ◌∷◌, Bool, true, false, codes, Option, Some, None}
use Rattle.mal_text.specs.declared.block.Block.{Block}
use Rattle.mal_text.specs.declared.block.OrderKey.{OrderKey}
use Rattle.mal_text.specs.declared.block.Line.{Line}
use Rattle.mal_text.specs.declared.block.Term.{Term}
use Rattle.mal_text.specs.declared.block.Term.TheVariants as term
use Rattle.mal_tokens.specs.Tokens.{bit_word}
use Rattle.mal_tokens.specs.declared.token.Mark.TheVariants as mark
use Rattle.mal_tokens.specs.declared.token.MalToken.{MalToken}
use Rattle.mal_tokens.specs.declared.token.MalToken.TheVariants.{Name, Digits, Text, Mark}

-- things one after the other
abbrev pub write_each : {X : Type 0} → (X → List MalToken → List MalToken) → List X → List MalToken → List MalToken
write_each write [] rest = rest
write_each write (x ∷ xs) rest = write x (write_each write xs rest)

-- ## Arguments

-- ["-"]
abbrev pub write_sign : Bool → List MalToken → List MalToken
write_sign true rest = Mark mark.Minus ∷ rest
write_sign false rest = rest

-- word | text | text ":" date | ["-"] digits | ["-"] digits ":" hge | digits "@" 0
abbrev pub write_term : Term → List MalToken → List MalToken
write_term (term.Name word) rest = Name word ∷ rest
write_term (term.Text text) rest = Text text ∷ rest
write_term (term.Date text) rest = Text text ∷ Mark mark.Colon ∷ Name (codes "date") ∷ rest
write_term (term.Int negative digits) rest = write_sign negative (Digits digits ∷ rest)
write_term (term.Huge negative digits) rest = write_sign negative (Digits digits ∷ Mark mark.Colon ∷ Name (codes "hge") ∷ rest)
write_term (term.Oid digits) rest = Digits digits ∷ Mark mark.At ∷ Digits (codes "0") ∷ rest

-- an argument after a comma
abbrev pub write_further : Term → List MalToken → List MalToken
write_further t rest = Mark mark.Comma ∷ write_term t rest

-- arguments with commas between them, or none
abbrev pub write_terms : List Term → List MalToken → List MalToken
write_terms [] rest = rest
write_terms (t ∷ ts) rest = write_term t (write_each write_further ts rest)

-- ")" ";"
abbrev pub write_closing : List MalToken → List MalToken
write_closing rest = Mark mark.Close ∷ Mark mark.Semicolon ∷ rest

-- ## Instructions and the output

-- VAR ":=" module "." function "(" arguments ")" ";"
abbrev pub write_line : Line → List MalToken → List MalToken
write_line l rest = Name l.name ∷ Mark mark.Assign ∷ Name l.of_module ∷ Mark mark.Dot ∷ Name l.function ∷ Mark mark.Open ∷ write_terms l.args (write_closing rest)

-- sql "." name "("
abbrev pub write_call : List ℕ → List MalToken → List MalToken
write_call name rest = Name (codes "sql") ∷ Mark mark.Dot ∷ Name name ∷ Mark mark.Open ∷ rest

-- [sql.keep(argument);]
abbrev pub write_keep : Option Term → List MalToken → List MalToken
write_keep None rest = rest
write_keep (Some t) rest = write_call (codes "keep") (write_term t (write_closing rest))

-- sql.order(digits, bit);
abbrev pub write_key : OrderKey → List MalToken → List MalToken
write_key k rest = write_call (codes "order") (Digits k.place ∷ Mark mark.Comma ∷ Name (bit_word k.ascending) ∷ write_closing rest)

-- [sql.limit(digits);]
abbrev pub write_limit : Option (List ℕ) → List MalToken → List MalToken
write_limit None rest = rest
write_limit (Some digits) rest = write_call (codes "limit") (Digits digits ∷ write_closing rest)

-- [sql.output(arguments);]
abbrev pub write_output : Option (List Term) → List MalToken → List MalToken
write_output None rest = rest
write_output (Some ts) rest = write_call (codes "output") (write_terms ts (write_closing rest))

-- ## Blocks

-- word user "." NAME
abbrev pub write_named : List ℕ → List ℕ → List MalToken → List MalToken
write_named word name rest = Name word ∷ Name (codes "user") ∷ Mark mark.Dot ∷ Name name ∷ rest

-- "(" ")" ":" void ";"
abbrev pub write_void : List MalToken → List MalToken
write_void rest = Mark mark.Open ∷ Mark mark.Close ∷ Mark mark.Colon ∷ Name (codes "void") ∷ Mark mark.Semicolon ∷ rest

-- the output of a block, before its end
abbrev pub write_out : Block → List MalToken → List MalToken
write_out b rest = write_keep b.keep (write_each write_key b.order (write_limit b.limit (write_output b.output rest)))

-- function user.NAME():void; the instructions, the output, end user.NAME;
abbrev pub write_block : Block → List MalToken
write_block b =
    write_named (codes "function") b.name (write_void
    (write_each write_line b.lines (write_out b
    (write_named (codes "end") b.name (Mark mark.Semicolon ∷ [])))))
