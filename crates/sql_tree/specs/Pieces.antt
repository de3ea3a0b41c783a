-- The pieces of a script, between those `;` that are outside strings, quoted names and comments.
use Rattle.std.specs.Prelude.{ℕ, ◌==◌, List, [], ◌∷◌, filter, Bool, true, false, not, ◌&&◌, ◌||◌, if◌then◌else◌}
use Rattle.sql_tree.specs.Bytes.{is_blank, begins_with}
use Rattle.sql_tree.specs.declared.inside.Inside.{Inside}
use Rattle.sql_tree.specs.declared.inside.Inside.TheVariants.{Outside, InText, InName, InLine, OpensBlock, InBlock, ClosesBlock}

-- where a text is after a byte outside all of them: `'` (39) opens a string, `"` (34) a quoted
-- name, `--` (45 twice) a comment to the end of the line, and `/*` (47 and 42) one to the next `*/`
abbrev pub opened : ℕ → List ℕ → Inside
opened b bs =
    if b == 39 then InText else (if b == 34 then InName
    else (if (b == 45) && begins_with 45 bs then InLine else (if (b == 47) && begins_with 42 bs then OpensBlock else Outside)))

-- where a text is after a byte; a doubled quote closes and opens again
abbrev pub next_inside : Inside → ℕ → List ℕ → Inside
next_inside Outside b bs = opened b bs
next_inside InText b bs = if b == 39 then Outside else InText
next_inside InName b bs = if b == 34 then Outside else InName
next_inside InLine b bs = if b == 10 then Outside else InLine
next_inside OpensBlock b bs = InBlock
next_inside InBlock b bs = if (b == 42) && begins_with 47 bs then ClosesBlock else InBlock
next_inside ClosesBlock b bs = Outside

-- a `;` (59) ends a piece where it is outside
abbrev pub ends_piece : Inside → ℕ → Bool
ends_piece Outside b = b == 59
ends_piece other b = false

-- the first run goes on with the byte
abbrev pub with_byte : ℕ → List (List ℕ) → List (List ℕ)
with_byte b [] = []
with_byte b (run ∷ runs) = (b ∷ run) ∷ runs

-- the runs of bytes between the `;` that end pieces
abbrev pub runs_of : Inside → List ℕ → List (List ℕ)
runs_of place [] = [] ∷ []
runs_of place (b ∷ bs) = if ends_piece place b then [] ∷ runs_of Outside bs else with_byte b (runs_of (next_inside place b bs) bs)

-- the byte begins a comment
abbrev pub begins_comment : ℕ → List ℕ → Bool
begins_comment b bs = ((b == 45) && begins_with 45 bs) || ((b == 47) && begins_with 42 bs)

-- the byte is no blank and in no comment
abbrev pub is_told : Inside → ℕ → List ℕ → Bool
is_told Outside b bs = not (is_blank b || begins_comment b bs)
is_told InText b bs = true
is_told InName b bs = true
is_told comment b bs = false

-- not all bytes are blanks and comments
abbrev pub says_something : Inside → List ℕ → Bool
says_something place [] = false
says_something place (b ∷ bs) = is_told place b bs || says_something (next_inside place b bs) bs

-- the most statements of a script
abbrev pub most_statements : ℕ
most_statements = 256

-- the pieces of a script: its runs, but for those of blanks and comments alone
abbrev pub pieces_of : List ℕ → List (List ℕ)
pieces_of script = filter (says_something Outside) (runs_of Outside script)
