-- The bytes of replies, rows and accepted changes.
use Rattle.std.specs.Prelude.{ℕ, ◌==◌, List, [], ◌∷◌, ◌++◌, length, map, filter, flat_map, Bool, ◌||◌, if◌then◌else◌, Option, Some, None, codes, decimal}
use Rattle.std.specs.List.{list_any, enumerate_from, zip}
use Rattle.cell_core.specs.declared.cell.Cell.{Cell}
use Rattle.cell_core.specs.CellText.{cell_text}
use Rattle.sql_print.specs.Canon.{canonical}
use Rattle.sql_tree.specs.Tree.{StmtTree}
use Rattle.sql_definitions.specs.Refusals.{refusal_number, refusal_words}
use Rattle.reply_layout.specs.declared.shown.Shown.{Shown}
use Rattle.reply_layout.specs.declared.shown.Shown.TheVariants as shown

-- ## Records

-- a comma, a quote, CR or LF: a field with one of these is quoted
abbrev pub is_special : ℕ → Bool
is_special b = (b == 44) || (b == 34) || (b == 13) || (b == 10)

abbrev pub field_byte : ℕ → List ℕ
field_byte b = if b == 34 then 34 ∷ 34 ∷ [] else b ∷ []

abbrev pub field_text : List ℕ → List ℕ
field_text field = if list_any is_special field then 34 ∷ flat_map field_byte field ++ 34 ∷ [] else field

-- fields with commas between them
abbrev pub fields_text : List (List ℕ) → List ℕ
fields_text [] = []
fields_text (field ∷ fields) = field_text field ++ flat_map (λ more. 44 ∷ field_text more) fields

-- a record without a byte is two quotes
abbrev pub quoted_if_empty : List ℕ → List ℕ
quoted_if_empty [] = 34 ∷ 34 ∷ []
quoted_if_empty (b ∷ bs) = b ∷ bs

-- a record of comma separated values, with its LF
abbrev pub record_text : List (List ℕ) → List ℕ
record_text fields = quoted_if_empty (fields_text fields) ++ 10 ∷ []

-- an answered row
abbrev pub row_record : List Cell → List ℕ
row_record row = record_text (map cell_text row)

-- ## Replies

-- the number of lines of a text, each of which ends with LF
abbrev pub line_count : List ℕ → ℕ
line_count text = length (filter (λ b. b == 10) text)

-- the reply to statement k
abbrev pub reply_text : ℕ → Shown → List ℕ
reply_text k shown.Done = decimal k ++ codes " ok\n"
reply_text k (shown.Count n) = decimal k ++ codes " ok " ++ decimal n ++ codes "\n"
reply_text k (shown.Rows rows) = decimal k ++ codes " rows " ++ decimal (length rows) ++ codes "\n" ++ flat_map row_record rows
reply_text k (shown.Mal text) = decimal k ++ codes " plan " ++ decimal (line_count text) ++ codes "\n" ++ text
reply_text k (shown.Refused refusal) = decimal k ++ codes " refused " ++ decimal (refusal_number refusal) ++ codes " " ++ refusal_words refusal ++ codes "\n"

-- the line of a session
abbrev pub session_line : ℕ → List ℕ → List ℕ
session_line session name = codes "session " ++ decimal session ++ codes " " ++ name ++ codes "\n"

-- ## History

-- an accepted change, with its session and its statement's number
pub record Change : Type 0 where
  pub session : ℕ
  pub statement : ℕ
  pub text : List ℕ

abbrev pub change_from : ℕ → ℕ → Option StmtTree → Option Change
change_from session statement None = None
change_from session statement (Some stmt) = Some (record { session = session; statement = statement; text = canonical stmt })

abbrev pub change_line : ℕ → Change → List ℕ
change_line i change = decimal i ++ codes " " ++ decimal change.session ++ codes " " ++ decimal change.statement ++ codes " " ++ change.text ++ codes ";\n"

-- the history: the number of accepted changes, and a line for each
abbrev pub history_of : List Change → List ℕ
history_of changes = codes "history " ++ decimal (length changes) ++ codes "\n" ++ flat_map (λ (i, change). change_line i change) (enumerate_from 1 changes)

-- ## Sessions

-- the replies of a session, where `shows` is the reply by a statement's number and its reading
abbrev pub replies_by : {R : Type 0} → (ℕ → R → Shown) → List R → List ℕ
replies_by shows readings = flat_map (λ (k, reading). reply_text k (shows k reading)) (enumerate_from 1 readings)

-- a session under the name of its file, where `shows` is the reply of each statement
abbrev pub session_by : {R : Type 0} → (ℕ → ℕ → R → Shown) → ℕ → List ℕ → List R → List ℕ
session_by shows session name readings = session_line session name ++ replies_by (shows session) readings

-- all sessions
abbrev pub sessions_by : {R : Type 0} → (ℕ → ℕ → R → Shown) → List (List ℕ) → List (List R) → List ℕ
sessions_by shows names scripts = flat_map (λ (s, script). session_by shows s script.0 script.1) (enumerate_from 1 (zip names scripts))

-- ## The pool

-- the line of a total
abbrev pub named_line : List ℕ → ℕ → List ℕ
named_line name n = name ++ codes " " ++ decimal n ++ codes "\n"
