-- The lines of a printed log, and what is printed of each.
use Rattle.std.specs.Prelude.{◌≡◌, ℕ, ◌==◌, List, [], ◌∷◌, ◌++◌, length, flat_map, Contains, Bool, false, not, ◌&&◌, IsTrue, Option, codes, decimal}
use Rattle.std.specs.List.{list_all, enumerate_from}
use Rattle.sql_tree.specs.Bytes.{is_digit}
use Rattle.sql_tree.specs.Tree.{StmtTree}

-- ## Free numbers

-- a number whose value is free: digits without a 0 in front, of any length
abbrev pub is_number : List ℕ → Bool
is_number [] = false
is_number (d ∷ []) = is_digit d
is_number (d ∷ e ∷ ds) = is_digit d && not (d == 48) && list_all is_digit (e ∷ ds)

-- ## Looks and admissions

-- a form of line: a verb, a word after the instruction, and how many numbers are after the word
pub record Form : Type 0 where
  pub verb : List ℕ
  pub word : List ℕ
  pub numbers : ℕ

abbrev pub form_of : List ℕ → List ℕ → ℕ → Form
form_of verb word numbers = record { verb = verb; word = word; numbers = numbers }

-- the forms of looks and admissions
abbrev pub pool_forms : List Form
pool_forms =
    form_of (codes "look") (codes "exact") 1 ∷ form_of (codes "look") (codes "within") 1 ∷ form_of (codes "look") (codes "across") 1 ∷ form_of (codes "look") (codes "miss") 0
    ∷ form_of (codes "admit") (codes "taken") 3 ∷ form_of (codes "admit") (codes "there") 1 ∷ form_of (codes "admit") (codes "stale") 1
    ∷ form_of (codes "admit") (codes "orphan") 1 ∷ form_of (codes "admit") (codes "nocredit") 1 ∷ form_of (codes "admit") (codes "noroom") 1 ∷ []

-- ## Lines

-- what a line says that its statement did. A write's statement, if its text reads as one, isn't printed
pub data LineAct : Type 0 where
  Begins : ℕ → LineAct
  -- a look or an admission: its form, the digits of its instruction, and those of each number after the word
  Pools : Form → List ℕ → List (List ℕ) → LineAct
  Writes : Option StmtTree → ℕ → ℕ → LineAct
  Ends : ℕ → LineAct

-- a line of a log
pub record Line : Type 0 where
  pub session : ℕ
  pub statement : ℕ
  pub act : LineAct

-- a look or an admission, in one of the forms and with free numbers
abbrev pub IsPool : LineAct → Type 0
IsPool (Pools form instr numbers) = Contains pool_forms form × IsTrue (is_number instr && list_all is_number numbers) × (length numbers ≡ form.numbers)
IsPool _ = ⊥

-- ## What is printed

abbrev pub act_text : LineAct → List ℕ
act_text (Begins code) = codes "begin " ++ decimal code
act_text (Pools form instr numbers) = form.verb ++ codes " " ++ instr ++ codes " " ++ form.word ++ flat_map (λ digits. 32 ∷ digits) numbers
act_text (Writes statement code count) = codes "write " ++ decimal code ++ codes " " ++ decimal count
act_text (Ends code) = codes "end " ++ decimal code

-- line i of a log
abbrev pub line_text : ℕ → Line → List ℕ
line_text i line = decimal i ++ codes " " ++ decimal line.session ++ codes " " ++ decimal line.statement ++ codes " " ++ act_text line.act ++ codes "\n"

-- lines from number i on
abbrev pub lines_text : ℕ → List Line → List ℕ
lines_text i lines = flat_map (λ (k, line). line_text k line) (enumerate_from i lines)

-- the log: the number of its lines, and the lines
abbrev pub log_part : List Line → List ℕ
log_part lines = codes "log " ++ decimal (length lines) ++ codes "\n" ++ lines_text 1 lines
