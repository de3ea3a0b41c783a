-- The schedule in a text: each line is the number of one session.
use Rattle.std.specs.Prelude.{◌≡◌, ℕ, ◌+◌, ◌==◌, List, [], ◌∷◌, length, Bool, false, not, ◌&&◌, nat_le, if◌then◌else◌, Option, Some, None}
use Rattle.std.specs.List.{list_all, slice_split}
use Rattle.std.specs.Str.Parse.{digits_value}
use Rattle.text_bytes.specs.Classes.{is_digit}
use Rattle.turn_lines.specs.declared.turns.ScheduleError.{ScheduleError}
use Rattle.turn_lines.specs.declared.turns.ScheduleError.TheVariants.{BadLine, Memory}

abbrev pub Text : Type 0
Text = List ℕ

-- ## Lines

-- the lines among the parts between LFs: after a last LF there is no further line
abbrev pub lines_among : List Text → List Text
lines_among [] = []
lines_among (last ∷ []) = if length last == 0 then [] else last ∷ []
lines_among (line ∷ part ∷ parts) = line ∷ lines_among (part ∷ parts)

-- the lines of a text, cut at LF
abbrev pub lines_of : Text → List Text
lines_of text = lines_among (slice_split (λ b. b == 10) text)

-- ## Turns

-- decimal digits, the first of which isn't 0
abbrev pub is_plain : Text → Bool
is_plain [] = false
is_plain (digit ∷ digits) = not (digit == 48) && list_all is_digit (digit ∷ digits)

-- the session that a line numbers, if it numbers one from 1 to `sessions`
abbrev pub turn_in : ℕ → Text → Option ℕ
turn_in sessions line =
    if is_plain line && (nat_le 1 (digits_value 10 line) && nat_le (digits_value 10 line) sessions) then Some (digits_value 10 line) else None

-- ## The schedule

-- the numbers of the sessions in turn, or the number of the first line that numbers none
pub data Schedule : Type 0 where
  Turns : List ℕ → Schedule
  Bad : ℕ → Schedule

-- a turn before those of a schedule
abbrev pub and_more : ℕ → Schedule → Schedule
and_more turn (Turns turns) = Turns (turn ∷ turns)
and_more turn (Bad number) = Bad number

-- the line with this number, whose turn is known, before a schedule
abbrev pub line_before : ℕ → Option ℕ → Schedule → Schedule
line_before number None more = Bad number
line_before number (Some turn) more = and_more turn more

-- the schedule of lines, the first of which has this number
abbrev pub schedule_from : ℕ → ℕ → List Text → Schedule
schedule_from sessions number [] = Turns []
schedule_from sessions number (line ∷ lines) = line_before number (turn_in sessions line) (schedule_from sessions (number + 1) lines)

-- the schedule of a text, whose lines are counted from 1
abbrev pub schedule_of : ℕ → Text → Schedule
schedule_of sessions text = schedule_from sessions 1 (lines_of text)

-- ## What is promised

-- the error is the first bad line, or that memory ran out
abbrev pub TellsBadLine : ℕ → Text → ScheduleError → Type 0
TellsBadLine sessions text (BadLine number) = schedule_of sessions text ≡ Bad number
TellsBadLine sessions text Memory = Unit {0}
