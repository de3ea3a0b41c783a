-- Turns that are read one after another.
use Rattle.std.proofs.Common.{◌≡◌, ◌∙◌, ℕ, ◌+◌, ◌≤◌, List, [], ◌∷◌, ◌++◌, Bool, true, ◌&&◌, nat_le, if◌then◌else◌, Option, Some, None, IfSome, ap, refl, subst, length, arith}
use Rattle.std.proofs.lemmas.List.{append-nil}
use Rattle.std.specs.List.{AllByRecursion}
use Rattle.std.specs.Str.Parse.{digits_value}
use Rattle.std.proofs.lemmas.Bool.{leb-true}
use Rattle.turn_lines.specs.Schedule.{Schedule, Text, Turns, Bad, is_plain, line_before, lines_of, schedule_from, schedule_of, turn_in}

-- turns before those of a schedule
abbrev pub behind : List ℕ → Schedule → Schedule
behind read (Turns turns) = Turns (read ++ turns)
behind read (Bad number) = Bad number

-- where no line is left, all are read
pub all_read : (sessions number : ℕ) (text rest : Text) (read : List ℕ) → schedule_of sessions text ≡ behind read (schedule_from sessions number (lines_of rest)) → length rest ≡ 0
    → schedule_of sessions text ≡ Turns read
all_read sessions number text [] read is none = is ∙ ap Turns (append-nil read)
all_read sessions number text (b ∷ rest) read is none = absurd (omega arith)

-- the turn is one of this many sessions
abbrev pub IsTurn : ℕ → ℕ → Type 0
IsTurn sessions turn = (1 ≤ turn) × (turn ≤ sessions)

-- a line that numbers a session numbers one of this many
turn_within : (sessions : ℕ) (line : Text) → IfSome (turn_in sessions line) (IsTurn sessions)
turn_within sessions line = by (is_plain line) (nat_le 1 value) (nat_le value sessions) refl refl
  where
    value : ℕ
    value = digits_value 10 line

    by : (plain some few : Bool) → nat_le 1 value ≡ some → nat_le value sessions ≡ few → IfSome (if plain && (some && few) then Some value else None) (IsTurn sessions)
    by true true true some few = (leb-true 1 value some, leb-true value sessions few)
    by _ _ _ some few = tt

-- the turns of a schedule are turns of the sessions
pub turns_within : (sessions number : ℕ) (lines : List Text) (turns : List ℕ) → schedule_from sessions number lines ≡ Turns turns → AllByRecursion (IsTurn sessions) turns
turns_within sessions number [] turns is = let none : [] ≡ turns = cc in subst (AllByRecursion (IsTurn sessions)) none tt
turns_within sessions number (line ∷ lines) turns is =
    by (turn_in sessions line) (schedule_from sessions (number + 1) lines) (turn_within sessions line) (turns_within sessions (number + 1) lines) is
  where
    by : (turn : Option ℕ) (more : Schedule) → IfSome turn (IsTurn sessions) → ((rest : List ℕ) → more ≡ Turns rest → AllByRecursion (IsTurn sessions) rest)
        → line_before number turn more ≡ Turns turns → AllByRecursion (IsTurn sessions) turns
    by None more here behind is = absurd (cc)
    by (Some turn) (Bad bad) here behind is = absurd (cc)
    by (Some turn) (Turns rest) here behind is = let all : turn ∷ rest ≡ turns = cc in subst (AllByRecursion (IsTurn sessions)) all (here, behind rest refl)
