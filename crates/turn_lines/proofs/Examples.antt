-- Worked schedules.
use Rattle.std.proofs.Common.{◌≡◌, [], ◌∷◌, codes, refl}
use Rattle.turn_lines.specs.Schedule.{Turns, Bad, lines_of, schedule_of}

no_line : lines_of [] ≡ []
no_line = refl

empty_line : lines_of (codes "\n") ≡ [] ∷ []
empty_line = refl

-- a last LF ends the last line, and a last line needs none
ended : lines_of (codes "1\n2\n") ≡ codes "1" ∷ codes "2" ∷ []
ended = refl

unended : lines_of (codes "1\n2") ≡ codes "1" ∷ codes "2" ∷ []
unended = refl

no_turn : schedule_of 2 [] ≡ Turns []
no_turn = refl

in_turn : schedule_of 16 (codes "16\n2\n10\n") ≡ Turns (16 ∷ 2 ∷ 10 ∷ [])
in_turn = refl

leading_zero : schedule_of 2 (codes "01") ≡ Bad 1
leading_zero = refl

-- the first of two bad lines
two_bad_lines : schedule_of 2 (codes "1\n3\n\n") ≡ Bad 2
two_bad_lines = refl

blank_line : schedule_of 2 (codes "1\n\n") ≡ Bad 2
blank_line = refl

carriage_return : schedule_of 2 (codes "1\r\n") ≡ Bad 1
carriage_return = refl

sign : schedule_of 2 (codes "+1") ≡ Bad 1
sign = refl
