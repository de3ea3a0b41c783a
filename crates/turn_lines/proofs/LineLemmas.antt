-- Lines are taken off the front of a text.
use Rattle.std.proofs.Common.{◌≡◌, ◌∙◌, ℕ, ◌<◌, ◌==◌, List, [], ◌∷◌, length, false, Bool, ap, refl, arith}
use Rattle.std.specs.List.{All, before_first, after_first, position_or_len, slice_split}
use Rattle.std.proofs.lemmas.Bool.Decides.{nat_tests}
use Rattle.std.proofs.lemmas.List.Splits.{slice_split_first, slice_split_none, length-slice_split}
use Rattle.std.proofs.lemmas.List.Sums.{fails_before_first}
use Rattle.turn_lines.specs.Schedule.{Text, lines_among, lines_of}

abbrev is_end : ℕ → Bool
is_end b = b == 10

one_before : (line : Text) (parts : List Text) → 0 < length parts → lines_among (line ∷ parts) ≡ line ∷ lines_among parts
one_before line [] some = absurd (omega arith)
one_before line (part ∷ parts) some = refl

-- a line that an LF ends
pub ended_line : (text : Text) → position_or_len is_end text < length text → lines_of text ≡ before_first is_end text ∷ lines_of (after_first is_end text)
ended_line text ends =
    let behind = after_first is_end text in
    let some : 0 < length (slice_split is_end behind) = omega (arith, length-slice_split is_end behind) in
    ap lines_among (slice_split_first is_end text 0 ends) ∙ one_before (before_first is_end text) (slice_split is_end behind) some

-- the last line, which no LF ends
pub last_line : (text : Text) → position_or_len is_end text ≡ length text → 0 < length text → lines_of text ≡ text ∷ []
last_line text whole some =
    let none : All (λ b. is_end b ≡ false) text = λ k d within. fails_before_first is_end text k d (omega arith) in
    ap lines_among (slice_split_none is_end text none) ∙ alone text some
  where
    alone : (text : Text) → 0 < length text → lines_among (text ∷ []) ≡ text ∷ []
    alone text some = let full : (length text == 0) ≡ false = grind (arith, nat_tests) in rw full
