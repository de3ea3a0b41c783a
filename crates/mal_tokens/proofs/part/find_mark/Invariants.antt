use Rattle.std.proofs.Common.{◌≡◌, length}
use Rattle.mal_tokens.specs.Bytes as reader
use Rattle.mal_tokens.proofs.part.find_mark.Given as goal

abbrev pub invariant-marks : goal.invariant-marks
invariant-marks l = reader.first_mark l.byte l.rest ≡ reader.first_mark l.fn.byte l.fn.marks

abbrev pub decreases-marks : goal.decreases-marks
decreases-marks l = length l.rest
