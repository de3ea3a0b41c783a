use Rattle.std.proofs.Common.{◌≡◌, ◌++◌, [], length}
use Rattle.mal_print.specs.Canon as canon
use Rattle.mal_print.proofs.print.write_lines.Given as goal

abbrev pub invariant-lines : goal.invariant-lines
invariant-lines l = l.out.items ++ canon.lines_text l.bats.items l.rest ≡ l.initial.out.items ++ canon.lines_text [] l.instrs

abbrev pub decreases-lines : goal.decreases-lines
decreases-lines l = length l.rest
