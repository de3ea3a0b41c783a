use Rattle.std.proofs.Common.{◌≡◌, ◌++◌, length}
use Rattle.mal_print.specs.Canon as canon
use Rattle.mal_print.proofs.print.write_further.Given as goal

abbrev pub invariant-args-2 : goal.invariant-args-2
invariant-args-2 l = l.out.items ++ canon.further_text l.rest ≡ l.initial.out.items ++ canon.further_text l.args

abbrev pub decreases-args-2 : goal.decreases-args-2
decreases-args-2 l = length l.rest
