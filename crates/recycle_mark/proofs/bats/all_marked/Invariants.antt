use Rattle.std.proofs.Common.{◌≡◌, length}
use Rattle.std.specs.List.{list_all}
use Rattle.recycle_mark.specs.Marks as marks
use Rattle.recycle_mark.proofs.bats.all_marked.Given as goal

-- the answer for the rest is the answer for all
abbrev pub invariant-args-2 : goal.invariant-args-2
invariant-args-2 l = list_all (marks.is_marked l.marked) l.rest ≡ list_all (marks.is_marked l.marked) l.args

abbrev pub decreases-args-2 : goal.decreases-args-2
decreases-args-2 l = length l.rest
