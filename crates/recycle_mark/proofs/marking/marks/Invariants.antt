use Rattle.std.proofs.Common.{◌≡◌, length}
use Rattle.recycle_mark.specs.Marks.{marks_from, marks_of}
use Rattle.recycle_mark.proofs.marking.marks.Given as goal

-- the marks of the rest, after those so far, are the marks of all
abbrev pub invariant-instrs : goal.invariant-instrs
invariant-instrs l = marks_from l.bats l.marks l.rest ≡ marks_of l.plan

abbrev pub decreases-instrs : goal.decreases-instrs
decreases-instrs l = length l.rest
