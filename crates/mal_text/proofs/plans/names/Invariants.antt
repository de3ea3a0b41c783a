use Rattle.std.proofs.Common.{◌≡◌, ◌++◌, length}
use Rattle.mal_text.specs.Plans as plans
use Rattle.mal_text.proofs.plans.names.Given as goal

-- the names so far and those of the rest are all
abbrev pub invariant-lines : goal.invariant-lines
invariant-lines l = record {
  told : plans.differ_from l.names.keys (plans.names_of l.rest) ≡ plans.are_distinct (plans.names_of l.lines);
  whole : l.names.keys ++ plans.names_of l.rest ≡ plans.names_of l.lines;
}

abbrev pub decreases-lines : goal.decreases-lines
decreases-lines l = length l.rest
