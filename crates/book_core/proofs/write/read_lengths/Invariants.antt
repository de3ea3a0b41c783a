use Rattle.std.proofs.Common.{◌<◌, ◌^◌, length}
use Rattle.std.specs.List.{AllByRecursion}
use Rattle.book_core.proofs.write.read_lengths.Given as goal

-- where what is left is short, all are
abbrev pub invariant-entries : goal.invariant-entries
invariant-entries l = AllByRecursion (λ e. length e.value < 2 ^ 62) l.rest → AllByRecursion (λ e. length e.value < 2 ^ 62) l.entries

abbrev pub decreases-entries : goal.decreases-entries
decreases-entries l = length l.rest
