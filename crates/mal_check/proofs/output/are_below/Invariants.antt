use Rattle.std.proofs.Common.{◌≡◌, length}
use Rattle.mal_check.specs.Checked as checked
use Rattle.mal_check.proofs.output.are_below.Given as goal

-- all are below exactly where the rest is
abbrev pub invariant-keys : goal.invariant-keys
invariant-keys l = checked.are_below l.count l.rest ≡ checked.are_below l.count l.order

abbrev pub decreases-keys : goal.decreases-keys
decreases-keys l = length l.rest
