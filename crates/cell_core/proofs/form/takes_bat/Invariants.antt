use Rattle.std.proofs.Common.{◌≡◌, length}
use Rattle.std.specs.List.{list_any}
use Rattle.cell_core.specs.Forms.{is_bat}
use Rattle.cell_core.proofs.form.takes_bat.Given as goal

-- the answer for the rest is the answer for all
abbrev pub invariant-args-2 : goal.invariant-args-2
invariant-args-2 l = list_any (is_bat l.bats) l.rest ≡ list_any (is_bat l.bats) l.args

abbrev pub decreases-args-2 : goal.decreases-args-2
decreases-args-2 l = length l.rest
