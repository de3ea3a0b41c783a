use Rattle.std.proofs.Common.{◌≡◌, ◌*◌}
use Rattle.std.specs.Prelude.{replicate}
use Rattle.bat_core.proofs.filled.repeated_pile.Given as goal

abbrev pub invariant-loop : goal.invariant-loop
invariant-loop l = l.pile ≡ replicate (4096 * l.counter) l.cell
