use Rattle.std.proofs.Common.{◌≡◌, ◌*◌}
use Rattle.chunk_core.specs.Filled.{oids_from}
use Rattle.bat_core.proofs.filled.oid_pile.Given as goal

abbrev pub invariant-loop-i : goal.invariant-loop-i
invariant-loop-i l = l.pile ≡ oids_from l.from (4096 * l.i)
