use Rattle.std.proofs.Common.{◌≡◌}
use Rattle.cell_core.specs.Same.{same_cell}
use Rattle.chunk_core.specs.Filled.{oids_from}
use Rattle.bat_group.specs.Numbers.{AreNumbered}
use Rattle.bat_group.proofs.firsts.numbered_oids.Given as goal

-- the oids so far are numbered by themselves
abbrev pub invariant-loop-oid : goal.invariant-loop-oid
invariant-loop-oid l = (l.met ≡ l.oid) × AreNumbered same_cell l.numbers l.oid (oids_from 0 l.oid)
