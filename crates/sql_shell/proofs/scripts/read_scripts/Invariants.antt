use Rattle.std.proofs.Common.{◌≡◌, ℕ, List, take}
use Rattle.sql_shell.specs.Scripts.{AreCut}
use Rattle.sql_shell.proofs.scripts.read_scripts.Given as goal

-- the files so far are read; the known bytes of each and the count of faults stay
abbrev pub invariant-files : goal.invariant-files
invariant-files g l =
    AreCut (g.S.Scripts.bytes_of l.fn.source) (take l.i l.names) l.read.items
    × ((other : List ℕ) → g.S.Scripts.bytes_of l.source other ≡ g.S.Scripts.bytes_of l.fn.source other)
    × (g.S.Scripts.faults l.source ≡ g.S.Scripts.faults l.fn.source)
