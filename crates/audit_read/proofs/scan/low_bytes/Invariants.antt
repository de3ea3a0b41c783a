use Rattle.std.proofs.Common.{◌≡◌, ◌∷◌, map, take}
use Rattle.sql_tree.specs.Bytes.{low}
use Rattle.audit_read.proofs.scan.low_bytes.Given as goal

abbrev pub invariant-bytes : goal.invariant-bytes
invariant-bytes l = l.low ≡ map low (l.first ∷ take l.byte-index l.more)
