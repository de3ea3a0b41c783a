use Rattle.std.proofs.Common.{◌≡◌, drop}
use Rattle.read_laws.specs.TokenReader.{block_length}
use Rattle.audit_read.proofs.marks.block.Given as goal

abbrev pub invariant-bytes : goal.invariant-bytes
invariant-bytes l = block_length l.at (drop l.at l.inside) ≡ block_length 0 l.inside
