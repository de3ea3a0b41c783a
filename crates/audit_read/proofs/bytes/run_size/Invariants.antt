use Rattle.std.proofs.Common.{◌≡◌, ◌+◌, drop}
use Rattle.std.specs.List.{prefix_len}
use Rattle.audit_read.specs.Bytes.{is_in}
use Rattle.audit_read.proofs.bytes.run_size.Given as goal

abbrev pub invariant-bytes : goal.invariant-bytes
invariant-bytes l = prefix_len (is_in l.run) l.bytes ≡ l.size + prefix_len (is_in l.run) (drop l.size l.bytes)
