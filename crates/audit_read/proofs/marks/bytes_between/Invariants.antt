use Rattle.std.proofs.Common.{◌≡◌, ◌≤◌, ◌-◌, length, drop, false}
use Rattle.audit_read.specs.Marks.{found_after}
use Rattle.read_laws.specs.TokenReader.{quoted_at}
use Rattle.audit_read.proofs.marks.bytes_between.Given as goal

abbrev pub invariant-bytes : goal.invariant-bytes
invariant-bytes l = record {
  told : found_after l.bytes l.at (quoted_at l.mark false (drop l.at l.after)) ≡ quoted_at l.mark false l.after;
  within : l.at ≤ length l.after;
}

abbrev pub decreases-bytes : goal.decreases-bytes
decreases-bytes l = length l.after - l.at
