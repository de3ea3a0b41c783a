use Rattle.std.proofs.Common.{sym, ◌∙◌}
use Rattle.audit_read.specs.Bytes.{is_in}
use Rattle.audit_read.proofs.ByteLemmas.{stops_here}
use Rattle.audit_read.proofs.bytes.run_size.Goals as goal

pub returns-then-not-is_in-clause-value : goal.returns-then-not-is_in-clause-value
returns-then-not-is_in-clause-value c =
    sym (stops_here (is_in c.args.run) c.args.bytes.now c.bytes.size c.bytes-test.true _ c.bytes.invariant (sym c.is_in.ensures ∙ c.if-not-is_in.true))
