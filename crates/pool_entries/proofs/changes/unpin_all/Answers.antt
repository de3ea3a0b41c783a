use Rattle.std.proofs.Common.{◌∙◌, ap, arith}
use Rattle.pool_policy.specs.Admits.{unpinned}
use Rattle.pool_entries.proofs.Changed.{one_more_changed}
use Rattle.pool_entries.proofs.changes.unpin_all.Goals as goal

pub entries-preserved : goal.entries-preserved
entries-preserved c = (
  one_more_changed (unpinned c.args.session) c.args.entries.now.items c.entries.entries.items c.entries.i c.index_mut.result.now c.unpin.new.self
      (omega (arith, c.entries-test.true, c.len-i-end.ensures, c.args.entries.now.ok.0)) c.entries.invariant.0 (c.unpin.ensures ∙ ap (unpinned c.args.session) c.index_mut.ensures.value),
  c.entries.invariant.1,
)
