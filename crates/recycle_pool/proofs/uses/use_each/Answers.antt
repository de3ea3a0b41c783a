use Rattle.std.proofs.Common.{◌∙◌, ap, arith, sym, subst}
use Rattle.std.specs.Prelude.{if◌then◌else◌}
use Rattle.evict_admit.specs.Runs.{is_one_of}
use Rattle.pool_policy.specs.declared.entry.PoolEntry.{PoolEntry}
use Rattle.pool_policy.specs.Looks.{ids_used, used}
use Rattle.pool_entries.specs.Usable.{CanUse}
use Rattle.pool_entries.proofs.Changed.{one_more_changed, read_so_far}
use Rattle.pool_entries.proofs.Places.{all_read}
use Rattle.recycle_pool.specs.Answers.{told}
use Rattle.recycle_pool.proofs.uses.use_each.Goals as goal

pub use_if-requires : goal.use_if-requires
use_if-requires c =
    let change : PoolEntry → PoolEntry = λ e. if is_one_of (ids_used (told c.args.found.now c.args.parts.now)) e.id then used c.args.who c.args.now e else e in
    subst CanUse (sym (c.index_mut.ensures.value ∙ read_so_far change c.args.entries.now.items c.entries.entries.items c.entries.i c.index_mut.result.now c.entries.invariant.0))
    (all_read CanUse c.args.entries.now.items c.entries.i c.index_mut.result.now c.requires (omega (arith, c.entries-test.true, c.len-i-end.ensures, c.args.entries.now.ok.0)))

pub entries-preserved : goal.entries-preserved
entries-preserved c =
    let change : PoolEntry → PoolEntry = λ e. if is_one_of (ids_used (told c.args.found.now c.args.parts.now)) e.id then used c.args.who c.args.now e else e in (
      one_more_changed change c.args.entries.now.items c.entries.entries.items c.entries.i c.index_mut.result.now c.use_if.new.entry
          (omega (arith, c.entries-test.true, c.len-i-end.ensures, c.args.entries.now.ok.0)) c.entries.invariant.0 (c.use_if.ensures ∙ ap change c.index_mut.ensures.value),
      c.entries.invariant.1,
    )
