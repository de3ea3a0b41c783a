use Rattle.std.proofs.Common.{◌≡◌, ℕ, Some, false, not, ◌&&◌, ap, ◌∙◌, subst}
use Rattle.std.specs.Prelude.{◌==◌, if◌then◌else◌, is_some}
use Rattle.std.specs.Option.{option_map_or}
use Rattle.pool_index.specs.Named.{id_under}
use Rattle.pool_policy.specs.Keyed.{entry_of_id}
use Rattle.recycle_pool.proofs.Prints.{both_sure, named_more}
use Rattle.recycle_pool.proofs.keys.Keys.put.Goals as goal

pub returns-clause-named : goal.returns-clause-named
returns-clause-named c =
    named_more c.args.self.now (record { prints = c.put.new.self; is_sure = c.stays_sure-self.result }) c.args.entries.now c.args.entry.now
    (subst (λ n. (other : ℕ) → id_under c.put.new.self other ≡ (if n == other then Some c.args.entry.now.id else id_under c.args.self.now.prints other)) c.print_of-print.ensures c.put.ensures.names)
    (both_sure c.args.self.now.is_sure _ c.stays_sure-self.result
    (c.stays_sure-self.ensures ∙ ap (λ n. c.args.self.now.is_sure && not (option_map_or (λ id. is_some (entry_of_id id c.args.entries.now)) (id_under c.args.self.now.prints n) false)) c.print_of-print.ensures))
