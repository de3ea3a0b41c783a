use Rattle.std.proofs.Common.{◌++◌, ◌+◌, ◌-◌, ◌∷◌, [], Bool, List, ap, sym, ◌∙◌, arith, append_assoc}
use Rattle.store_changes.specs.Rewrites.{flags_from}
use Rattle.store_changes.proofs.FlagLemmas.{next_flag}
use Rattle.store_changes.proofs.flags.flags_of.Goals as goal

pub rows-preserved : goal.rows-preserved
rows-preserved c =
    let few = c.rows-test.true in (
      ap (λ (flags : List Bool). flags ++ flags_from (c.rows.at + 1) c.behind-rest.result.now (c.args.count - (c.rows.at + 1))) c.in_ok-push.ensures.items
          ∙ append_assoc c.rows.flags.items (c.is_first.result ∷ []) (flags_from (c.rows.at + 1) c.behind-rest.result.now (c.args.count - (c.rows.at + 1)))
          ∙ (λ i. c.rows.flags.items ++ c.is_first.ensures i ∷ flags_from (c.rows.at + 1) (c.behind-rest.ensures i) (c.args.count - (c.rows.at + 1)))
          ∙ ap (λ (flags : List Bool). c.rows.flags.items ++ flags) (sym (next_flag c.rows.at c.args.count c.rows.rest.now few))
          ∙ c.rows.invariant.0,
      omega (arith, few),
    )
