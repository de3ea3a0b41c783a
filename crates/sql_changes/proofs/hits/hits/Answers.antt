use Rattle.std.proofs.Common.{sym, ◌∙◌}
use Rattle.std.specs.Option.{option_map}
use Rattle.sql_tree.specs.Tree.{cond_tree}
use Rattle.sql_changes.proofs.PlanLemmas.{no_hits}
use Rattle.sql_changes.proofs.hits.hits.Goals as goal

pub returns-then-branch : goal.returns-then-branch
returns-then-branch c =
    c.new-hits.ensures.items ∙ no_hits (option_map cond_tree c.args.cond.now) c.args.table.now (sym c.in_ok-cond_overflows.ensures ∙ c.if-branch.true)
