use Rattle.std.proofs.Common.{sym, ◌∙◌}
use Rattle.std.proofs.lemmas.Result.{IfOk-weaker}
use Rattle.sql_tree.specs.Tree.{cond_tree}
use Rattle.rows_to_mal.proofs.LentLemmas.{ranged_is}
use Rattle.rows_to_mal.proofs.StepLemmas.{range_first, other_first}
use Rattle.rows_to_mal.proofs.tables.Tables.first_candidates.Goals as goal

pub returns-then-is_range : goal.returns-then-is_range
returns-then-is_range c = IfOk-weaker c.mirrored.result _ _
    (λ number e at more is. range_first c.args.source.now c.args.place at.1 more c.args.instrs.now c.mirrored.new.instrs number (sym (ranged_is c.args.self.now.called (cond_tree c.args.cond.now) at is) ∙ sym c.is_range.ensures ∙ c.if-is_range.true) (e at is))
    c.mirrored.ensures

pub returns-in_ok-all : goal.returns-in_ok-all
returns-in_ok-all c = IfOk-weaker c.semijoin.result _ _
    (λ number e at more is. other_first c.args.source.now c.args.place at.1 more c.args.instrs.now c.all_rows.new.instrs c.semijoin.new.instrs c.in_ok-all.all number (sym (ranged_is c.args.self.now.called (cond_tree c.args.cond.now) at is) ∙ sym c.is_range.ensures ∙ c.if-is_range.false) c.in_ok-all.ensures (e at is))
    c.semijoin.ensures
