use Rattle.std.proofs.Common.{ap, sym, ◌∙◌, ◌-◌, ◌+◌}
use Rattle.sql_tree.specs.Tree.{expr_tree}
use Rattle.read_laws.specs.Bounded.{bounded}
use Rattle.audit_exprs.specs.Between.{prefixed}
use Rattle.audit_exprs.specs.ExprLevels.{minus}
use Rattle.audit_exprs.proofs.BetweenLemmas.{prefixed_step, prefixed_end}
use Rattle.audit_exprs.proofs.level.negated.Goals as goal

pub minuses-preserved : goal.minuses-preserved
minuses-preserved c =
    ap (prefixed (minus bounded) (c.args.minuses - (c.minuses.turn + 1))) c.in_ok-negated.ensures
    ∙ sym (prefixed_step (minus bounded) c.args.minuses c.minuses.turn (expr_tree c.minuses.negated) c.minuses-test.true) ∙ c.minuses.invariant

pub returns : goal.returns
returns c = sym (prefixed_end (minus bounded) c.args.minuses c.minuses.turn (expr_tree c.minuses.negated) c.minuses-test.false) ∙ c.minuses.invariant
