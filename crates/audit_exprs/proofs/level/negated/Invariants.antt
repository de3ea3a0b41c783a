use Rattle.std.proofs.Common.{◌≡◌, ◌-◌}
use Rattle.sql_tree.specs.Tree.{expr_tree}
use Rattle.read_laws.specs.Bounded.{bounded}
use Rattle.audit_exprs.specs.Between.{prefixed}
use Rattle.audit_exprs.specs.ExprLevels.{minus}
use Rattle.audit_exprs.proofs.level.negated.Given as goal

abbrev pub invariant-minuses : goal.invariant-minuses
invariant-minuses l = prefixed (minus bounded) (l.minuses - l.turn) (expr_tree l.negated) ≡ prefixed (minus bounded) l.minuses (expr_tree l.fn.factor)
