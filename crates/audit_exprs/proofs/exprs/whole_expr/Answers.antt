use Rattle.std.proofs.Common.{◌≡◌, None, length, ap, ◌∙◌, arith}
use Rattle.sql_grammar.specs.Reads.{tokens_in}
use Rattle.sql_tree.specs.Tree.{expr_tree}
use Rattle.read_laws.specs.Bounded.{bounded}
use Rattle.audit_exprs.specs.Between.{all_prefixes, comes}
use Rattle.audit_exprs.specs.ExprLevels.{expr_rules, atom, expr_waits, exprs_wait, expr_next}
use Rattle.audit_exprs.proofs.BetweenLemmas.{begins, ends, none_wait}
use Rattle.audit_exprs.proofs.ExprRules.{opens, are_read, level_waits, whole_is}
use Rattle.audit_exprs.proofs.exprs.whole_expr.Goals as goal

pub steps-init : goal.steps-init
steps-init c =
    let ts = tokens_in c.args.tokens.now.rest.now in
    let none = none_wait expr_waits c.new-2.result.items (ap length c.new-2.ensures.items) in
    let no_prefixes : all_prefixes (exprs_wait c.new-2.result.items) ≡ 0 = ap all_prefixes none in
    record {
      same = whole_is bounded ts ∙ begins (expr_rules bounded) opens (atom bounded) (are_read bounded) _ _ ts (level_waits c.new.result None None 0 c.new.ensures.sum c.new.ensures.product c.new.ensures.minuses) none;
      few = omega (arith, no_prefixes, c.new.ensures.minuses);
    }

pub returns-in-Done : goal.returns-in-Done
returns-in-Done c = (
  c.steps.invariant.same
      ∙ ap (λ s. comes (expr_rules bounded) (expr_waits c.steps.levels.level) (exprs_wait c.steps.levels.outer.items) (expr_next s) (tokens_in c.steps.tokens.rest.now)) c.in-Done.is
      ∙ ends (expr_rules bounded) (expr_waits c.steps.levels.level) (exprs_wait c.steps.levels.outer.items) (expr_tree c.in-Done.expr) (tokens_in c.steps.tokens.rest.now),
  λ h. cc,
)
