use Rattle.std.proofs.Common.{◌≡◌, None, length, ap, ◌∙◌, arith}
use Rattle.sql_grammar.specs.Reads.{tokens_in}
use Rattle.sql_tree.specs.Tree.{cond_tree}
use Rattle.read_laws.specs.Bounded.{bounded}
use Rattle.read_laws.specs.CondReader.{operand, any_test}
use Rattle.audit_exprs.specs.Between.{all_prefixes, comes}
use Rattle.audit_exprs.specs.CondLevels.{cond_rules, cond_waits, conds_wait, cond_next}
use Rattle.audit_exprs.proofs.BetweenLemmas.{begins, ends, none_wait}
use Rattle.audit_exprs.proofs.CondRules.{opens, are_read, level_waits, whole_is}
use Rattle.audit_exprs.proofs.conds.whole_cond.Goals as goal

pub steps-init : goal.steps-init
steps-init c =
    let ts = tokens_in c.args.tokens.now.rest.now in
    let none = none_wait cond_waits c.new-2.result.items (ap length c.new-2.ensures.items) in
    let no_prefixes : all_prefixes (conds_wait c.new-2.result.items) ≡ 0 = ap all_prefixes none in
    record {
      same = whole_is bounded c.args.aggregates ts ∙ begins (cond_rules bounded (operand bounded c.args.aggregates)) opens (any_test bounded (operand bounded c.args.aggregates)) (are_read bounded c.args.aggregates) _ _ ts (level_waits c.new.result None None 0 c.new.ensures.disjunction c.new.ensures.conjunction c.new.ensures.nots) none;
      few = omega (arith, no_prefixes, c.new.ensures.nots);
    }

pub returns-in-Done : goal.returns-in-Done
returns-in-Done c = (
  c.steps.invariant.same
      ∙ ap (λ s. comes (cond_rules bounded (operand bounded c.args.aggregates)) (cond_waits c.steps.levels.level) (conds_wait c.steps.levels.outer.items) (cond_next s) (tokens_in c.steps.tokens.rest.now)) c.in-Done.is
      ∙ ends (cond_rules bounded (operand bounded c.args.aggregates)) (cond_waits c.steps.levels.level) (conds_wait c.steps.levels.outer.items) (cond_tree c.in-Done.cond) (tokens_in c.steps.tokens.rest.now),
  λ h. cc,
)
