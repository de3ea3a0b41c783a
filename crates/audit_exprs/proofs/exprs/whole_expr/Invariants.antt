use Rattle.std.proofs.Common.{◌≡◌, ◌+◌, ◌≤◌, ◌∷◌, length}
use Rattle.sql_grammar.specs.Reads.{tokens_in}
use Rattle.read_laws.specs.Bounded.{bounded}
use Rattle.read_laws.specs.CondReader as reader
use Rattle.audit_exprs.specs.Between.{all_prefixes, comes, cost}
use Rattle.audit_exprs.specs.ExprLevels.{expr_rules, expr_waits, exprs_wait, expr_next}
use Rattle.audit_exprs.proofs.exprs.whole_expr.Given as goal

-- what the levels make of the rest is the whole, and no more `-` were counted than tokens were passed
abbrev pub invariant-steps : goal.invariant-steps
invariant-steps l = record {
  same : reader.whole_expr bounded (tokens_in l.fn.tokens.rest.now)
      ≡ comes (expr_rules bounded) (expr_waits l.levels.level) (exprs_wait l.levels.outer.items) (expr_next l.step) (tokens_in l.tokens.rest.now);
  few : all_prefixes (expr_waits l.levels.level ∷ exprs_wait l.levels.outer.items) + length (tokens_in l.tokens.rest.now) ≤ length (tokens_in l.fn.tokens.rest.now);
}

abbrev pub decreases-steps : goal.decreases-steps
decreases-steps l = cost (expr_next l.step) (tokens_in l.tokens.rest.now)
