use Rattle.std.proofs.Common.{◌≡◌, ◌+◌, ◌≤◌, ◌∷◌, length}
use Rattle.sql_grammar.specs.Reads.{tokens_in}
use Rattle.read_laws.specs.Bounded.{bounded}
use Rattle.read_laws.specs.CondReader as reader
use Rattle.audit_exprs.specs.Between.{all_prefixes, comes, cost}
use Rattle.audit_exprs.specs.CondLevels.{cond_rules, cond_waits, conds_wait, cond_next}
use Rattle.audit_exprs.proofs.conds.whole_cond.Given as goal

-- what the levels make of the rest is the whole, and no more NOT were counted than tokens were passed
abbrev pub invariant-steps : goal.invariant-steps
invariant-steps l = record {
  same : reader.whole_cond bounded (reader.operand bounded l.aggregates) (tokens_in l.fn.tokens.rest.now)
      ≡ comes (cond_rules bounded (reader.operand bounded l.aggregates)) (cond_waits l.levels.level) (conds_wait l.levels.outer.items) (cond_next l.step) (tokens_in l.tokens.rest.now);
  few : all_prefixes (cond_waits l.levels.level ∷ conds_wait l.levels.outer.items) + length (tokens_in l.tokens.rest.now) ≤ length (tokens_in l.fn.tokens.rest.now);
}

abbrev pub decreases-steps : goal.decreases-steps
decreases-steps l = cost (cond_next l.step) (tokens_in l.tokens.rest.now)
