use Rattle.std.proofs.Common.{◌≡◌, ◌∷◌, ◌+◌, ◌≤◌, List, length, drop, get_or, ap, sym, ◌∙◌, arith, below_more, ◌||◌}
use Rattle.std.proofs.lemmas.List.{drop_all, drop_more}
use Rattle.audit_read.specs.Gate.{deep_from}
use Rattle.read_laws.proofs.RuleLemmas.{no_rule_past}
use Rattle.sql_grammar.specs.Reads.{tokens_in}
use Rattle.sql_grammar.specs.Refused.{is_too_deep}
use Rattle.sql_tree.specs.declared.token.Placed.{Placed}
use Rattle.audit_read.proofs.gate.pass_gate.Goals as goal

pub returns-in-Some : goal.returns-in-Some
returns-in-Some c = (c.tokens.at, sym c.in_ok-rule_at.ensures ∙ c.in-Some.is, c.tokens.invariant.rules)

pub tokens-preserved : goal.tokens-preserved
tokens-preserved c =
    let tokens = c.args.tokens.now in
    let at = c.tokens.at in
    let placed = get_or tokens at c.index-tokens-at.result in
    let here : drop at tokens ≡ placed ∷ drop (at + 1) tokens = drop_more tokens at c.index-tokens-at.result c.tokens-test.true in
    let step : deep_from c.pass.new.self (tokens_in (drop (at + 1) tokens)) ≡ deep_from c.tokens.levels (tokens_in (placed ∷ drop (at + 1) tokens)) = c.in_ok-pass.ensures.from (tokens_in (drop (at + 1) tokens)) in
    let back : deep_from c.tokens.levels (tokens_in (placed ∷ drop (at + 1) tokens)) ≡ deep_from c.tokens.levels (tokens_in (drop at tokens)) = ap (λ (ts : List Placed). deep_from c.tokens.levels (tokens_in ts)) (sym here) in
    record {
      rules = below_more _ _ c.tokens.invariant.rules (sym c.in_ok-rule_at.ensures ∙ c.in-None.is);
      counted = c.in_ok-pass.ensures.holds;
      from = step ∙ back ∙ c.tokens.invariant.from;
    }

pub returns-then-levels : goal.returns-then-levels
returns-then-levels c =
    let tokens = c.args.tokens.now in
    let past : length tokens ≤ c.tokens.at = omega arith in (
      (λ k. no_rule_past tokens c.tokens.at c.tokens.invariant.rules past k),
      sym c.tokens.invariant.from ∙ ap (λ deep. deep || is_too_deep c.tokens.levels.opened.items c.tokens.levels.run (tokens_in (drop c.tokens.at tokens))) c.if-levels.true,
    )

pub returns : goal.returns
returns c =
    let tokens = c.args.tokens.now in
    let past : length tokens ≤ c.tokens.at = omega arith in
    record {
      no_rule = λ k. no_rule_past tokens c.tokens.at c.tokens.invariant.rules past k;
      shallow =
          sym c.tokens.invariant.from
          ∙ ap (λ deep. deep || is_too_deep c.tokens.levels.opened.items c.tokens.levels.run (tokens_in (drop c.tokens.at tokens))) c.if-levels.false
          ∙ ap (λ ts. is_too_deep c.tokens.levels.opened.items c.tokens.levels.run (tokens_in ts)) (drop_all c.tokens.at tokens past);
    }
