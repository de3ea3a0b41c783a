use Rattle.std.proofs.Common.{◌≡◌, ◌+◌, ◌-◌, ◌*◌}
use Rattle.sql_grammar.specs.Reads.{tokens_in}
use Rattle.sql_tree.specs.Tree.{expr_tree}
use Rattle.read_laws.specs.Chain.{chain}
use Rattle.read_laws.specs.Bounded.{bounded, bounded_operator}
use Rattle.read_laws.specs.ExprReader as reader
use Rattle.sql_reader.proofs.expressions.+expr.Given as goal

abbrev pub decreases-expr : goal.decreases-expr
decreases-expr l = 6 * l.depth + 5

abbrev pub decreases-expr_after : goal.decreases-expr_after
decreases-expr_after l = 6 * l.depth + 4

abbrev pub decreases-factor : goal.decreases-factor
decreases-factor l = 6 * l.depth + 1

abbrev pub decreases-inner_factor : goal.decreases-inner_factor
decreases-inner_factor l = 6 * l.depth + 6

abbrev pub decreases-negative : goal.decreases-negative
decreases-negative l = 6 * l.depth + 2

abbrev pub decreases-term : goal.decreases-term
decreases-term l = 6 * l.depth + 3

abbrev pub decreases-term_after : goal.decreases-term_after
decreases-term_after l = 6 * l.depth + 2

abbrev pub invariant-expr_after-terms : goal.invariant-expr_after-terms
invariant-expr_after-terms l =
    reader.expr_after bounded (reader.factor bounded l.depth) (expr_tree l.fn.first) (tokens_in l.fn.tokens.rest.now)
    ≡ chain reader.sign_in bounded_operator (reader.term bounded (reader.factor bounded l.depth)) (l.turn-end - l.turn) (expr_tree l.left) (tokens_in l.tokens.rest.now)

abbrev pub invariant-term_after-factors : goal.invariant-term_after-factors
invariant-term_after-factors l =
    reader.term_after bounded (reader.factor bounded l.depth) (expr_tree l.fn.first) (tokens_in l.fn.tokens.rest.now)
    ≡ chain reader.star_in bounded_operator (reader.factor bounded l.depth) (l.turn-end - l.turn) (expr_tree l.left) (tokens_in l.tokens.rest.now)
