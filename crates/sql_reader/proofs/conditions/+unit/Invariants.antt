use Rattle.std.proofs.Common.{◌≡◌, ◌+◌, ◌-◌, ◌*◌}
use Rattle.sql_grammar.specs.Reads.{tokens_in}
use Rattle.sql_tree.specs.Tree.{cond_tree}
use Rattle.read_laws.specs.Chain.{chain}
use Rattle.read_laws.specs.Bounded.{bounded}
use Rattle.read_laws.specs.CondReader as reader
use Rattle.sql_reader.proofs.conditions.+unit.Given as goal

abbrev pub decreases-closed_cond : goal.decreases-closed_cond
decreases-closed_cond l = 10 * l.depth + 6

abbrev pub decreases-cond : goal.decreases-cond
decreases-cond l = 10 * l.depth + 5

abbrev pub decreases-cond_after : goal.decreases-cond_after
decreases-cond_after l = 10 * l.depth + 4

abbrev pub decreases-conj : goal.decreases-conj
decreases-conj l = 10 * l.depth + 3

abbrev pub decreases-conj_after : goal.decreases-conj_after
decreases-conj_after l = 10 * l.depth + 2

abbrev pub decreases-first_inside : goal.decreases-first_inside
decreases-first_inside l = 10 * l.depth + 7

abbrev pub decreases-inner_unit : goal.decreases-inner_unit
decreases-inner_unit l = 10 * l.depth + 9

abbrev pub decreases-enclosed : goal.decreases-enclosed
decreases-enclosed l = 10 * l.depth + 8

abbrev pub decreases-inside_from : goal.decreases-inside_from
decreases-inside_from l = 10 * l.depth + 7

abbrev pub decreases-unit : goal.decreases-unit
decreases-unit l = 10 * l.depth + 1

abbrev pub invariant-cond_after-conjs : goal.invariant-cond_after-conjs
invariant-cond_after-conjs l =
    reader.condition_after bounded (reader.unit bounded (reader.operand bounded l.aggregates) l.depth) (cond_tree l.fn.first) (tokens_in l.fn.tokens.rest.now)
    ≡ chain reader.or_in (reader.either_of bounded) (reader.conjunction bounded (reader.unit bounded (reader.operand bounded l.aggregates) l.depth)) (l.turn-end - l.turn) (cond_tree l.left) (tokens_in l.tokens.rest.now)

abbrev pub invariant-conj_after-units : goal.invariant-conj_after-units
invariant-conj_after-units l =
    reader.conjunction_after bounded (reader.unit bounded (reader.operand bounded l.aggregates) l.depth) (cond_tree l.fn.first) (tokens_in l.fn.tokens.rest.now)
    ≡ chain reader.and_in (reader.both_of bounded) (reader.unit bounded (reader.operand bounded l.aggregates) l.depth) (l.turn-end - l.turn) (cond_tree l.left) (tokens_in l.tokens.rest.now)
