use Rattle.std.proofs.Common.{◌≡◌, ◌-◌}
use Rattle.sql_grammar.specs.Reads.{tokens_in}
use Rattle.sql_tree.specs.Tree.{cond_tree, expr_tree}
use Rattle.read_laws.specs.Bounded.{bounded}
use Rattle.read_laws.specs.Chain.{chain}
use Rattle.read_laws.specs.CondReader as reader
use Rattle.read_laws.specs.Parts.{comma_in}
use Rattle.audit_exprs.proofs.comparing.members.Given as goal

abbrev pub invariant-members : goal.invariant-members
invariant-members l =
    reader.members bounded (reader.operand bounded l.aggregates) (expr_tree l.of) (tokens_in l.fn.tokens.rest.now)
    ≡ chain comma_in (reader.or_member bounded (expr_tree l.of)) (reader.operand bounded l.aggregates) (l.turn-end - l.turn) (cond_tree l.so_far) (tokens_in l.tokens.rest.now)
