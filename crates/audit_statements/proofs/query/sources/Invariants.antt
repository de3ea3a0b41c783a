use Rattle.std.proofs.Common.{◌≡◌, ◌-◌}
use Rattle.sql_grammar.specs.Reads.{tokens_in}
use Rattle.read_laws.specs.Bounded.{bounded}
use Rattle.read_laws.specs.StmtReader as reader
use Rattle.audit_statements.specs.Forms.{sources_tree}
use Rattle.audit_statements.proofs.query.sources.Given as goal

abbrev pub invariant-joins : goal.invariant-joins
invariant-joins l =
    reader.sources bounded (tokens_in l.fn.tokens.rest.now)
    ≡ reader.joins bounded (l.turn-end - l.turn) (sources_tree (l.froms, l.cond)) (tokens_in l.tokens.rest.now)
