use Rattle.std.proofs.Common.{◌≡◌, ◌-◌}
use Rattle.std.specs.Option.{option_map}
use Rattle.sql_grammar.specs.Reads.{tokens_in}
use Rattle.read_laws.specs.Bounded.{bounded}
use Rattle.sql_tree.specs.Tree.{cond_tree}
use Rattle.read_laws.specs.StmtReader as reader
use Rattle.sql_statements.proofs.from.sources.Given as goal

abbrev pub invariant-joins : goal.invariant-joins
invariant-joins l =
    reader.sources bounded (tokens_in l.fn.tokens.rest.now)
    ≡ reader.joins bounded (l.turn-end - l.turn) (l.froms, option_map cond_tree l.cond) (tokens_in l.tokens.rest.now)
