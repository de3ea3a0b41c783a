use Rattle.std.proofs.Common.{◌≡◌, ◌-◌, map}
use Rattle.sql_grammar.specs.Reads.{tokens_in}
use Rattle.read_laws.specs.Chain.{chain}
use Rattle.read_laws.specs.Bounded.{bounded}
use Rattle.read_laws.specs.Parts.{comma_in}
use Rattle.sql_tree.specs.Tree.{set_tree}
use Rattle.read_laws.specs.StmtReader as reader
use Rattle.sql_statements.proofs.change.sets.Given as goal

abbrev pub invariant-sets : goal.invariant-sets
invariant-sets l =
    reader.listed (reader.set bounded) (tokens_in l.fn.tokens.rest.now)
    ≡ chain comma_in reader.one_more (reader.set bounded) (l.turn-end - l.turn) (map set_tree l.sets) (tokens_in l.tokens.rest.now)
