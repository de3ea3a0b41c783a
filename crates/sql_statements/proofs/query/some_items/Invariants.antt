use Rattle.std.proofs.Common.{◌≡◌, ◌-◌, map}
use Rattle.sql_grammar.specs.Reads.{tokens_in}
use Rattle.read_laws.specs.Chain.{chain}
use Rattle.read_laws.specs.Bounded.{bounded}
use Rattle.read_laws.specs.Parts.{comma_in}
use Rattle.sql_tree.specs.Tree.{item_tree}
use Rattle.read_laws.specs.StmtReader as reader
use Rattle.sql_statements.proofs.query.some_items.Given as goal

abbrev pub invariant-items : goal.invariant-items
invariant-items l =
    reader.listed (reader.item bounded) (tokens_in l.fn.tokens.rest.now)
    ≡ chain comma_in reader.one_more (reader.item bounded) (l.turn-end - l.turn) (map item_tree l.items) (tokens_in l.tokens.rest.now)
