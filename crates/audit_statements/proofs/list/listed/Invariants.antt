use Rattle.std.proofs.Common.{◌≡◌, ◌-◌}
use Rattle.sql_grammar.specs.Reads.{tokens_in}
use Rattle.read_laws.specs.Chain.{chain}
use Rattle.read_laws.specs.Parts.{comma_in}
use Rattle.read_laws.specs.StmtReader as reader
use Rattle.audit_statements.proofs.list.listed.Given as goal

abbrev pub invariant-parts : goal.invariant-parts
invariant-parts g l =
    reader.listed g.P.ListPart.reader (tokens_in l.fn.tokens.rest.now)
    ≡ chain comma_in reader.one_more g.P.ListPart.reader (l.turn-end - l.turn) (g.P.ListPart.trees l.parts) (tokens_in l.tokens.rest.now)
