use Rattle.std.proofs.Common.{◌≡◌, length}
use Rattle.sql_grammar.specs.Reads.{last_end}
use Rattle.audit_read.proofs.survey.last_end_of.Given as goal

abbrev pub invariant-tokens : goal.invariant-tokens
invariant-tokens l = last_end l.last l.rest ≡ last_end l.fn.first l.fn.more

abbrev pub decreases-tokens : goal.decreases-tokens
decreases-tokens l = length l.rest
