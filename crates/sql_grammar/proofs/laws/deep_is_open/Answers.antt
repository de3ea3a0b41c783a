use Rattle.sql_grammar.proofs.NestingLemmas.{deep_is_open_for}
use Rattle.sql_grammar.proofs.laws.deep_is_open.Goals as goal

pub returns : goal.returns
returns c = deep_is_open_for
