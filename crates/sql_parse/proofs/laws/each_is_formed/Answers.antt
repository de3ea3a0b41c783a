use Rattle.sql_parse.proofs.FormedStmts.{each_is_formed_of}
use Rattle.sql_parse.proofs.laws.each_is_formed.Goals as goal

pub returns : goal.returns
returns c = each_is_formed_of c.read_is_printable.ensures
