use Rattle.sql_print_laws.proofs.DerivedLemmas.{printed_derives_of}
use Rattle.sql_print_laws.proofs.laws.printed_derives.Goals as goal

pub returns : goal.returns
returns c = printed_derives_of
