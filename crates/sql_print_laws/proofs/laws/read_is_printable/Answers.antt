use Rattle.sql_print_laws.proofs.StmtTold.{read_is_printable_of}
use Rattle.sql_print_laws.proofs.laws.read_is_printable.Goals as goal

pub returns : goal.returns
returns c = read_is_printable_of
