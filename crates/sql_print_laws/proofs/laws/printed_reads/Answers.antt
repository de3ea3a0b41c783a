use Rattle.sql_print_laws.proofs.ReadAgain.{printed_reads_of}
use Rattle.sql_print_laws.proofs.laws.printed_reads.Goals as goal

pub returns : goal.returns
returns c = printed_reads_of
