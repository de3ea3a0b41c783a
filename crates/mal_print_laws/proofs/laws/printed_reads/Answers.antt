use Rattle.mal_print_laws.proofs.ReadAgain.{printed_reads_of, printed_is_text_of}
use Rattle.mal_print_laws.proofs.laws.printed_reads.Goals as goal

pub returns-clause-reads : goal.returns-clause-reads
returns-clause-reads c = printed_reads_of

pub returns-clause-text : goal.returns-clause-text
returns-clause-text c = printed_is_text_of
