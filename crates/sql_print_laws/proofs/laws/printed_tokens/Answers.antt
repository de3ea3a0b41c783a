use Rattle.sql_print_laws.proofs.StmtPrinted.{printed_tokens_of}
use Rattle.sql_print_laws.proofs.laws.printed_tokens.Goals as goal

pub returns : goal.returns
returns c = printed_tokens_of
