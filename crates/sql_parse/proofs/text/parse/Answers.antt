use Rattle.std.proofs.Common.{Err}
use Rattle.sql_parse.proofs.ErrorLemmas.{error_made, refused_tokens}
use Rattle.sql_parse.proofs.FormedStmts.{if_formed}
use Rattle.read_laws.proofs.TextsRead.{by_tokens}
use Rattle.sql_parse.proofs.ResultLemmas.{if_answered}
use Rattle.sql_parse.proofs.text.parse.Goals as goal

pub returns-in_err-tokens-clause-refused : goal.returns-in_err-tokens-clause-refused
returns-in_err-tokens-clause-refused c = λ refusal is. refused_tokens c.args.text.now c.in_err-tokens.field-0.0 c.in_err-tokens.ensures.none refusal (error_made _ _ _ c.from_residual.ensures.1 is)

pub returns-clause-read : goal.returns-clause-read
returns-clause-read c = if_answered c.args.text.now c.as_slice.result.now (rw c.as_slice.ensures c.in_ok-tokens.ensures.tokens) c.parse_tokens.result c.parse_tokens.ensures.read

pub returns-clause-formed : goal.returns-clause-formed
returns-clause-formed c = if_formed c.each_is_formed.ensures c.args.text.now c.parse_tokens.result (if_answered c.args.text.now c.as_slice.result.now (rw c.as_slice.ensures c.in_ok-tokens.ensures.tokens) c.parse_tokens.result c.parse_tokens.ensures.read)

pub returns-clause-refused : goal.returns-clause-refused
returns-clause-refused c = λ refusal is. by_tokens c.args.text.now c.as_slice.result.now (rw c.as_slice.ensures c.in_ok-tokens.ensures.tokens) (Err refusal) (c.parse_tokens.ensures.refused refusal is)
