use Rattle.text_bytes.proofs.FoundLemmas.{same_err}
use Rattle.read_laws.proofs.TokensRead.{tokens_sound, no_tokens}
use Rattle.sql_tokens.proofs.reading.tokens.Goals as goal

pub returns-in-Ok-clause-tokens : goal.returns-in-Ok-clause-tokens
returns-in-Ok-clause-tokens c = tokens_sound c.args.text.now c.in-Ok.tokens c.in-Ok.ensures.tokens

pub returns-in-Err-clause-none : goal.returns-in-Err-clause-none
returns-in-Err-clause-none c = λ h. no_tokens c.args.text.now (c.in-Err.ensures.none (same_err _ _ h))
