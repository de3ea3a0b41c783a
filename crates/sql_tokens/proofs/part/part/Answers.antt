use Rattle.std.proofs.Common.{lit<}
use Rattle.text_bytes.proofs.TextLemmas.{around_ascii}
use Rattle.sql_tokens.proofs.part.part.Goals as goal

pub quoted-requires-clause-text : goal.quoted-requires-clause-text
quoted-requires-clause-text c = (around_ascii c.requires.0 39 c.args.after.now (lit< tt) (rw c.if-first-eq39.true at c.requires.1)).1

pub quoted_name-requires : goal.quoted_name-requires
quoted_name-requires c = (around_ascii c.requires.0 34 c.args.after.now (lit< tt) (rw c.if-first-eq34.true at c.requires.1)).1
