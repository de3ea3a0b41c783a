use Rattle.std.proofs.Common.{lit<}
use Rattle.text_bytes.proofs.TextLemmas.{around_ascii}
use Rattle.mal_tokens.proofs.part.part.Goals as goal

pub quoted-requires : goal.quoted-requires
quoted-requires c = (around_ascii c.requires.0 34 c.args.after.now (lit< tt) (rw c.if-first-eq34.true at c.requires.1)).1
