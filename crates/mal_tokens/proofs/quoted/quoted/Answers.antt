use Rattle.std.proofs.Common.{subst, sym}
use Rattle.std.specs.Str.{IsUtf8}
use Rattle.mal_tokens.proofs.QuotedLemmas.{quoted_text}
use Rattle.mal_tokens.proofs.quoted.quoted.Goals as goal

pub unreachable-requires : goal.unreachable-requires
unreachable-requires c =
    c.in-Err.ensures.cases.0 (subst IsUtf8 (sym c.deref.ensures.value) (quoted_text c.args.after.now _ c.requires c.in_ok-bytes.ensures.found))
