use Rattle.std.proofs.Common.{subst, sym}
use Rattle.std.specs.Str.{IsUtf8}
use Rattle.read_laws.proofs.QuotedLemmas.{quoted_text}
use Rattle.sql_tokens.proofs.quoted.quoted.Goals as goal

pub unreachable-requires : goal.unreachable-requires
unreachable-requires c =
    c.in-Err.ensures.cases.0 (subst IsUtf8 (sym c.deref.ensures.value) (quoted_text c.args.mark c.requires.ascii c.args.after.now _ c.requires.text c.in_ok-bytes.ensures.found))
