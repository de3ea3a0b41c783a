use Rattle.std.proofs.Common.{sym, ◌∙◌, subst}
use Rattle.std.specs.Str.{IsUtf8}
use Rattle.read_laws.proofs.QuotedLemmas.{quoted_text}
use Rattle.audit_read.proofs.marks.between.Goals as goal

pub unreachable-requires : goal.unreachable-requires
unreachable-requires c =
    c.in-Err.ensures.cases.0 (subst IsUtf8 (sym c.as_slice.ensures) (quoted_text c.args.mark c.requires.ascii c.args.after.now (c.in-Some.bytes, c.in-Some.size) c.requires.text (sym c.in_ok-bytes.ensures.found ∙ c.in-Some.is)))
