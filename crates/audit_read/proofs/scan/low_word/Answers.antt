use Rattle.std.proofs.Common.{◌∷◌, map, sym, ◌∙◌, subst}
use Rattle.std.specs.Prelude.{IsAscii}
use Rattle.std.specs.Str.{IsUtf8}
use Rattle.std.proofs.lemmas.Str.{IsUtf8-from_ascii}
use Rattle.read_laws.proofs.ByteLemmas.{ascii_low_bytes, low_all}
use Rattle.sql_tree.specs.Bytes.{low}
use Rattle.audit_read.proofs.scan.low_word.Goals as goal

pub unreachable-requires : goal.unreachable-requires
unreachable-requires c =
    let bytes = c.args.first ∷ c.args.more.now in
    c.in-Err.ensures.cases.0 (subst IsUtf8 (sym (c.as_slice.ensures ∙ c.in_ok-low.ensures)) (IsUtf8-from_ascii (map low bytes) (subst IsAscii (low_all bytes) (ascii_low_bytes bytes c.requires))))
