use Rattle.std.proofs.Common.{lit<}
use Rattle.sql_tree.proofs.QuotedLemmas.{IsUtf8-quoted}
use Rattle.sql_tree.proofs.names.printed_name.Goals as goal

pub unreachable-requires : goal.unreachable-requires
unreachable-requires c =
    let quoted = IsUtf8-quoted 34 _ (lit< tt) c.text-2.ensures.utf8 in
    c.in-Err.ensures.cases.0 (rw (c.deref.ensures.value, c.in_ok-write_quoted.ensures, c.new-quoted.ensures.items, c.text-2.ensures.text) quoted)
