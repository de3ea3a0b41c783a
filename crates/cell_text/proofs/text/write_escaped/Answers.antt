use Rattle.std.proofs.Common.{sym, ◌∙◌, arith}
use Rattle.cell_text.proofs.TextLemmas.{escaped_text-plain, length-escaped_text}
use Rattle.cell_text.proofs.text.write_escaped.Goals as goal

pub returns-then-backslashes-eq0-clause-ok : goal.returns-then-backslashes-eq0-clause-ok
returns-then-backslashes-eq0-clause-ok c =
    let none = sym c.count_backslashes-backslashes.ensures.count ∙ c.if-backslashes-eq0.true in
    let plain = escaped_text-plain c.as_bytes-bytes.result.now none in
    rw (← c.as_bytes-bytes.ensures.value, plain) c.write_bytes.ensures.ok

pub push_escaped-requires : goal.push_escaped-requires
push_escaped-requires c =
    omega (arith, length-escaped_text c.as_bytes-bytes.result.now, c.count_backslashes-backslashes.ensures.count, c.in_ok-reserve.ensures.ok)
