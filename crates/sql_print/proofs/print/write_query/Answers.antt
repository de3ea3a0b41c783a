use Rattle.std.proofs.Common.{append_assoc}
use Rattle.sql_print.proofs.print.write_query.Goals as goal

pub returns : goal.returns
returns c =
    let froms = rw (c.in_ok-write_selected.ensures, c.as_slice.ensures) at c.in_ok-write_listed_after.ensures in
    let cond = rw (froms, c.as_ref.ensures.value) at c.in_ok-write_cond_after.ensures in
    let groups = rw (cond, c.as_slice-2.ensures) at c.in_ok-write_listed_after-2.ensures in
    let having = rw (groups, c.as_ref-2.ensures.value) at c.in_ok-write_cond_after-2.ensures in
    let keys = rw (having, c.as_slice-3.ensures) at c.in_ok-write_listed_after-3.ensures in
    let last = rw keys at c.write_limit.ensures in
    simp append_assoc (simp append_assoc at last)
