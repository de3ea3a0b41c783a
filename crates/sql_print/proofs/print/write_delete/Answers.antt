use Rattle.std.proofs.Common.{append_assoc}
use Rattle.sql_print.proofs.print.write_delete.Goals as goal

pub returns : goal.returns
returns c =
    let last = rw (c.in_ok-write_name.ensures, c.in_ok-write_bytes.ensures) at c.write_cond_after.ensures in
    simp append_assoc (simp append_assoc at last)
