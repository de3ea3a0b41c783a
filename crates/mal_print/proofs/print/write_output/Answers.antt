use Rattle.std.proofs.Common.{append_assoc}
use Rattle.mal_print.proofs.print.write_output.Goals as goal

pub returns : goal.returns
returns c =
    let last = rw (c.in_ok-write_further.ensures, c.in_ok-write_arg.ensures, c.in_ok-write_bytes.ensures) at c.write_bytes-2.ensures in
    simp append_assoc (simp append_assoc at last)
