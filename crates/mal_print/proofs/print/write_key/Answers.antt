use Rattle.std.proofs.Common.{append_assoc}
use Rattle.mal_print.proofs.print.write_key.Goals as goal

pub returns : goal.returns
returns c =
    let last = rw (c.in_ok-write_bit.ensures, c.in_ok-write_bytes-2.ensures, c.in_ok-write_number.ensures, c.in_ok-write_bytes.ensures) at c.write_bytes-3.ensures in
    let named = rw c.from.ensures at last in
    simp append_assoc (simp append_assoc at named)
