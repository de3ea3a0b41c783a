use Rattle.std.proofs.Common.{append_assoc}
use Rattle.sql_print.proofs.MapLemmas.{items_texts}
use Rattle.sql_print.proofs.print.write_selected.Goals as goal

pub returns : goal.returns
returns c =
    let last = rw (c.as_slice.ensures, c.in_ok-write_distinct.ensures, c.in_ok-write_bytes.ensures) at c.write_items.ensures in
    rw (items_texts c.args.query.now.items) (simp append_assoc at last)
