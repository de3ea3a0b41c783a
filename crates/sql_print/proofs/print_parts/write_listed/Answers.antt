use Rattle.sql_print.proofs.ListedLemmas.{listed-first}
use Rattle.sql_print.proofs.print_parts.write_listed.Goals as goal

pub returns : goal.returns
returns g c =
    rw (c.loop-thing.invariant, c.in_ok-write.ensures)
    (listed-first g.T.Listed.printed c.args.out.now.items c.args.things.now c.first-item.result c.loop-thing.thing-index c.in-len1-up.len_at_least c.first-item.is c.loop-thing-test.false)
