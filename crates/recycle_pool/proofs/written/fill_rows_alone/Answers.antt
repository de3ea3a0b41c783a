use Rattle.std.proofs.Common.{[], ◌∙◌, ap, arith}
use Rattle.std.proofs.lemmas.List.{take_all}
use Rattle.pool_policy.specs.Admits.{rows_of}
use Rattle.recycle_pool.proofs.Rows.{rows_more}
use Rattle.recycle_pool.proofs.written.fill_rows_alone.Goals as goal

pub push_row-requires : goal.push_row-requires
push_row-requires c = omega (arith, c.rows.invariant.count, c.rows.invariant.room, c.rows-test.true, c.requires)

pub rows-preserved : goal.rows-preserved
rows-preserved c = record {
  rows = rows_more [] c.args.entries.now c.rows.i c.index-entries-i.result c.rows.rows.items c.push_row.new.rows.items c.row_alone.result (omega (arith, c.rows-test.true)) c.index-entries-i.is c.rows.invariant.rows c.row_alone.ensures c.push_row.ensures.items;
  count = omega (arith, c.push_row.ensures.count, c.rows.invariant.count);
  room = omega (arith, c.push_row.ensures.room, c.rows.invariant.room);
}

pub returns-clause-rows : goal.returns-clause-rows
returns-clause-rows c = c.rows.invariant.rows ∙ ap (rows_of []) (take_all c.rows.i c.args.entries.now (omega (arith, c.rows-test.false)))
