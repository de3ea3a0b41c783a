use Rattle.std.proofs.Common.{◌∙◌, List, ap, arith, length}
use Rattle.std.proofs.lemmas.List.{length-map, take_all}
use Rattle.lineage_key.specs.Parents.{parents_of}
use Rattle.pool_index.specs.declared.parents.Kin.{Kin}
use Rattle.pool_policy.specs.Admits.{rows_of}
use Rattle.recycle_pool.specs.Indexed.{kin_of}
use Rattle.recycle_pool.proofs.Rows.{rows_more}
use Rattle.recycle_pool.proofs.room.fill_rows.Goals as goal

pub bounds-kin-i : goal.bounds-kin-i
bounds-kin-i c =
    let many = ap (λ (ks : List Kin). length ks) c.requires.kin ∙ length-map c.args.entries.now kin_of in
    omega (arith, many, c.rows-test.true)

pub push_row-requires : goal.push_row-requires
push_row-requires c = omega (arith, c.rows.invariant.count, c.rows.invariant.room, c.rows-test.true, c.requires.room)

pub rows-preserved : goal.rows-preserved
rows-preserved c = record {
  rows = rows_more (parents_of c.args.key.now) c.args.entries.now c.rows.i c.index-entries-i.result c.rows.rows.items c.push_row.new.rows.items c.row_with.result (omega (arith, c.rows-test.true)) c.index-entries-i.is c.rows.invariant.rows c.row_with.ensures c.push_row.ensures.items;
  count = omega (arith, c.push_row.ensures.count, c.rows.invariant.count);
  room = omega (arith, c.push_row.ensures.room, c.rows.invariant.room);
}

pub returns-clause-rows : goal.returns-clause-rows
returns-clause-rows c = c.rows.invariant.rows ∙ ap (rows_of (parents_of c.args.key.now)) (take_all c.rows.i c.args.entries.now (omega (arith, c.rows-test.false)))
