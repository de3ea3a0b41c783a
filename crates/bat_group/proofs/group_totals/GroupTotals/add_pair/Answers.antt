use Rattle.std.proofs.Common.{get_or, arith}
use Rattle.std.proofs.lemmas.Result.{on_ok_weaker}
use Rattle.cell_core.specs.declared.cell.Cell.TheVariants.{Nil}
use Rattle.chunk_core.specs.Parts.{part_cells}
use Rattle.cell_calc.specs.Aggregates.{aggregate_of}
use Rattle.bat_group.proofs.TotalLemmas.{finished}
use Rattle.bat_group.proofs.group_totals.GroupTotals.add_pair.Goals as goal

pub returns-clause-totals : goal.returns-clause-totals
returns-clause-totals c = on_ok_weaker c.add_at.result (λ taken so_far met even is.
    let key = get_or (part_cells c.args.groups) c.args.at Nil in
    let cell = get_or (part_cells c.args.cells) c.args.at Nil in
    let now = c.in_ok-number.ensures.met so_far met (omega (arith, even)) is in
    record {
      known = now.known;
      value = finished (aggregate_of c.args.aggregate) so_far met key cell even c.in_ok-number.number c.meet.new.self.totals.items c.index_mut.result.now c.add_at.new.total
          (c.in_ok-number.ensures.place so_far met is) now.value c.index_mut.ensures.value taken;
    }) c.add_at.ensures
