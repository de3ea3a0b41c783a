use Rattle.std.proofs.Common.{get_or, sym, subst}
use Rattle.cell_core.specs.declared.cell.Cell.TheVariants.{Nil}
use Rattle.cell_core.specs.Same.{same_cell, same_equivalence}
use Rattle.chunk_core.specs.Parts.{part_cells}
use Rattle.cell_calc.specs.Aggregates.{aggregate_of}
use Rattle.bat_group.specs.Numbers.{AreFirsts}
use Rattle.bat_group.proofs.NumberLemmas.{distinct_push}
use Rattle.bat_group.proofs.TotalLemmas.{met_alone}
use Rattle.bat_group.proofs.group_totals.GroupTotals.meet.Goals as goal

pub returns-clause-met : goal.returns-clause-met
returns-clause-met c = λ so_far met short is.
    let key = get_or (part_cells c.args.groups) c.args.at Nil in
    record {
      known = subst (AreFirsts _ _) (sym (distinct_push same_cell same_equivalence met key)) (c.in_ok-number.ensures.numbered _ is.known);
      value = met_alone (aggregate_of c.args.aggregate) so_far met key short c.in_ok-number.number c.args.self.now.totals.items c.begin_total.new.totals.items
          (c.in_ok-number.ensures.place _ is.known) is.value c.in_ok-begin_total.ensures;
    }
