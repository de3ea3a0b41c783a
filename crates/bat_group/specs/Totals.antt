-- The totals of the groups met so far.
use Rattle.std.specs.Prelude.{◌≡◌, List, map}
use Rattle.cell_core.specs.declared.cell.Cell.{Cell}
use Rattle.cell_core.specs.Same.{same_cell}
use Rattle.cell_core.specs.Groups.{distinct}
use Rattle.cell_calc.specs.declared.aggregate.Aggregate.{Aggregate}
use Rattle.cell_calc.specs.Aggregates.{aggregate_of}
use Rattle.bat_group.specs.declared.group_totals.GroupTotals.{GroupTotals}
use Rattle.bat_group.specs.Members.{members_of}
use Rattle.bat_group.specs.Numbers.{AreFirsts}

-- these groups are numbered, and each has the aggregate of the cells beside it
pub record AreTotals (aggregate : Aggregate) (met : GroupTotals) (cells groups : List Cell) : Type 0 where
  pub known : AreFirsts met.firsts met.count (distinct same_cell groups)
  pub value : met.totals.items ≡ map (λ group. aggregate_of aggregate (members_of cells groups group)) (distinct same_cell groups)
