use Rattle.std.proofs.Common.{FitsSigned, w32, to_z-of_z}
use Rattle.cell_core.specs.Day.{IsPrintedDay}
use Rattle.cell_text.proofs.DayLemmas.{day_text-number}
use Rattle.cell_text.proofs.text.write_day.Goals as goal

pub returns-else-is_printed_day-clause-ok : goal.returns-else-is_printed_day-clause-ok
returns-else-is_printed_day-clause-ok c =
    let fits : FitsSigned w32 c.args.day = c.ranges.day in
    let test = simp to_z-of_z at c.is_printed_day.ensures.day in
    let outside : ¬ IsPrintedDay c.args.day = λ printed. let yes = test.1 printed in cc in
    rw (day_text-number c.args.day outside) (simp to_z-of_z at c.write_number.ensures.ok)
