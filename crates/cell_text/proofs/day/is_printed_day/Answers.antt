use Rattle.std.proofs.Common.{arith, FitsSigned, w32, to_z-of_z}
use Rattle.std.proofs.lemmas.Int.{ints}
use Rattle.jiff_core.proofs.DateLemmas.{days_from_civil-max}
use Rattle.cell_text.proofs.DayLemmas.{days_from_civil-first, is_printed_day-told}
use Rattle.cell_text.proofs.day.is_printed_day.Goals as goal

pub returns-clause-day : goal.returns-clause-day
returns-clause-day c =
    let fits : FitsSigned w32 c.args.day = c.ranges.day in
    let test = rw (c.new.ensures.start, c.new.ensures.end, c.new.ensures.exhausted) at (simp to_z-of_z at c.contains.ensures.value) in
    simp (days_from_civil-first, days_from_civil-max) (grind (arith, ints))

pub returns-clause-test : goal.returns-clause-test
returns-clause-test c = is_printed_day-told c.contains.result c.args.day (returns-clause-day c)
