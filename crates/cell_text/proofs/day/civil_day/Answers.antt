use Rattle.std.proofs.Common.{◌∙◌, ap, arith, FitsSigned, w32, to_z, of_z, to_z-of_z}
use Rattle.jiff_core.specs.Date.{epoch_day}
use Rattle.jiff_core.proofs.DateLemmas.{epoch_day_range}
use Rattle.jiff_core.proofs.SignedLemmas.{signed_arith}
use Rattle.cell_text.proofs.DayLemmas.{taken_date, refused_date}
use Rattle.cell_text.proofs.day.civil_day.Goals as goal

pub returns-in-Ok-clause-number : goal.returns-in-Ok-clause-number
returns-in-Ok-clause-number c =
    let taken = taken_date c.in-Ok.date c.args.year c.args.month c.args.day c.requires.year c.requires.month c.requires.day c.in-Ok.ensures.value in
    let fits : FitsSigned w32 (epoch_day c.in-Ok.date) = omega (arith, signed_arith, epoch_day_range c.in-Ok.date) in
    (taken.0, ap (λ n. to_z w32 (of_z w32 n)) c.day_of.ensures ∙ to_z-of_z fits ∙ taken.1)

pub returns-in-Err-clause-none : goal.returns-in-Err-clause-none
returns-in-Err-clause-none c =
    refused_date c.args.year c.args.month c.args.day c.requires.year c.requires.month c.requires.day c.in-Err.ensures.succeeds.1

pub overflow_cast-year : goal.overflow_cast-year
overflow_cast-year c = omega (arith, c.requires.year)

pub overflow_cast-month : goal.overflow_cast-month
overflow_cast-month c = omega (arith, c.requires.month)

pub overflow_cast-day : goal.overflow_cast-day
overflow_cast-day c = omega (arith, c.requires.day)
