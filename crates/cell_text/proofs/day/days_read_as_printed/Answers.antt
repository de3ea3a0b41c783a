use Rattle.cell_text.proofs.DayLemmas.{day_text-date, IsDayText-day_text, day_in-day_text, day_text-day_in}
use Rattle.cell_text.proofs.day.days_read_as_printed.Goals as goal

pub returns-clause-date : goal.returns-clause-date
returns-clause-date c = day_text-date

pub returns-clause-printed : goal.returns-clause-printed
returns-clause-printed c = IsDayText-day_text

pub returns-clause-read : goal.returns-clause-read
returns-clause-read c = day_in-day_text

pub returns-clause-again : goal.returns-clause-again
returns-clause-again c = day_text-day_in
