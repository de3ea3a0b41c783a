use Rattle.std.proofs.Common.{take}
use Rattle.std.specs.List.{AllByRecursion}
use Rattle.sql_shell.proofs.NumberLemmas.{IsShortEvent}
use Rattle.sql_shell.proofs.numbers.log_is_short.Given as goal

-- the events so far have short numbers
abbrev pub invariant-events : goal.invariant-events
invariant-events l = AllByRecursion IsShortEvent (take l.event-index l.log)
