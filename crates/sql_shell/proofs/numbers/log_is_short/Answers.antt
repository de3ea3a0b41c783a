use Rattle.std.proofs.Common.{◌≤◌, length, rules, subst}
use Rattle.std.specs.List.{AllByRecursion}
use Rattle.std.proofs.lemmas.List.{take_all}
use Rattle.sql_shell.proofs.NumberLemmas.{IsShortEvent, short_log}
use Rattle.sql_shell.proofs.numbers.log_is_short.Goals as goal

pub returns : goal.returns
returns c =
    let log = c.args.log.now in
    let past : length log ≤ c.events.event-index = search rules in
    short_log log (subst (AllByRecursion IsShortEvent) (take_all c.events.event-index log past) c.events.invariant)
