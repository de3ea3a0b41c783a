use Rattle.std.proofs.Common.{◌≡◌, arith, length}
use Rattle.std.proofs.lemmas.Bool.Decides.{nat_tests}
use Rattle.turn_lines.specs.Schedule.{lines_of}
use Rattle.turn_lines.proofs.TurnLemmas.{all_read, turns_within}
use Rattle.turn_lines.proofs.turns.turns_of.Goals as goal

pub returns-clause-within : goal.returns-clause-within
returns-clause-within c =
    let none : length c.lines.rest.now ≡ 0 = grind (arith, nat_tests) in
    let is = all_read c.args.sessions _ c.args.text.now c.lines.rest.now c.lines.turns.items c.lines.invariant.read none in
    turns_within c.args.sessions 1 (lines_of c.args.text.now) c.lines.turns.items is
