use Rattle.std.proofs.lemmas.Result.{on_ok_weaker}
use Rattle.cell_core.specs.Same.{same_cell, same_equivalence}
use Rattle.bat_group.proofs.KeyLemmas.{keys_next}
use Rattle.bat_group.proofs.numbered.Numbered+Cell.meet_cell.Goals as goal

pub returns-clause-met : goal.returns-clause-met
returns-clause-met c = on_ok_weaker c.push.result (λ more cells old.
    keys_next same_cell same_equivalence c.args.self.now (record { numbers = c.number_of_cell.new.numbers; count = c.number_of_cell.new.count; out = c.push.new.self }) cells c.args.cell.now c.in_ok-own.own old
    (c.in_ok-own.ensures.numbered _ old.known) (c.in_ok-own.ensures.place _ old.known) more) c.push.ensures.ok
