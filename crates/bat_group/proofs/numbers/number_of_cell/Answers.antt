use Rattle.std.proofs.Common.{Some, sym, subst, ◌∙◌}
use Rattle.std.specs.HashMap.{Updates}
use Rattle.cell_core.specs.declared.cell.Cell.{Cell}
use Rattle.cell_core.specs.Same.{same_cell, same_equivalence}
use Rattle.bat_group.proofs.NumberLemmas.{number_known, number_fresh}
use Rattle.bat_group.proofs.numbers.number_of_cell.Goals as goal

pub returns-in-Some-clause-place : goal.returns-in-Some-clause-place
returns-in-Some-clause-place c = λ firsts known. (number_known same_cell same_equivalence _ _ _ firsts _ known (sym c.in-Some.is ∙ c.copied.ensures ∙ c.get.ensures.value)).0

pub returns-in-Some-clause-numbered : goal.returns-in-Some-clause-numbered
returns-in-Some-clause-numbered c = λ firsts known. (number_known same_cell same_equivalence _ _ _ firsts _ known (sym c.in-Some.is ∙ c.copied.ensures ∙ c.get.ensures.value)).1

pub returns-in_ok-insert-in-None-clause-place : goal.returns-in_ok-insert-in-None-clause-place
returns-in_ok-insert-in-None-clause-place c = λ firsts known.
    (number_fresh same_cell same_equivalence c.args.numbers.now c.insert.new.self c.args.count.now firsts c.args.cell.now known (sym c.in-None.is ∙ c.copied.ensures ∙ c.get.ensures.value)
    (subst (λ (k : Cell). Updates same_cell c.args.numbers.now c.insert.new.self k (Some c.args.count.now)) c.in_ok-share-in-None.ensures c.in_ok-insert-in-None.ensures.updates)).0

pub returns-in_ok-insert-in-None-clause-numbered : goal.returns-in_ok-insert-in-None-clause-numbered
returns-in_ok-insert-in-None-clause-numbered c = λ firsts known.
    (number_fresh same_cell same_equivalence c.args.numbers.now c.insert.new.self c.args.count.now firsts c.args.cell.now known (sym c.in-None.is ∙ c.copied.ensures ∙ c.get.ensures.value)
    (subst (λ (k : Cell). Updates same_cell c.args.numbers.now c.insert.new.self k (Some c.args.count.now)) c.in_ok-share-in-None.ensures c.in_ok-insert-in-None.ensures.updates)).1
