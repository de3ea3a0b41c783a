use Rattle.std.proofs.Common.{sym, ◌∙◌}
use Rattle.bat_group.proofs.NumberLemmas.{number_known, number_fresh}
use Rattle.bat_group.proofs.numbers.number_of.Goals as goal

pub returns-in-Some-clause-place : goal.returns-in-Some-clause-place
returns-in-Some-clause-place g c = λ firsts known. (number_known g.K.PartialEq.eq g.met.K.Eq.laws _ _ _ firsts _ known (sym c.in-Some.is ∙ c.copied.ensures ∙ c.get.ensures.value)).0

pub returns-in-Some-clause-numbered : goal.returns-in-Some-clause-numbered
returns-in-Some-clause-numbered g c = λ firsts known. (number_known g.K.PartialEq.eq g.met.K.Eq.laws _ _ _ firsts _ known (sym c.in-Some.is ∙ c.copied.ensures ∙ c.get.ensures.value)).1

pub returns-in_ok-insert-in-None-clause-place : goal.returns-in_ok-insert-in-None-clause-place
returns-in_ok-insert-in-None-clause-place g c = λ firsts known. (number_fresh g.K.PartialEq.eq g.met.K.Eq.laws c.args.numbers.now c.insert.new.self c.args.count.now firsts c.args.key known (sym c.in-None.is ∙ c.copied.ensures ∙ c.get.ensures.value) c.in_ok-insert-in-None.ensures.updates).0

pub returns-in_ok-insert-in-None-clause-numbered : goal.returns-in_ok-insert-in-None-clause-numbered
returns-in_ok-insert-in-None-clause-numbered g c = λ firsts known. (number_fresh g.K.PartialEq.eq g.met.K.Eq.laws c.args.numbers.now c.insert.new.self c.args.count.now firsts c.args.key known (sym c.in-None.is ∙ c.copied.ensures ∙ c.get.ensures.value) c.in_ok-insert-in-None.ensures.updates).1
