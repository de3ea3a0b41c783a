use Rattle.std.proofs.lemmas.Result.{on_ok_weaker}
use Rattle.bat_group.proofs.KeyLemmas.{keys_next}
use Rattle.bat_group.proofs.numbered.Numbered.meet.Goals as goal

pub returns-clause-met : goal.returns-clause-met
returns-clause-met g c = on_ok_weaker c.push.result (λ more keys old.
    keys_next g.K.PartialEq.eq g.met.K.Eq.laws c.args.self.now (record { numbers = c.number_of.new.numbers; count = c.number_of.new.count; out = c.push.new.self }) keys c.args.key c.in_ok-own.own old
    (c.in_ok-own.ensures.numbered _ old.known) (c.in_ok-own.ensures.place _ old.known) more) c.push.ensures.ok
