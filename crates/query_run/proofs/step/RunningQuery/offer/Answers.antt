use Rattle.std.proofs.Common.{refl, ap, sym, ◌∙◌, subst}
use Rattle.bat_core.specs.declared.shared.Obj.TheVariants.{Bat}
use Rattle.query_keys.specs.Laws.{id_given}
use Rattle.query_run.specs.Queries.{HasGained}
use Rattle.query_run.proofs.step.RunningQuery.offer.Goals as goal

pub returns-clause-step : goal.returns-clause-step
returns-clause-step g c =
    let id = c.id_given.ensures ∙ ap id_given c.in_ok-said.ensures.answer in
    (c.take_in.new.self, refl, subst (λ k. HasGained c.args.self c.args.n (Bat c.args.offer.value) k c.args.self.work c.take_in.new.self) id (subst (λ v. HasGained c.args.self c.args.n (Bat v) c.id_given.result c.args.self.work c.take_in.new.self) c.in_ok-value.ensures c.take_in.ensures))
